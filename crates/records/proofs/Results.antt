-- What `map_err` hands on, with its `?`, and what a lookup hands on through `ok_or`.
use Rattle.std.proofs.Common.{◌≡◌, ℕ, ◌+◌, ◌-◌, ◌<◌, ◌≤◌, List, length, take, drop, get_or, [], ◌∙◌, Option, Some, None, Ok, Err, Result, Bor, arith}
use Rattle.std.proofs.lemmas.List.{get_or-take, get_or-drop, length-take, length-drop}
use Rattle.std.specs.Option.{ok_or}
use Rattle.std.specs.Result.{MatchResult, IsErrAnd}
use Rattle.std.specs.Slice.{IsItemAt}
use Rattle.records.specs.declared.refusal.Cause.{Cause}
use Rattle.records.specs.declared.refusal.Refusal.{Refusal}

-- a value that comes out of `map_err` is the one that went in
pub same_ok : {A D E : Type 0} (P : A → Type 0) (Q : E → Type 0) (S : E → D → Type 0) (r : Result A E) (q : Result A D) (v : A) → MatchResult r P Q → MatchResult r (λ x. q ≡ Ok x) (λ e. IsErrAnd q (S e)) → q ≡ Ok v → P v
same_ok P Q S (Ok x) q v h g e = let i : x ≡ v = cc in rw i at h
same_ok P Q S (Err y) q v h g e = absurd (rw e at g)

-- and an error is what the closure makes of the one that went in
pub made_err : {A D E : Type 0} (P : A → Type 0) (Q : E → Type 0) (S : E → D → Type 0) (r : Result A E) (q : Result A D) (d : D) → MatchResult r P Q → MatchResult r (λ x. q ≡ Ok x) (λ e. IsErrAnd q (S e)) → q ≡ Err d → (y : E) × Q y × S y d
made_err P Q S (Ok x) q d h g e = absurd cc
made_err P Q S (Err y) q d h g e = (y, h, rw e at g)

-- the refusal of a record for a cause
abbrev pub at_record : Cause → ℕ → Refusal
at_record c k = record { cause = c; «record» = k }

-- what `get` finds, or the error that `ok_or` puts in its place
pub looked_up : {E : Type 0} (P : Bor (List ℕ) → Type 0) (Q : E → Type 0) (xs : List (List ℕ)) (k : ℕ) (o : Option (Bor (List ℕ))) (e : E) (r : Result (Bor (List ℕ)) E) → IsItemAt xs k o → r ≡ ok_or o e → ((x : Bor (List ℕ)) → k < length xs → x.now ≡ get_or xs k [] → P x) → (length xs ≤ k → Q e) → MatchResult r P Q
looked_up P Q xs k None e r h g p q = rw g (q h.3)
looked_up P Q xs k (Some x) e r h g p q = rw g (p x h.3.0 (h.4 (omega arith) []))

-- the records from number n on: how many, and which
pub rest_length : (xs : List (List ℕ)) (n : ℕ) → length (take (length xs - n) (drop n xs)) ≡ length xs - n
rest_length xs n = simp (length-take, length-drop) (omega arith)

pub rest_at : (xs : List (List ℕ)) (n k : ℕ) → k < length (take (length xs - n) (drop n xs)) → get_or (take (length xs - n) (drop n xs)) k [] ≡ get_or xs (n + k) []
rest_at xs n k h = get_or-take (length xs - n) (drop n xs) k [] (omega (arith, rest_length xs n)) ∙ get_or-drop n xs k []
