use Rattle.std.proofs.Common.{◌≡◌, ℕ, ◌+◌, ◌*◌, ◌<◌, true, cond, ◌&&◌, eqb, List, length, get_or, drop, refl, sym, add-one, zero, suc, Bool, [], ◌∷◌, take, ap, ◌∙◌, arith}
use Rattle.std.proofs.Math.Bool.{and-true, and_assoc}
use Rattle.std.specs.List.{fold, list_all}
use Rattle.std.specs.Simd.{first_chunks}
use Rattle.std.proofs.lemmas.List.{at_drop_more, drop-drop}
use Rattle.records.specs.Words.{signed}
use Rattle.records.specs.Checks.{line, count, zeros, within, limited, variables, table_line_code, table_code, sum_line_code, sum_width, sum_code}
use Rattle.records.specs.Tables.{variable_count}

pub variables_more : (bs : List ℕ) (k : ℕ) → variables bs (k + 1) ≡ variables bs k + cond (eqb (get_or (line bs k) 0 0) 1) 1 0
unfolding variables
variables_more bs k = rw add-one

pub variables_none : (bs : List ℕ) → variables bs 0 ≡ 0
unfolding variables
variables_none bs = refl

pub counted : (bs l : List ℕ) (k v w : ℕ) → l ≡ line bs k → v ≡ variables bs k → w ≡ v + cond (eqb (get_or l 0 0) 1) 1 0 → w ≡ variables bs (k + 1)
counted bs l k v w e h g = let m = variables_more bs k in cc

pub all_counted : (bs : List ℕ) (k v : ℕ) → v ≡ variables bs k → k ≡ count bs → v ≡ variable_count bs
unfolding variable_count
all_counted bs k v e h = cc

pub table_coded : (bs l : List ℕ) (k v n : ℕ) → l ≡ line bs k → v ≡ variables bs k → table_line_code l k v ≡ n → table_code bs k ≡ n
unfolding table_code
table_coded bs l k v n e h g = cc

pub sum_coded : (bs l : List ℕ) (k v n : ℕ) → l ≡ line bs k → v ≡ sum_width bs → sum_line_code l k v ≡ n → sum_code bs k ≡ n
unfolding sum_code
sum_coded bs l k v n e h g = cc

pub limited_more : (l : List ℕ) (i : ℕ) → limited l (i + 1) ≡ (within (signed l (8 + 4 * i)) 1000000 && limited l i)
unfolding limited
limited_more l i = rw add-one

pub limited_none : (l : List ℕ) → limited l 0 ≡ true
unfolding limited
limited_none l = refl

pub zeros_more : (s : List ℕ) (i : ℕ) → i < length s → zeros (drop i s) ≡ (eqb (get_or s i 0) 0 && zeros (drop (i + 1) s))
zeros_more s i h = at_drop_more zeros s i 0 h

pub width_read : (bs l : List ℕ) → l ≡ line bs 0 → get_or l 1 0 ≡ sum_width bs
unfolding sum_width
width_read bs l e = cc

pub zeros_over : (b : Bool) (s : List ℕ) → fold (λ z x. z && eqb x 0) b s ≡ (b && zeros s)
zeros_over b [] = sym (and-true b)
zeros_over b (x ∷ s) = zeros_over (b && eqb x 0) s ∙ and_assoc b (eqb x 0) (zeros s)

-- record k of the first m records of a list
pub chunk_at : {X : Type 0} (n k m : ℕ) (xs : List X) → k < m → get_or (first_chunks n m xs) k [] ≡ take n (drop (n * k) xs)
chunk_at n k zero xs h = absurd (omega arith)
chunk_at n zero (suc m) xs h = let e : n * 0 ≡ 0 = omega arith in rw e
chunk_at n (suc k) (suc m) xs h =
    let e : n * suc k ≡ n + n * k = omega arith in
    rw e (chunk_at n k m (drop n xs) (omega arith) ∙ ap (take n) (drop-drop (n * k) n xs))

pub zeros_split : (n : ℕ) (s : List ℕ) → zeros s ≡ (zeros (take n s) && zeros (drop n s))
zeros_split zero s = refl
zeros_split (suc n) [] = refl
zeros_split (suc n) (x ∷ s) = ap (λ b. eqb x 0 && b) (zeros_split n s) ∙ sym (and_assoc (eqb x 0) (zeros (take n s)) (zeros (drop n s)))

-- a list is all 0 just where its first m blocks are, and what is behind them
zeros_chunks : (n m : ℕ) (s : List ℕ) → zeros s ≡ (list_all zeros (first_chunks n m s) && zeros (drop (m * n) s))
zeros_chunks n zero s = let e : 0 * n ≡ 0 = omega arith in rw e
zeros_chunks n (suc m) s =
    let e : suc m * n ≡ n + m * n = omega arith in
    rw (e, ← drop-drop (m * n) n s)
    (zeros_split n s ∙ ap (λ b. zeros (take n s) && b) (zeros_chunks n m (drop n s)) ∙ sym (and_assoc (zeros (take n s)) (list_all zeros (first_chunks n m (drop n s))) (zeros (drop (m * n) (drop n s)))))

pub zeros_by_blocks : (n m : ℕ) (s rest : List ℕ) (blocks : List (List ℕ)) → blocks ≡ first_chunks n m s → rest ≡ drop (m * n) s → zeros s ≡ (list_all zeros blocks && zeros rest)
zeros_by_blocks n m s rest blocks e f = rw (e, f) (zeros_chunks n m s)
