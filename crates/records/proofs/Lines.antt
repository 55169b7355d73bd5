use Rattle.std.proofs.Common.{◌≡◌, ℕ, zero, suc, ◌+◌, ◌-◌, ◌*◌, ◌<◌, ◌≤◌, true, ◌⊎◌, List, [], ◌∷◌, get_or, drop, ℤ, pos, sym, refl, ap, ◌∙◌, inl, inr, arith}
use Rattle.std.proofs.lemmas.Bool.Decides.{nat_tests}
use Rattle.std.proofs.lemmas.Bool.{and_parts, eqb-true, cases_order, cases_eq}
use Rattle.std.proofs.lemmas.List.{get_or-drop}
use Rattle.std.proofs.lemmas.Int.{ints}
use Rattle.records.specs.Words.{word, signed}
use Rattle.records.specs.Checks.{zeros, within, limited, table_line_code, sum_line_code}
use Rattle.records.specs.Sums.{Small, Moderate}

-- what a record of a table file that passes its checks is: a variable or a table
pub record Variable (l : List ℕ) (k v : ℕ) : Type 0 where
  pub kind : get_or l 0 0 ≡ 1
  pub all : v ≡ k
  pub few : k < 32
  pub start : word l 4 ≡ 0 → ⊥

pub record Pair (l : List ℕ) (k v : ℕ) : Type 0 where
  pub kind : get_or l 0 0 ≡ 2
  pub later : 0 < k
  pub x : get_or l 1 0 < v
  pub y : get_or l 2 0 < v
  pub apart : get_or l 1 0 ≡ get_or l 2 0 → ⊥

variable_line : (l : List ℕ) (k v : ℕ) → get_or l 0 0 ≡ 1 → table_line_code l k v ≡ 0 → Variable l k v
variable_line l k v e h =
    record { kind = e; all = grind (arith, nat_tests); few = grind (arith, nat_tests); start = λ z. grind (arith, nat_tests) }

pair_line : (l : List ℕ) (k v : ℕ) → (get_or l 0 0 ≡ 1 → ⊥) → table_line_code l k v ≡ 0 → Pair l k v
pair_line l k v d h =
    record {
      kind = grind (arith, nat_tests);
      later = grind (arith, nat_tests);
      x = grind (arith, nat_tests);
      y = grind (arith, nat_tests);
      apart = λ z. grind (arith, nat_tests);
    }

pub table_line : (l : List ℕ) (k v : ℕ) → table_line_code l k v ≡ 0 → Variable l k v ⊎ Pair l k v
table_line l k v h =
    elim (cases_eq (get_or l 0 0) 1) [ inl e ↦ inl (variable_line l k v e h) | inr d ↦ inr (pair_line l k v d h) ]

pub record Objective (l : List ℕ) (n : ℕ) : Type 0 where
  pub kind : get_or l 0 0 ≡ 3
  pub some : 0 < n
  pub few : n ≤ 32
  pub tail : zeros (drop (8 + 4 * n) l) ≡ true
  pub small : limited l 32 ≡ true

pub record Sum (l : List ℕ) (n : ℕ) : Type 0 where
  pub kind : get_or l 0 0 ≡ 4
  pub tail : zeros (drop (8 + 4 * n) l) ≡ true
  pub small : limited l 32 ≡ true
  pub least : within (signed l 4) 40000000 ≡ true

pub objective_line : (l : List ℕ) (n : ℕ) → sum_line_code l 0 n ≡ 0 → Objective l n
objective_line l n h = record { kind = grind (arith, nat_tests); some = grind (arith, nat_tests); few = grind (arith, nat_tests); tail = grind (arith, nat_tests); small = grind (arith, nat_tests) }

pub sum_line : (l : List ℕ) (k n : ℕ) → 0 < k → sum_line_code l k n ≡ 0 → Sum l n
sum_line l k n p h = record { kind = grind (arith, nat_tests); tail = grind (arith, nat_tests); small = grind (arith, nat_tests); least = grind (arith, nat_tests) }

pub limited_at : (l : List ℕ) (n i : ℕ) → limited l n ≡ true → i < n → within (signed l (8 + 4 * i)) 1000000 ≡ true
unfolding limited
limited_at l zero i h p = absurd (omega arith)
limited_at l (suc n) i h p =
    let q = and_parts _ _ h in
    elim (cases_order i n) [
      | inl e ↦ rw e q.0
      | inr o ↦ elim o [ inl a ↦ limited_at l n i q.1 a | inr b ↦ absurd (omega arith) ]
    ]

pub small : (z : ℤ) → within z 1000000 ≡ true → Small z
small z h = (grind (arith, ints), grind (arith, ints))

pub moderate : (z : ℤ) → within z 40000000 ≡ true → Moderate z
moderate z h = (grind (arith, ints), grind (arith, ints))

pub zeros_at : (l : List ℕ) (i : ℕ) → zeros l ≡ true → get_or l i 0 ≡ 0
zeros_at [] i h = refl
zeros_at (x ∷ l) zero h = eqb-true x 0 (and_parts _ _ h).0
zeros_at (x ∷ l) (suc i) h = zeros_at l i (and_parts _ _ h).1

pub tail_none : (l : List ℕ) (n i : ℕ) → zeros (drop (8 + 4 * n) l) ≡ true → n ≤ i → signed l (8 + 4 * i) ≡ pos 0
tail_none l n i h p =
    let at : (m : ℕ) → 8 + 4 * n ≤ m → get_or l m 0 ≡ 0 =
    λ m q. ap (λ (k : ℕ). get_or l k 0) (omega arith) ∙ sym (get_or-drop (8 + 4 * n) l (m - (8 + 4 * n)) 0) ∙ zeros_at (drop (8 + 4 * n) l) (m - (8 + 4 * n)) h in
    rw (at (8 + 4 * i) (omega arith), at (8 + 4 * i + 1) (omega arith), at (8 + 4 * i + 2) (omega arith), at (8 + 4 * i + 3) (omega arith))
