-- What a file that passes all checks has: for the crates that read one.
use Rattle.std.proofs.Common.{◌≡◌, ℕ, zero, suc, ◌+◌, ◌-◌, ◌<◌, ◌≤◌, ◌⊎◌, List, length, get_or, pos, refl, ◌∙◌, inl, inr, arith}
use Rattle.std.proofs.lemmas.Bool.Decides.{nat_tests}
use Rattle.std.proofs.lemmas.List.{get_or-take, length-take, length-drop}
use Rattle.records.specs.Checks.{line, count, whole_code, variables, table_code, sum_code, sum_width, LawfulTable, LawfulSum}
use Rattle.records.specs.Tables.{variable_count, table_count, start_word, table_x, table_y}
use Rattle.records.specs.Sums.{sum_count, objective_at, coefficient_at, least_at, Small, Moderate}
use Rattle.records.proofs.Lines.{Variable, Pair, table_line, Objective, Sum, objective_line, sum_line, limited_at, small, moderate, tail_none}

-- each record has its 136 bytes
pub line_size : (bs : List ℕ) (k : ℕ) → k < count bs → length (line bs k) ≡ 136
line_size bs k h = simp (length-take, length-drop) (omega arith)

-- a lawful file of either sort has records, and not too many
pub some_records : (bs : List ℕ) → whole_code bs ≡ 0 → 0 < count bs
some_records bs h = grind (arith, nat_tests)

pub few_records : (bs : List ℕ) → whole_code bs ≡ 0 → count bs ≤ 400
few_records bs h = grind (arith, nat_tests)

-- record k of a lawful table file is a variable or a table
parts : (bs : List ℕ) (k : ℕ) → LawfulTable bs → k < count bs → Variable (line bs k) k (variables bs k) ⊎ Pair (line bs k) k (variables bs k)
unfolding table_code
parts bs k h l = table_line (line bs k) k (variables bs k) (h.1 k l)

-- and so the number of variables grows by one or stays
up : (bs : List ℕ) (k : ℕ) → Variable (line bs k) k (variables bs k) → variables bs (suc k) ≡ suc k
unfolding variables
up bs k v = let e = v.kind in let a = v.all in grind (arith, nat_tests)

stays : (bs : List ℕ) (k : ℕ) → Pair (line bs k) k (variables bs k) → variables bs (suc k) ≡ variables bs k
unfolding variables
stays bs k p = let e = p.kind in grind (arith, nat_tests)

none : (bs : List ℕ) → variables bs 0 ≡ 0
unfolding variables
none bs = refl

at_most : (bs : List ℕ) (k : ℕ) → LawfulTable bs → k ≤ count bs → variables bs k ≤ k
at_most bs zero h l = omega (arith, none bs)
at_most bs (suc k) h l =
    let i = at_most bs k h (omega arith) in
    elim (parts bs k h (omega arith)) [ inl v ↦ omega (arith, up bs k v) | inr p ↦ omega (arith, stays bs k p) ]

at_most_32 : (bs : List ℕ) (k : ℕ) → LawfulTable bs → k ≤ count bs → variables bs k ≤ 32
at_most_32 bs zero h l = omega (arith, none bs)
at_most_32 bs (suc k) h l =
    let i = at_most_32 bs k h (omega arith) in
    elim (parts bs k h (omega arith)) [ inl v ↦ omega (arith, up bs k v, v.few) | inr p ↦ omega (arith, stays bs k p) ]

-- the number never falls
grows : (bs : List ℕ) (k d : ℕ) → LawfulTable bs → k + d ≤ count bs → variables bs k ≤ variables bs (k + d)
grows bs k zero h l = let e : k + 0 ≡ k = omega arith in rw e (omega arith)
grows bs k (suc d) h l =
    let i = grows bs k d h (omega arith) in
    let e : k + suc d ≡ suc (k + d) = omega arith in
    rw e (elim (parts bs (k + d) h (omega arith))
    [ inl v ↦ omega (arith, up bs (k + d) v, v.all) | inr p ↦ omega (arith, stays bs (k + d) p) ])

-- once a table has come, it stays
stuck : (bs : List ℕ) (k d : ℕ) → LawfulTable bs → k + d ≤ count bs → variables bs k < k → variables bs (k + d) ≡ variables bs k
stuck bs k zero h l s = let e : k + 0 ≡ k = omega arith in rw e
stuck bs k (suc d) h l s =
    let i = stuck bs k d h (omega arith) s in
    let e : k + suc d ≡ suc (k + d) = omega arith in
    rw e (elim (parts bs (k + d) h (omega arith))
    [ inl v ↦ absurd (omega (arith, v.all)) | inr p ↦ stays bs (k + d) p ∙ i ])

up_to : (bs : List ℕ) (k : ℕ) → LawfulTable bs → k ≤ count bs → variables bs k ≤ variable_count bs
unfolding variable_count
up_to bs k h l =
    let e : k + (count bs - k) ≡ count bs = omega arith in
    let g = grows bs k (count bs - k) h (omega arith) in rw e at g

-- the variables of a lawful table file are counted by `variable_count`, and the tables by `table_count`
pub variables_below : (bs : List ℕ) → LawfulTable bs → variable_count bs ≤ count bs
unfolding variable_count
variables_below bs h = at_most bs (count bs) h (omega arith)

pub variables_some : (bs : List ℕ) → LawfulTable bs → 0 < variable_count bs
variables_some bs h =
    let n = some_records bs h.0 in
    elim (parts bs 0 h n)
    [ inl v ↦ omega (arith, up bs 0 v, up_to bs 1 h (omega arith)) | inr p ↦ absurd (omega (arith, p.later)) ]

pub variables_few : (bs : List ℕ) → LawfulTable bs → variable_count bs ≤ 32
unfolding variable_count
variables_few bs h = at_most_32 bs (count bs) h (omega arith)

pub all_records : (bs : List ℕ) → LawfulTable bs → variable_count bs + table_count bs ≡ count bs
all_records bs h = omega (arith, variables_below bs h)

pub tables_few : (bs : List ℕ) → LawfulTable bs → table_count bs ≤ 399
tables_few bs h = omega (arith, few_records bs h.0, variables_some bs h)

variable_at : (bs : List ℕ) (i : ℕ) → LawfulTable bs → i < variable_count bs → Variable (line bs i) i (variables bs i)
unfolding variable_count
variable_at bs i h l =
    let w = variables_below bs h in
    let b : i < count bs = omega arith in
    elim (parts bs i h b) [
      | inl v ↦ v
      | inr p ↦
          let s = stays bs i p in
          let m = at_most bs i h (omega arith) in
          let e : suc i + (count bs - suc i) ≡ count bs = omega arith in
          let f = stuck bs (suc i) (count bs - suc i) h (omega arith) (omega arith) in
          absurd (omega (arith, rw e at f))
    ]

pair_at : (bs : List ℕ) (k : ℕ) → LawfulTable bs → k < table_count bs → Pair (line bs (variable_count bs + k)) (variable_count bs + k) (variables bs (variable_count bs + k))
pair_at bs k h l =
    let w = variables_below bs h in
    let b : variable_count bs + k < count bs = omega arith in
    elim (parts bs (variable_count bs + k) h b) [
      | inl v ↦ absurd (omega (arith, up bs (variable_count bs + k) v, up_to bs (suc (variable_count bs + k)) h (omega arith)))
      | inr p ↦ p
    ]

pub start_some : (bs : List ℕ) (i : ℕ) → LawfulTable bs → i < variable_count bs → start_word bs i ≡ 0 → ⊥
unfolding start_word
start_some bs i h l = (variable_at bs i h l).start

pub x_below : (bs : List ℕ) (k : ℕ) → LawfulTable bs → k < table_count bs → table_x bs k < variable_count bs
unfolding table_x
x_below bs k h l =
    omega (arith, (pair_at bs k h l).x, up_to bs (variable_count bs + k) h (omega (arith, variables_below bs h)))

pub y_below : (bs : List ℕ) (k : ℕ) → LawfulTable bs → k < table_count bs → table_y bs k < variable_count bs
unfolding table_y
y_below bs k h l =
    omega (arith, (pair_at bs k h l).y, up_to bs (variable_count bs + k) h (omega (arith, variables_below bs h)))

pub ends_apart : (bs : List ℕ) (k : ℕ) → LawfulTable bs → k < table_count bs → table_x bs k ≡ table_y bs k → ⊥
unfolding table_x table_y
ends_apart bs k h l = (pair_at bs k h l).apart

objective_is : (bs : List ℕ) → LawfulSum bs → Objective (line bs 0) (sum_width bs)
unfolding sum_code
objective_is bs h = objective_line (line bs 0) (sum_width bs) (h.1 0 (some_records bs h.0))

sum_is : (bs : List ℕ) (k : ℕ) → LawfulSum bs → k < sum_count bs → Sum (line bs (k + 1)) (sum_width bs)
unfolding sum_code
sum_is bs k h l = sum_line (line bs (k + 1)) (k + 1) (sum_width bs) (omega arith) (h.1 (k + 1) (omega arith))

-- a lawful sum file has from 1 to 32 variables, and at most 64 sums
pub width_some : (bs : List ℕ) → LawfulSum bs → 0 < sum_width bs
width_some bs h = (objective_is bs h).some

pub width_few : (bs : List ℕ) → LawfulSum bs → sum_width bs ≤ 32
width_few bs h = (objective_is bs h).few

first_kind : (bs : List ℕ) → LawfulSum bs → get_or bs 0 0 ≡ 3
first_kind bs h = let k = (objective_is bs h).kind in let t = get_or-take 136 bs 0 0 (omega arith) in cc

pub few_sum_records : (bs : List ℕ) → LawfulSum bs → count bs ≤ 65
few_sum_records bs h = let w = h.0 in let k = first_kind bs h in grind (arith, nat_tests)

pub sums_few : (bs : List ℕ) → LawfulSum bs → sum_count bs ≤ 64
sums_few bs h = omega (arith, few_sum_records bs h)

-- its numbers are within their limits, and the coefficients past its variables are 0
pub objective_small : (bs : List ℕ) (i : ℕ) → LawfulSum bs → i < 32 → Small (objective_at bs i)
unfolding objective_at
objective_small bs i h l = small _ (limited_at (line bs 0) 32 i (objective_is bs h).small l)

pub coefficient_small : (bs : List ℕ) (k i : ℕ) → LawfulSum bs → k < sum_count bs → i < 32 → Small (coefficient_at bs k i)
unfolding coefficient_at
coefficient_small bs k i h l m = small _ (limited_at (line bs (k + 1)) 32 i (sum_is bs k h l).small m)

pub least_moderate : (bs : List ℕ) (k : ℕ) → LawfulSum bs → k < sum_count bs → Moderate (least_at bs k)
unfolding least_at
least_moderate bs k h l = moderate _ (sum_is bs k h l).least

pub objective_none : (bs : List ℕ) (i : ℕ) → LawfulSum bs → sum_width bs ≤ i → objective_at bs i ≡ pos 0
unfolding objective_at
objective_none bs i h l = tail_none (line bs 0) (sum_width bs) i (objective_is bs h).tail l

pub coefficient_none : (bs : List ℕ) (k i : ℕ) → LawfulSum bs → k < sum_count bs → sum_width bs ≤ i → coefficient_at bs k i ≡ pos 0
unfolding coefficient_at
coefficient_none bs k i h l m = tail_none (line bs (k + 1)) (sum_width bs) i (sum_is bs k h l).tail m
