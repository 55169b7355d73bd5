use Rattle.std.specs.Prelude.{◌≡◌, ℕ, ◌<◌, cond, List, ℤ, nat_lt, slice_index}
use Rattle.propagation.specs.Networks.{Network}
use Rattle.propagation.specs.Closing.{words}
use Rattle.records.specs.Sums.{sum_width, sum_count, objective_at, coefficient_at, least_at}
use Rattle.sum_networks.specs.Sums.{Sum, mask, total_of, sums_network, least_total}

-- The problem of a sum file.

-- sum k of a file
abbrev pub sum_at : List ℕ → ℕ → Sum
sum_at bs k = record { coefficient = coefficient_at bs k; least = least_at bs k }

abbrev pub network_of : List ℕ → Network
network_of bs = sums_network (sum_width bs) (sum_count bs) (sum_at bs)

-- 32 words: the values 0 and 1 for each variable, and none beyond them
unfoldable pub start_of : List ℕ → List ℕ
start_of bs = words (λ i. cond (nat_lt i (sum_width bs)) 3 0) 32 0

-- the least that an assignment in a node can cost, and the cost of an assignment
abbrev pub bound_of : List ℕ → List ℕ → ℤ
bound_of bs n = least_total (objective_at bs) (sum_width bs) n

abbrev pub cost_of : List ℕ → List ℕ → ℤ
cost_of bs a = total_of (objective_at bs) (sum_width bs) a

-- entry k is the set of the variables that sum k is about
abbrev pub Masks : List ℕ → List ℕ → Type 0
Masks bs masks = (k : ℕ) → k < sum_count bs → slice_index masks k ≡ mask (sum_at bs k) (sum_width bs)
