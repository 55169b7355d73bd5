use Rattle.std.specs.Prelude.{◌≡◌, ℕ, List, ℤ}
use Rattle.propagation.specs.Networks.{Network}
use Rattle.records.specs.Checks.{Lawful, table_code, sum_code}
use Rattle.records.specs.Tables.{variable_count, stops, minutes}
use Rattle.table_networks.specs.Costs as costs
use Rattle.table_networks.specs.Files as tables
use Rattle.sum_networks.specs.Files as sums
use Rattle.answers.specs.declared.Price.{Price}
use Rattle.answers.specs.declared.Price.TheVariants.{Pair, Total}
use Rattle.answers.specs.declared.Sort.{Sort}
use Rattle.answers.specs.declared.Sort.TheVariants.{Table, Sum}

-- what the bytes of a file of one sort say: the number of the check that a record fails, and the problem
pub record Reading (C : Type 0) : Type 0 where
  pub sort : Sort
  pub code : List ℕ → ℕ → ℕ
  pub network : List ℕ → Network
  pub start : List ℕ → List ℕ
  pub bound : List ℕ → List ℕ → C
  pub cost : List ℕ → List ℕ → C
  pub price : C → Price

-- the least stops and the least minutes of a table file's node
abbrev pub table_bound : List ℕ → List ℕ → ℕ × ℕ
table_bound bs = costs.bound (stops bs) (minutes bs) (variable_count bs)

-- the stops and the minutes of an assignment of a table file
abbrev pub table_cost : List ℕ → List ℕ → ℕ × ℕ
table_cost bs = costs.cost (stops bs) (minutes bs) (variable_count bs)

abbrev pub table_reading : Reading (ℕ × ℕ)
table_reading = record {
  sort = Table;
  code = table_code;
  network = tables.network_of;
  start = tables.start_of;
  bound = table_bound;
  cost = table_cost;
  price = Pair;
}

abbrev pub sum_reading : Reading ℤ
sum_reading = record {
  sort = Sum;
  code = sum_code;
  network = sums.network_of;
  start = sums.start_of;
  bound = sums.bound_of;
  cost = sums.cost_of;
  price = Total;
}

-- the file is lawful, and p, start, bound and cost are those of its problem
pub record Held {C : Type 0} (r : Reading C) (bs : List ℕ) (p : Network) (start : List ℕ) (bound cost : List ℕ → C) : Type 0 where
  pub lawful : Lawful r.code bs
  pub by_network : p ≡ r.network bs
  pub by_start : start ≡ r.start bs
  pub by_bound : bound ≡ r.bound bs
  pub by_cost : cost ≡ r.cost bs
