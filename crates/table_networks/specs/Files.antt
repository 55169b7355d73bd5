use Rattle.std.specs.Prelude.{ℕ, cond, List, nat_lt}
use Rattle.propagation.specs.Networks.{Network}
use Rattle.propagation.specs.Closing.{words}
use Rattle.records.specs.Tables.{variable_count, table_count, start_word, table_x, table_y, table_row}
use Rattle.table_networks.specs.Tables.{Table, tables_network}

-- what the bytes of a table file say

-- table k
abbrev pub table_at : List ℕ → ℕ → Table
table_at bs k = record { x = table_x bs k; y = table_y bs k; row = table_row bs k }

abbrev pub network_of : List ℕ → Network
network_of bs = tables_network (variable_count bs) (table_count bs) (table_at bs)

-- the start words, and 0 for each word that is not in use
unfoldable pub start_of : List ℕ → List ℕ
start_of bs = words (λ i. cond (nat_lt i (variable_count bs)) (start_word bs i) 0) 32 0
