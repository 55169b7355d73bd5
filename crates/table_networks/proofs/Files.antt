use Rattle.std.proofs.Common.{ℕ, List}
use Rattle.propagation.specs.Networks.{Sane}
use Rattle.records.specs.Checks.{LawfulTable}
use Rattle.records.specs.Tables.{variable_count, table_count}
use Rattle.records.proofs.Facts.{x_below, y_below, ends_apart}
use Rattle.table_networks.specs.Files.{table_at, network_of}
use Rattle.table_networks.proofs.Tabled.{tables_sane}

-- the tables of a lawful file keep the laws of constraints
pub network_sane : (bs : List ℕ) → LawfulTable bs → Sane (network_of bs)
network_sane bs ok =
    tables_sane (variable_count bs) (table_count bs) (table_at bs)
    (λ k l. record { x_below = x_below bs k ok l; y_below = y_below bs k ok l; apart = ends_apart bs k ok l })
