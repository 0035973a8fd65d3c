-- The pairs in the rows of a table.
use Rattle.std.specs.Prelude.{List, ℕ, map, take, option_map}
use Rattle.std.specs.Borrow.{Bor}
use Rattle.report.specs.ModuleInfo.{KeyValue}
use Rattle.attributes.specs.declared.pairs.Pair.{Pair}

abbrev pub pair_as : Pair → KeyValue
pair_as p = record { key = p.key.now; value = option_map (λ (x : Bor (List ℕ)). x.now) p.value }

-- the pairs in the first n rows
abbrev pub pairs_in : List Pair → ℕ → List KeyValue
pairs_in rows n = map pair_as (take n rows)
