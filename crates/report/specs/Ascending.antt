-- Keys that ascend by their bytes, each once.
use Rattle.std.specs.Prelude.{◌≡◌, List}
use Rattle.laws.specs.Ordered.{Ordered}
use Rattle.std.specs.declared.cmp.Ordering.TheVariants.{Less}
use Rattle.text.specs.Bytes.{order}
use Rattle.report.specs.ModuleInfo.{KeyValue}

-- each key is before those of all pairs that follow
abbrev pub Ascends : List KeyValue → Type 0
Ascends = Ordered (λ a b. order a.key b.key ≡ Less)
