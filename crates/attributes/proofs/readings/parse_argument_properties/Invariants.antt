use Rattle.laws.proofs.Prelude.{◌≡◌, Bool, cond, false, true, List}
use Rattle.laws.specs.{Codec.All, code.Among.EndOf}
use Rattle.sheet.specs.{Nodes.node}
use Rattle.report.specs.ModuleInfo.{ImportAttributes, none, known}
use Rattle.report.specs.Ascending.{Ascends}
use Rattle.attributes.specs.{Attributes.Prop, Attributes.argument_properties, code.Views.PairIn}
use Rattle.attributes.proofs.Loops.{Going}
use Rattle.attributes.proofs.readings.parse_argument_properties.Given as goal

abbrev pub after : Bool × ImportAttributes → List Prop → ImportAttributes
after p es = argument_properties p.0 p.1 es

abbrev pub invariant-loop : goal.invariant-loop
invariant-loop l = record {
  going : Going after (node l.source l.levels) (false, none) l.count l.s (l.had_with, cond l.had_attributes_key (known l.pairs) none) l.counter l.at;
  rest : EndOf l.at l.s;
  parts : l.had_attributes_key ≡ true → All (PairIn l.s) l.pairs;
  ascending : l.had_attributes_key ≡ true → Ascends l.pairs;
}
