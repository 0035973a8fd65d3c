use Rattle.laws.proofs.Prelude.{Bool, true, [], ◌≤◌, ◌&&◌, List, length}
use Rattle.std.specs.Fn.{FnReturnsAt}
use Rattle.sheet.specs.{Nodes.node}
use Rattle.report.specs.{ModuleInfo.KeyValue, Ascending.Ascends}
use Rattle.attributes.specs.{Attributes.Prop, code.Views.Tests, code.Views.kept, code.Views.all_keyed, code.Views.PairIn}
use Rattle.laws.specs.{Codec.All, code.Among.EndOf}
use Rattle.attributes.proofs.Loops.{Going}
use Rattle.attributes.proofs.readings.parse_import_attributes_from_object_lit.Given as goal

abbrev pub keyed_after : Bool → List Prop → Bool
keyed_after b es = b && all_keyed es

abbrev pub invariant-loop : goal.invariant-loop
invariant-loop g l = record {
  always : goal.F-IsAlwaysCallable g l.counts;
  few : length l.pairs ≤ l.counter;
  flag : Going keyed_after (node l.source l.levels) true l.count l.s l.all_keyed l.counter l.at;
  going : (f : KeyValue → Bool) → Tests (FnReturnsAt g.F.Fn l.counts) f → Going (kept f) (node l.source l.levels) [] l.count l.s l.pairs l.counter l.at;
  rest : EndOf l.at l.s;
  parts : All (PairIn l.s) l.pairs;
  ascending : Ascends l.pairs;
}
