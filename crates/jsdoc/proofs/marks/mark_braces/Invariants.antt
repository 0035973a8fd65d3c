use Rattle.laws.proofs.Prelude.{◌≡◌, ◌≤◌, length}
use Rattle.jsdoc.specs.Reader.{parse_jsdoc_dynamic_import}
use Rattle.jsdoc.specs.code.Marks.{ByMark, Stays, all_marked}
use Rattle.jsdoc.proofs.marks.mark_braces.Given as goal

abbrev pub invariant-loop-brace : goal.invariant-loop-brace
invariant-loop-brace g l = record {
  left : length l.rest ≤ length l.body;
  answer : ByMark (goal.F-post g l.mark) (λ f. Stays f → (d : _)
      → all_marked f d parse_jsdoc_dynamic_import (length l.body) l.body l.initial.table
      ≡ all_marked f d parse_jsdoc_dynamic_import (length l.body) l.rest l.table);
}

abbrev pub decreases-loop-brace : goal.decreases-loop-brace
decreases-loop-brace g l = length l.rest
