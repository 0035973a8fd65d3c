use Rattle.laws.proofs.Prelude.{◌≡◌, ◌≤◌, length}
use Rattle.jsdoc.specs.Reader.{parse_jsdoc_import_decl}
use Rattle.jsdoc.specs.code.Marks.{ByMark, all_marked}
use Rattle.jsdoc.proofs.marks.mark_declarations.Given as goal

abbrev pub invariant-loop-at : goal.invariant-loop-at
invariant-loop-at g l = record {
  left : length l.rest ≤ length l.body;
  answer : ByMark (goal.F-post g l.mark) (λ f. (d : _)
      → all_marked f d parse_jsdoc_import_decl (length l.body) l.body l.initial.table ≡ all_marked f d parse_jsdoc_import_decl (length l.body) l.rest l.table);
}

abbrev pub decreases-loop-at : goal.decreases-loop-at
decreases-loop-at g l = length l.rest
