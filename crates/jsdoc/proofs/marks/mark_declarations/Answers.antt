use Rattle.laws.proofs.Prelude.{arith, ◌∙◌, length}
use Rattle.jsdoc.specs.Reader.{parse_jsdoc_import_decl}
use Rattle.jsdoc.specs.code.Marks.{all_marked}
use Rattle.jsdoc.proofs.Marking.{one_less, declaration_turn}
use Rattle.jsdoc.proofs.marks.mark_declarations.Goals as goal

pub loop-at-preserved : goal.loop-at-preserved
loop-at-preserved g c =
    let n = length c.args.body.now in
    record {
      left = omega (arith, one_less c.in-Some.at.now, c.in-Some.ensures.there, c.loop-at.invariant.left);
      answer = λ f says d.
          ◌∙◌ {a = all_marked f d parse_jsdoc_import_decl n c.args.body.now c.args.table.now} (c.loop-at.invariant.answer f says d)
          (declaration_turn f d n c.loop-at.rest.now c.in-Some.at.now c.loop-at.table c.mark_one.new.table _ c.in-Some.ensures.value (omega arith)
          c.parse_jsdoc_import_decl.ensures (c.mark_one.ensures f says d));
    }
