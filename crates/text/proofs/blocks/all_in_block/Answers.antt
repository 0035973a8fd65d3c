use Rattle.laws.proofs.Prelude.{sym, ◌∙◌, eqb-true}
use Rattle.text.proofs.{Tested.block_counted}
use Rattle.text.proofs.blocks.all_in_block.Goals as goal

pub returns-then-s : goal.returns-then-s
returns-then-s g c = λ e. (c.if-s.true, λ p h. block_counted p c.args.s.now g.row.N c.if-s.true (sym (c.count_in.ensures p h) ∙ eqb-true _ _ e))
