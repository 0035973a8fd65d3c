use Rattle.laws.proofs.Prelude.{rules}
use Rattle.text.specs.Utf8.{length_by, char_length}
use Rattle.text.proofs.ByRows.{measured}
use Rattle.text.proofs.utf8.char_length.Goals as goal

pub returns-then-begins_as-9 : goal.returns-then-begins_as-9
unfolding length_by char_length
returns-then-begins_as-9 c = measured c.args.encoding c.args.s.now (search rules)
