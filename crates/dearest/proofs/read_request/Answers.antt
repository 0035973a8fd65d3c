use Rattle.std.proofs.lemmas.Slice.Eq.{strip_suffix_is}
use Rattle.std.proofs.lemmas.Bool.Decides.{Decides-eqb}
use Rattle.laws.proofs.Prelude.{refl}
use Rattle.laws.specs.Ascii.{ascii}
use Rattle.dearest.proofs.Requests.{by_suffix}
use Rattle.dearest.proofs.read_request.Goals as goal

pub returns : goal.returns
returns c =
    let input = c.args.input in
    by_suffix input.now c.strip_suffix.result (strip_suffix_is Decides-eqb input.now (ascii "\n") c.strip_suffix.result c.strip_suffix.ensures.cases)
    input refl c.read_numeral.result (rw c.unwrap_or.ensures at c.read_numeral.ensures)
