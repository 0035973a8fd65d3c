-- What `cite` prints where one comment is reworded: a line is printed as before if its place is not inside that comment's body.
use Rattle.report.specs.Answer.{Outcome}
use Rattle.laws.proofs.Prelude.{List, ℕ}
use Rattle.module_info.specs.Demands.{Demands}
use Rattle.citation.proofs.ColumnsRight.{printed_same}
use Rattle.cite.specs.Cited.{KeptLines}

pub kept_lines : {s buffer : List ℕ} {size : ℕ} {outcome : Outcome} → Demands s size outcome buffer → KeptLines s
kept_lines d = λ t of r u of' k revision l place at starts ends.
    let h = d.revisions t of r u of' k revision in
    printed_same
    t.source
    u.source
    l
    place
    at.is
    (h.in_characters place.start starts)
    (h.in_characters place.end ends)
    (h.in_units place.start starts)
    (h.in_units place.end ends)
