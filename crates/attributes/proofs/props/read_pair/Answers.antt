use Rattle.attributes.proofs.{Shapes.string_value, Shapes.no_string, Parts.exact_part}
use Rattle.attributes.proofs.props.read_pair.Goals as goal
use Rattle.attributes.proofs.props.read_pair.Goals.{in-Text, in-Object}

pub returns-clause-known : goal.returns-clause-known
returns-clause-known c =
    elim c.match-read_value.branch [
      | in-Text w ↦ rw (w.value-is, w.then_some-value.ensures) (exact_part _ _ (rw w.in-Text.is at c.read_value.ensures.bounds))
      | in-Object w ↦ rw w.value-is tt
    ]

pub returns-clause-value : goal.returns-clause-value
returns-clause-value c v t e =
    elim c.match-read_value.branch [
      | in-Text w ↦
          let is = rw w.in-Text.is at (c.read_value.ensures.answer v t e) in
          rw (w.value-is, w.then_some-value.ensures, w.is_exact.ensures.answer, string_value w.in-Text.text _ is)
      | in-Object w ↦ rw (w.value-is, no_string _ _ _ (c.read_value.ensures.answer v t e) w.in-Object.is)
    ]
