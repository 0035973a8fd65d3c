use Rattle.laws.proofs.Prelude.{rules, ◌≡◌, refl, cond, known as found_is}
use Rattle.std.specs.Prelude.{None}
use Rattle.sheet.specs.{Shape.shape}
use Rattle.report.specs.ModuleInfo.{none, unknown, known}
use Rattle.attributes.specs.{Attributes.argument_properties}
use Rattle.laws.proofs.Among.{end_further}
use Rattle.attributes.proofs.Parts.{pairs_further}
use Rattle.attributes.proofs.Loops.{goes_on, stops, ends, settles}
use Rattle.attributes.proofs.Keys.{attributes_key, other_key}
use Rattle.attributes.proofs.readings.parse_argument_properties.Goals as goal
use Rattle.attributes.proofs.readings.parse_argument_properties.Goals.{in_default-via-in-Ok+in_default, in_default-via-in_default}
use Rattle.attributes.proofs.readings.parse_argument_properties.Goals.{then-is_attributes_key+else-not-parse_nested, else-is_attributes_key}

pub returns-in_default-clause-value : goal.returns-in_default-clause-value
unfolding argument_properties
returns-in_default-clause-value c ps t e =
    elim c.in_default.branch [
      | in_default-via-in-Ok+in_default w ↦
          let none : w.in_default.field-0.0 ≡ None = search rules in
          let read = rw (w.in_default.is, none) at c.read_prop.ensures.value in
          settles c.loop.invariant.going ps t e c.loop-test.true read unknown (λ es. refl)
      | in_default-via-in_default w ↦
          let stop = rw w.in_default.is at c.read_prop.ensures.value in
          absurd (stops c.loop.invariant.going ps t e c.loop-test.true stop)
    ]

pub returns-then-not-parse_nested-clause-value : goal.returns-then-not-parse_nested-clause-value
returns-then-not-parse_nested-clause-value c ps t e =
    let l = c.loop in
    let arm = c.in-Ok-Some-default in
    let (v, value, read) = rw (arm.is, arm.field-0-0-is) at c.read_prop.ensures.value in
    let key = found_is c.is_attributes_key.ensures c.if-is_attributes_key.true in
    let nested = c.if-not-parse_nested.ensures.value v _ value in
    settles l.invariant.going ps t e c.loop-test.true read unknown
    (λ es. attributes_key l.had_with (cond l.had_attributes_key (known l.pairs) none) arm.k.key.now (shape v) es key refl nested)

pub loop-preserved : goal.loop-preserved
loop-preserved c =
    let l = c.loop in
    let found = cond l.had_attributes_key (known l.pairs) none in
    let arm = c.in-Ok-Some-default in
    let k = arm.k.key.now in
    let (v, value, read) = rw (arm.is, arm.field-0-0-is) at c.read_prop.ensures.value in
    let (stands, behind) = rw (arm.is, arm.field-0-0-is) at c.read_prop.ensures.parts in
    elim c.if-is_attributes_key.branch [
      | then-is_attributes_key+else-not-parse_nested w ↦
          let key = found_is c.is_attributes_key.ensures w.if-is_attributes_key.true in
          let nested = w.if-not-parse_nested.ensures.value v _ value in
          record {
            going = rw (w.pairs-is, w.had_attributes_key-is, w.had_with-is) (goes_on l.invariant.going c.loop-test.true read
                (λ es. attributes_key l.had_with found k (shape v) es key w.is_with-had_with.ensures nested));
            rest = end_further l.invariant.rest behind;
            parts = λ h. rw w.pairs-is (pairs_further (end_further l.invariant.rest stands.1) _ (w.if-not-parse_nested.ensures.parts refl));
            ascending = λ h. rw w.pairs-is (w.if-not-parse_nested.ensures.ascending refl);
          }
      | else-is_attributes_key w ↦
          let key = found_is c.is_attributes_key.ensures w.if-is_attributes_key.false in
          record {
            going = rw (w.pairs-is, w.had_attributes_key-is, w.had_with-is) (goes_on l.invariant.going c.loop-test.true read
                (λ es. other_key l.had_with found k (shape v) es key));
            rest = end_further l.invariant.rest behind;
            parts = λ h. rw w.pairs-is (l.invariant.parts (rw w.had_attributes_key-is at h));
            ascending = λ h. rw w.pairs-is (l.invariant.ascending (rw w.had_attributes_key-is at h));
          }
    ]

pub returns-then-had_attributes_key-clause-value : goal.returns-then-had_attributes_key-clause-value
unfolding argument_properties
returns-then-had_attributes_key-clause-value c ps t e = rw c.if-had_attributes_key.true at (ends c.loop.invariant.going ps t e c.loop-test.false)

pub returns-else-had_attributes_key-clause-value : goal.returns-else-had_attributes_key-clause-value
unfolding argument_properties
returns-else-had_attributes_key-clause-value c ps t e = rw c.if-had_attributes_key.false at (ends c.loop.invariant.going ps t e c.loop-test.false)
