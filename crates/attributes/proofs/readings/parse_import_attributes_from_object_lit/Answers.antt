use Rattle.laws.proofs.Prelude.{rules, ◌≡◌, refl, sym, ap, ◌∙◌, Bool, true, false, List, arith}
use Rattle.std.proofs.Math.Bool.{and-true, and-false}
use Rattle.report.specs.ModuleInfo.{KeyValue}
use Rattle.attributes.specs.{Attributes.insert, code.Rows.pair_as, code.Views.kept, code.Views.all_keyed, code.Views.insert_if, code.Views.PairIn}
use Rattle.laws.proofs.Among.{end_further}
use Rattle.attributes.proofs.{Ascending.insert_ascends, Insertion.insert_length, Insertion.insert_all, Parts.pair_part}
use Rattle.attributes.proofs.Loops.{goes_on, stops, ends, settles}
use Rattle.attributes.proofs.readings.parse_import_attributes_from_object_lit.Goals as goal
use Rattle.attributes.proofs.readings.parse_import_attributes_from_object_lit.Goals.{in-Some+then-counts, in-Some+else-counts, in-None-2}

inserted : (f : KeyValue → Bool) (a b : KeyValue) (l : List KeyValue) → true ≡ f b → b ≡ a → insert_if f a l ≡ insert b l
inserted f a b l e i = let counts : f a ≡ true = rw i at (sym e) in rw (counts, i)

passed : (f : KeyValue → Bool) (a b : KeyValue) (l : List KeyValue) → false ≡ f b → b ≡ a → insert_if f a l ≡ l
passed f a b l e i = let counts : f a ≡ false = rw i at (sym e) in rw counts

pub returns-in_default-clause-readable : goal.returns-in_default-clause-readable
returns-in_default-clause-readable g c ps t e =
    let stop = rw c.in_default.is at c.read_prop.ensures.value in
    absurd (stops c.loop.invariant.flag ps t e c.loop-test.true stop)

pub returns-in_default-clause-unless_stopped : goal.returns-in_default-clause-unless_stopped
returns-in_default-clause-unless_stopped g c f ps t tests e =
    let stop = rw c.in_default.is at c.read_prop.ensures.value in
    absurd (stops c.loop.invariant.flag ps t e c.loop-test.true stop)

pub returns-in-None-clause-readable : goal.returns-in-None-clause-readable
unfolding all_keyed
returns-in-None-clause-readable g c ps t e =
    let read = rw (c.in-Ok.is, c.in-None.is) at c.read_prop.ensures.value in
    settles c.loop.invariant.flag ps t e c.loop-test.true read false (λ es. and-false c.loop.all_keyed)

pub loop-preserved : goal.loop-preserved
unfolding kept all_keyed
loop-preserved g c =
    let l = c.loop in
    let h = l.invariant in
    elim c.match-prop.branch [
      | in-Some+then-counts w ↦
          let (v, value, read) = rw (c.in-Ok.is, w.in-Some.is) at c.read_prop.ensures.value in
          let (stands, behind) = rw (c.in-Ok.is, w.in-Some.is) at c.read_prop.ensures.parts in
          let p = w.read_pair-pair.result in
          let pair = w.read_pair-pair.ensures.value v _ value in
          let part = pair_part h.rest w.in-Some.k stands p w.read_pair-pair.ensures.key w.read_pair-pair.ensures.known in
          record {
            always = h.always;
            few = rw (w.pairs-is, w.insert.ensures) (let more = insert_length (pair_as p) l.pairs in omega (arith, h.few));
            flag = rw w.all_keyed-is (goes_on h.flag c.loop-test.true read (λ es. refl));
            going = λ f tests.
                let counted = sym w.if-counts.true ∙ tests p w.counts.result (search rules) in
                rw (w.pairs-is, w.insert.ensures) (goes_on (h.going f tests) c.loop-test.true read (λ es.
                ap (λ m. kept f m es) (inserted f _ _ l.pairs counted pair)));
            rest = end_further h.rest behind;
            parts = rw (w.pairs-is, w.insert.ensures) (insert_all (PairIn c.args.s.now) (pair_as p) l.pairs part h.parts);
            ascending = rw (w.pairs-is, w.insert.ensures) (insert_ascends (pair_as p) l.pairs h.ascending);
          }
      | in-Some+else-counts w ↦
          let (v, value, read) = rw (c.in-Ok.is, w.in-Some.is) at c.read_prop.ensures.value in
          let (stands, behind) = rw (c.in-Ok.is, w.in-Some.is) at c.read_prop.ensures.parts in
          let pair = w.read_pair-pair.ensures.value v _ value in
          record {
            always = h.always;
            few = rw w.pairs-is (omega (arith, h.few));
            flag = rw w.all_keyed-is (goes_on h.flag c.loop-test.true read (λ es. refl));
            going = λ f tests.
                let counted = sym w.if-counts.false ∙ tests w.read_pair-pair.result w.counts.result (search rules) in
                rw w.pairs-is (goes_on (h.going f tests) c.loop-test.true read (λ es.
                ap (λ m. kept f m es) (passed f _ _ l.pairs counted pair)));
            rest = end_further h.rest behind;
            parts = rw w.pairs-is h.parts;
            ascending = rw w.pairs-is h.ascending;
          }
      | in-None-2 w ↦
          let read = rw (c.in-Ok.is, w.in-None-2.is) at c.read_prop.ensures.value in
          let (none, behind) = rw (c.in-Ok.is, w.in-None-2.is) at c.read_prop.ensures.parts in
          record {
            always = h.always;
            few = rw w.pairs-is (omega (arith, h.few));
            flag = rw w.all_keyed-is (goes_on h.flag c.loop-test.true read (λ es. and-false l.all_keyed));
            going = λ f tests. rw w.pairs-is (goes_on (h.going f tests) c.loop-test.true read (λ es. refl));
            rest = end_further h.rest behind;
            parts = rw w.pairs-is h.parts;
            ascending = rw w.pairs-is h.ascending;
          }
    ]

pub returns-clause-readable : goal.returns-clause-readable
unfolding all_keyed
returns-clause-readable g c ps t e = sym (and-true c.loop.all_keyed) ∙ ends c.loop.invariant.flag ps t e c.loop-test.false

pub returns-clause-unless_stopped : goal.returns-clause-unless_stopped
unfolding kept
returns-clause-unless_stopped g c f ps t tests e going_on = ends (c.loop.invariant.going f tests) ps t e c.loop-test.false
