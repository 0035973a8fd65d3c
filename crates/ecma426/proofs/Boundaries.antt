-- In a well-formed body the run begins and ends at character boundaries.
use Rattle.laws.proofs.Prelude.{◌≡◌, sym, ◌∙◌, Bool, true, false≢true, List, ℕ, ◌≤◌, add-zero, sub-zero, arith, length, get_or-eq_default}
use Rattle.text.specs.{declared.utf8.Encoding.TheVariants.Utf8, Utf8.formed, Position.Boundary}
use Rattle.text.proofs.Characters.{stands_length, stands_between}
use Rattle.analysis.{specs.declared.Capture.Capture, specs.Place.place_of, specs.Place.Inside, proofs.Boundaries.Whole}
use Rattle.ecma426.specs.Grammar.{Row, none, more, MapReading}

module _ (s : List ℕ) where
  row_onward : {kind : ℕ → Bool} {at end : ℕ} → Row s kind at end → at ≤ end
  row_onward none = omega arith
  row_onward (more x r) = omega (arith, stands_length x, row_onward r)

  pub run_inside : {k : Capture} → MapReading s k → Inside k (length s)
  run_inside {k} r = let q = r.bare in rw q (record { opens = omega arith; ordered = row_onward r.run; closes = omega (arith, row_onward r.end) })

  module _ (f : formed Utf8 0 s ≡ true) where
    row_back : {kind : ℕ → Bool} {at end : ℕ} → Row s kind at end → Boundary s end → Boundary s at
    row_back none b = b
    row_back (more x r) b = (stands_between s f x).0

    pub run_whole : {k : Capture} → MapReading s k → Whole s k
    unfolding place_of
    run_whole {k} r =
        let end : Boundary s (length s) = (omega arith, rw (get_or-eq_default s 0 {n = length s} (omega arith))) in
        let to = row_back r.end end in
        let from = row_back r.run to in
        record {
          opens = rw (r.bare, sub-zero) from;
          closes = rw (r.bare, add-zero) to;
          inside = run_inside r;
          marks = λ q. absurd (false≢true (sym r.bare ∙ q));
        }
