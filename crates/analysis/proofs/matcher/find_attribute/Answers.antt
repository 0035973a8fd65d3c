use Rattle.std.specs.Prelude.{Option}
use Rattle.laws.proofs.Prelude.{◌≡◌, rules, sym, refl, length, arith}
use Rattle.analysis.specs.{Row.match_at, Place.FoundWithin, Patterns.attribute_row}
use Rattle.analysis.proofs.{Leftmost.first_below, Leftmost.found_so, Leftmost.found_leftmost, Leftmost.below_so, RowSteps.attribute_ends}
use Rattle.analysis.proofs.matcher.find_attribute.Goals as goal

pub returns : goal.returns
returns c =
    let s = c.args.body.now in
    let row = attribute_row c.args.word.now in
    let n = length s in
    let nothing = attribute_ends s n c.args.word.now (omega arith) in
    let first = first_below {n = n} refl refl (search rules) c.find_map.result c.find_map.ensures.runs in
    record {
      answer = found_leftmost row s first (below_so (λ at k. k ≡ match_at row s at) (sym nothing) (λ at k h e. search rules));
      bounds = found_so first (λ k. FoundWithin k n) tt (below_so (λ at k. FoundWithin k n) tt (λ at k h e. search rules));
    }
