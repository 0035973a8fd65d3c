use Rattle.laws.proofs.Prelude.{◌≡◌, sym, ◌∙◌, List, ℕ, ◌+◌, ◌*◌, ◌/◌, ◌≤◌, arith, length, take, take_all, drop, length-drop, length-take-le}
use Rattle.sheet.specs.Limits.{entry_limit}
use Rattle.rules.proofs.Origins.{few_rows, starts_held}
use Rattle.rules.proofs.rows_in.Goals as goal

-- what stands behind the first of the notes
module _ (notes : List ℕ) (long : length notes ≡ 1 + 2 * entry_limit) where
  tail : take (2 * entry_limit) (drop 1 notes) ≡ drop 1 notes
  tail = take_all (2 * entry_limit) (drop 1 notes) (simp length-drop (omega (arith, long)))

  many : length (take (2 * entry_limit) (drop 1 notes)) / 2 ≡ entry_limit
  many = rw tail (simp length-drop (omega (arith, long)))

pub slice_bounds-result-end : goal.slice_bounds-result-end
slice_bounds-result-end c =
    let rows : length c.as_chunks.result.0.now ≡ entry_limit = c.as_chunks.ensures.front_len ∙ many _ c.told-notes in
    sym (length-take-le _ _ (omega (arith, few_rows _ c.args.accepted.now.accepted.1, c.parts.ensures.count, rows)))

pub returns : goal.returns
returns c =
    λ held.
    let count = c.parts.ensures.count in
    let few = few_rows _ c.args.accepted.now.accepted.1 in
    let fits : c.parts.result.tree.entries ≤ length (take (2 * entry_limit) (drop 1 c.args.notes.now)) / 2 =
    omega (arith, few, count, many _ c.told-notes) in
    starts_held c.args.accepted.now.accepted.0 _ c.parts.result.tree.entries
    c.as_chunks.ensures.front (tail _ c.told-notes) count fits (omega (arith, few, count, c.told-notes)) held
