-- The turns of the loops over the openers and over the comments, and the bytes that are written.
use Rattle.std.specs.Prelude.{map}
use Rattle.laws.proofs.Prelude.{◌≡◌, refl, ap, ◌∙◌, List, [], ◌∷◌, ◌++◌, flat_map, ℕ, zero, suc, ◌+◌, ◌-◌, ◌≤◌, ◌<◌, arith, length, drop, get_or}
use Rattle.laws.proofs.Prelude.{drop_of_length-le}
use Rattle.jsdoc.{specs.Origins.openers, proofs.Ticking.from_below, proofs.Openers.origins_first}
use Rattle.sheet.specs.{declared.comments.Comment.Comment, Lookups.body}
use Rattle.report.specs.Origin.{encode_origin}
use Rattle.sheet.specs.code.Commented.{placed_in}
use Rattle.jsdoc_list.specs.Origins.{opener_at, openers_from, origins_of}
use Rattle.jsdoc_list.proofs.{Turns.first_tick, Turns.first_mode_lem}

module _ (body : List ℕ) (start : ℕ) (table : List ℕ) (q : ℕ) (h : q < length table) where
  pub opener_none : get_or table q 0 ≡ 0 → openers_from body start (drop q table) ≡ openers_from body start (drop (q + 1) table)
  unfolding openers_from
  opener_none e = rw (first_tick table q h, e)

  pub opener_next : (get_or table q 0 ≡ 0 → ⊥)
      → flat_map encode_origin (openers_from body start (drop q table))
      ≡ encode_origin (opener_at body start (get_or table q 0 - 1)) ++ flat_map encode_origin (openers_from body start (drop (q + 1) table))
  unfolding openers_from flat_map
  opener_next e =
      let first = first_tick table q h ∙ ap (◌∷ drop (q + 1) table) (first_mode_lem (get_or table q 0) e) in
      ap (λ (l : List ℕ). flat_map encode_origin (openers_from body start l)) first

-- none from the end on
pub openers_end : (body : List ℕ) (start : ℕ) (table : List ℕ) (q : ℕ) → length table ≤ q
    → flat_map encode_origin (openers_from body start (drop q table)) ≡ []
unfolding openers_from flat_map
openers_end body start table q h = rw (drop_of_length-le table h)

-- an opener is a place of the body
pub openers_within : (b : List ℕ) (q : ℕ) → get_or (openers b) q 0 ≤ length b
openers_within b q = go (get_or (openers b) q 0) refl
  where
    go : (y : ℕ) → get_or (openers b) q 0 ≡ y → y ≤ length b
    go zero e = omega arith
    go (suc k) e = omega (arith, from_below ((origins_first b).sound q k (omega arith)).1)

-- comments with their source give the same
pub origins_placed : (source : List ℕ) (cs : List Comment)
    → flat_map (λ c. origins_of c.source c.comment) (map (placed_in source) cs) ≡ flat_map (origins_of source) cs
unfolding flat_map
origins_placed source [] = refl
origins_placed source (c ∷ cs) = ap (origins_of source c ++◌) (origins_placed source cs)

-- a place without a note, one with a note, and the end
pub ruleset openers_turned = (opener_none, opener_next, openers_end)
