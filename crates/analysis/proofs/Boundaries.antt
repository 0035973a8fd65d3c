-- In a well-formed body the place of what a finder captures begins and ends at character boundaries. It lies in the body, between marks where it is quoted.
use Rattle.std.specs.Prelude.{Some}
use Rattle.laws.proofs.Prelude.{◌≡◌, refl, sym, ap, ◌∙◌, true, false, false≢true, List, [], ◌∷◌, ◌++◌, Memᴰ_cases_cons, inl, inr, ⊎_elim, ℕ, ◌+◌, ◌-◌}
use Rattle.laws.proofs.Prelude.{◌≤◌, add-zero, sub-zero, arith, length, get_or, drop, get_or-drop}
use mathlib.Core.List.Memᴰ
use Rattle.text.specs.{declared.class.Class.Class, declared.class.Class.TheVariants.Quote, declared.utf8.Encoding.TheVariants.Utf8, Utf8.formed}
use Rattle.text.specs.{Encode.encode, Characters.OneOf, Characters.Stands, Position.Boundary, Bytes.Mark}
use Rattle.text.proofs.Characters.{stands_length, stands_between}
use Rattle.analysis.specs.{declared.Capture.Capture, Place.place_of, Place.Inside, Matches.Run, Matches.Matches}
use Rattle.analysis.specs.Row.{Row, no_capture, find}
use Rattle.analysis.specs.Patterns.{quoted, quoted_some, bare, path_row, types_row, jsx_import_source_row, jsx_import_source_types_row, source_mapping_url_row}
use Rattle.analysis.specs.Patterns.{ts_self_types_row, ts_types_row, deno_types_row}
use Rattle.analysis.proofs.{Apart.quotes, Order.run_onward, Preference.found_preferred, Preference.preferred_reads}
use Rattle.analysis.proofs.Values.{EndsIn, attribute_value, jsx_value, source_value, pragma_value, deno_value, quoted_marks, some_marks, bare_marks}

-- the place of what is captured begins and ends at character boundaries; the marks stand where they should
pub record Whole (s : List ℕ) (k : Capture) : Type 0 where
  pub opens : Boundary s (place_of k).from
  pub closes : Boundary s (place_of k).to
  pub inside : Inside k (length s)
  pub marks : k.quoted ≡ true → Mark (get_or s (place_of k).from 0) × Mark (get_or s k.to 0)

-- what is said of each pattern that captures a specifier: quoted, bare, or either of the two
pub record EachSpecifier (P : Row → (Capture → Type 0) → Type 0) : Type 0 where
  pub path : P path_row (λ k. k.quoted ≡ true)
  pub types : P types_row (λ k. k.quoted ≡ true)
  pub jsx_import_source : P jsx_import_source_row (λ k. k.quoted ≡ false)
  pub jsx_import_source_types : P jsx_import_source_types_row (λ k. k.quoted ≡ false)
  pub source_mapping_url : P source_mapping_url_row (λ k. k.quoted ≡ false)
  pub ts_self_types : P ts_self_types_row (λ k. k.quoted ≡ true)
  pub ts_types : P ts_types_row (λ k. k.quoted ≡ true)
  pub deno_types : P deno_types_row (λ k. Unit {0})

-- places of the body
module _ (s : List ℕ) where
  -- a mark is one byte, and one of the two
  mark_there : {at end : ℕ} → Stands (OneOf Quote) s at end → (end ≡ at + 1) × Mark (get_or s at 0)
  unfolding encode
  mark_there {at} {end} x =
      ⊎_elim (byte 0x22 refl (inl refl)) (λ m. byte 0x27 refl (inr refl) (Memᴰ.eq_of_singleton m))
      (Memᴰ_cases_cons (quotes x.piece.point x.piece.meets))
    where
      byte : (q : ℕ) → encode q ≡ q ∷ [] → Mark q → x.piece.point ≡ q → (end ≡ at + 1) × Mark (get_or s at 0)
      byte q one m e =
          let same : encode x.piece.point ≡ q ∷ [] = ap encode e ∙ one in
          let here : drop at s ≡ q ∷ drop end s = x.piece.all ∙ ap (λ (l : List ℕ). l ++ drop end s) same in
          let there : get_or s at 0 ≡ get_or (drop at s) 0 0 = sym (rw (get_or-drop at s 0 0, add-zero)) in
          (stands_length x ∙ ap (λ (l : List ℕ). at + length l) same, rw (there, here) m)

  run_inside : {c : Class} {at end : ℕ} → Run s c at end → at ≤ length s → end ≤ length s
  run_inside Run.none h = h
  run_inside (Run.more x r) h = run_inside r x.inside

module _ (s : List ℕ) (f : formed Utf8 0 s ≡ true) where
  runs : {c : Class} {at end : ℕ} → Run s c at end → Boundary s at → Boundary s end
  runs Run.none b = b
  runs (Run.more x r) b = runs r (stands_between s f x).1

  -- a captured text with a mark before it and one behind it
  marked : {at from to end : ℕ} → Stands (OneOf Quote) s at from → Stands (OneOf Quote) s to end → from ≤ to →
      Whole s (record { quoted = true; from = from; to = to })
  unfolding place_of
  marked {at} {from} {to} {end} x y o =
      let (e, m) = mark_there s x in
      let (d, n) = mark_there s y in
      let start : from - 1 ≡ at = omega arith in
      record {
        opens = rw start (stands_between s f x).0;
        closes = rw (← d) (stands_between s f y).1;
        inside = record { opens = omega arith; ordered = o; closes = omega (arith, y.inside) };
        marks = λ q. (rw start m, n);
      }

  -- the values
  quoted_whole : {at end : ℕ} {k l : Capture} → Matches s quoted at end k l → Whole s l
  quoted_whole (Matches.one x (Matches.from (Matches.longest run (Matches.to (Matches.one y Matches.done))))) = marked x y (run_onward run)

  some_whole : {at end : ℕ} {k l : Capture} → Matches s quoted_some at end k l → Whole s l
  some_whole (Matches.one x (Matches.from (Matches.one z (Matches.longest run (Matches.to (Matches.one y Matches.done)))))) =
      marked x y (omega (arith, stands_length z, run_onward run))

  bare_whole : {at end : ℕ} {k l : Capture} → Matches s bare at end k l → Whole s l
  unfolding place_of
  bare_whole (Matches.from (Matches.one x (Matches.longest run (Matches.to Matches.done)))) =
      let (a, b) = stands_between s f x in
      let d = runs run b in
      let i = run_inside s run x.inside in
      record {
        opens = rw sub-zero a;
        closes = rw add-zero d;
        inside = record { opens = omega arith; ordered = omega (arith, stands_length x, run_onward run); closes = omega arith };
        marks = λ q. absurd (false≢true q);
      }

  -- the rows that end in them
  answered : (r : Row) {Q : Capture → Type 0} → ((at end : ℕ) (l : Capture) → Matches s r at end no_capture l → Whole s l × Q l)
      → (k : Capture) → find r s ≡ Some k → Whole s k × Q k
  answered r h k e = let (at, _, end, m) = preferred_reads r s (found_preferred r s e) in h at end k m

  in_quoted : {end : ℕ} {k l : Capture} → EndsIn s quoted end k l → Whole s l × (l.quoted ≡ true)
  in_quoted (at, m) = (quoted_whole m, quoted_marks s m)

  in_some : {end : ℕ} {k l : Capture} → EndsIn s quoted_some end k l → Whole s l × (l.quoted ≡ true)
  in_some (at, m) = (some_whole m, some_marks s m)

  in_bare : {end : ℕ} {k l : Capture} → EndsIn s bare end k l → Whole s l × (l.quoted ≡ false)
  in_bare (at, m) = (bare_whole m, bare_marks s m)

  -- what the finders of specifiers answer
  pub whole : EachSpecifier (λ r Q. (k : Capture) → find r s ≡ Some k → Whole s k × Q k)
  whole = record {
    path = answered _ (λ at end l m. in_quoted (attribute_value s m));
    types = answered _ (λ at end l m. in_quoted (attribute_value s m));
    jsx_import_source = answered _ (λ at end l m. in_bare (jsx_value s m));
    jsx_import_source_types = answered _ (λ at end l m. in_bare (jsx_value s m));
    source_mapping_url = answered _ (λ at end l m. in_bare (source_value s m));
    ts_self_types = answered _ (λ at end l m. in_some (pragma_value s m));
    ts_types = answered _ (λ at end l m. in_some (pragma_value s m));
    deno_types = answered _ (λ at end l m. ⊎_elim (λ v. ((in_some v).0, tt)) (λ v. ((in_bare v).0, tt)) (deno_value s m));
  }
