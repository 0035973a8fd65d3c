-- Each reference and pragma stands in the source at its reading's place, in marks or bare, as its rule's row asks.
use Rattle.std.specs.Prelude.{Some, None}
use Rattle.laws.proofs.Prelude.{◌≡◌, refl, sym, ◌∙◌, Bool, true, false, cond, inl, inr, ⊎_elim, List, [], ◌∷◌, Memᴰ, Memᴰ_head, Memᴰ_tail}
use Rattle.laws.proofs.Prelude.{Memᴰ_not_nil, Memᴰ_cases_cons, Option, none-some, ℕ, suc, ◌+◌, ◌-◌, ◌<◌, add-zero, sub-zero, arith}
use Rattle.laws.proofs.Prelude.{length, get_or, drop, drop-drop}
use Rattle.laws.specs.Codec.{All, IfThere}
use Rattle.laws.proofs.Lists.{of_members, if_there, part_part, between_two, front_member, back_member, last_member, middle_member}
use Rattle.text.specs.{declared.utf8.Encoding.TheVariants.Utf8, Utf8.formed, Bytes.part}
use Rattle.analysis.{specs.declared.Capture.Capture, specs.Row.Row, specs.Row.find, proofs.Preference.preferred_found}
use Rattle.analysis.specs.Place.{mark_width, place_of, text_of}
use Rattle.analysis.proofs.Boundaries.{Whole, EachSpecifier, whole}
use Rattle.sheet.specs.{declared.comments.Comment.Comment, Comments.slice, declared.groups.Group.Group, declared.names.Side.TheVariants.Leading, Sheet.Sheet}
use Rattle.sheet.specs.Fit.{Placed, comment_of, Fit}
use Rattle.sheet.specs.Lookups.{group_at, head_group, end_group, in_group, comments_of, body_span, body}
use Rattle.sheet.proofs.Bodies.{BodyWithin, placed_body, body_formed, body_boundary}
use Rattle.report.specs.ModuleInfo.{SpecifierWithRange, TypeScriptReference, ModuleInfo}
use Rattle.report.{specs.Range.range_of, specs.Stands.StandsAt, proofs.RangesApart.range_at}
use Rattle.pragmas.specs.Asks.{Asks, self_types_rule, jsx_import_source_rule, jsx_import_source_types_rule}
use Rattle.pragmas.specs.Readings.{place_in}
use Rattle.pragmas.specs.Pragmas.{head_comments, end_comments, given_to, last_in, types_at}
use Rattle.pragmas.specs.Present.{Read, Reader, by_rule, by_reference, by_ts_or_deno_types, InOrder, FirstReading, Present}
use Rattle.pragmas.specs.Texts.{written_if, ShownInMarks, ShownBare, ShownEither, ReferenceShown, TypesShown, types_of, Texts}
use Rattle.pragmas.proofs.Present.{types_present}

module _ (source : List ℕ) (f : formed Utf8 0 source ≡ true) (c : Comment) (h : Placed source c) where
  within : BodyWithin source c
  within = placed_body source c h

  module _ (k : Capture) (w : Whole (body source c) k) where
    -- the bytes at the place are those of the body
    place_bytes : slice source (place_in c k) ≡ part (body source c) (place_of k).from (place_of k).to
    unfolding place_in place_of
    place_bytes =
        let i = w.inside in
        let b = within in
        let sp = body_span c in
        let from = k.from - mark_width k in
        let size : sp.start + (k.to + mark_width k) - (sp.start + from) ≡ k.to + mark_width k - from = omega arith in
        rw (size, ← drop-drop from sp.start source)
        (sym (part_part (drop sp.start source) (sp.end - sp.start) from (k.to + mark_width k - from) (omega arith)))

    -- the text and its marks
    written : (q : Bool) → k.quoted ≡ q → written_if q (text_of (body source c) k) (slice source (place_in c k))
    unfolding place_of
    written true e =
        let i = w.inside in
        let one : mark_width k ≡ 1 = rw e in
        let from : k.from - 1 + 1 ≡ k.from = omega arith in
        let (a, b) = w.marks e in
        record {
          opening = get_or (body source c) (k.from - 1) 0;
          closing = get_or (body source c) k.to 0;
          opens = rw one at a;
          closes = b;
          all = place_bytes ∙ rw one (rw from at (between_two (body source c) 0 (k.from - 1) k.to (omega arith) (omega arith)));
        }
    written false e =
        let none : mark_width k ≡ 0 = rw e in
        place_bytes ∙ rw (none, sub-zero, add-zero)

    pub capture_stands : (x : SpecifierWithRange) → x.text ≡ text_of (body source c) k → x.range ≡ range_of source (place_in c k) → (q : Bool) → k.quoted ≡ q
        → StandsAt (written_if q) source x (place_in c k)
    unfolding place_in place_of
    capture_stands x t r q e =
        let start = body_boundary source c f h (place_of k).from w.opens in
        let end = body_boundary source c f h (place_of k).to w.closes in
        record { range = range_at start end r; text = rw t (written q e) }

-- ---- the comments that they stand in

-- the comments of a fit list are placed
pub comment_index : (cs : List Comment) {c : Comment} → Memᴰ c cs → (k : ℕ) × (k < length cs) × (comment_of cs k ≡ c)
comment_index [] m = absurd (Memᴰ_not_nil m)
comment_index (d ∷ cs) m =
    ⊎_elim (λ e. (0, omega arith, sym e)) (λ i. let (k, l, e) = comment_index cs i in (suc k, omega arith, e)) (Memᴰ_cases_cons m)

pub fit_placed : {source : List ℕ} {cs : List Comment} → Fit source cs → {c : Comment} → Memᴰ c cs → Placed source c
fit_placed {cs = cs} f m = let (k, l, e) = comment_index cs m in rw (← e) (f.each k l)

group_member : (cs : List Comment) (o : Option Group) {c : Comment} → Memᴰ c (in_group cs o) → Memᴰ c cs
group_member cs None m = absurd (Memᴰ_not_nil m)
group_member cs (Some g) m = back_member g.first cs (front_member g.count (drop g.first cs) m)

pub last_in_lem : (cs : List Comment) (o : Option Group) {c : Comment} → last_in cs o ≡ Some c → Memᴰ c cs
last_in_lem cs None {c} e = absurd (none-some c e)
last_in_lem cs (Some g) e = group_member cs (Some g) (last_member (comments_of cs g) e)

pub given_member : (b : Bool) (cs : List Comment) {c : Comment} → Memᴰ c (cond b cs []) → Memᴰ c cs
given_member true cs m = m
given_member false cs m = absurd (Memᴰ_not_nil m)

order_member : {A : Type 0} {r : Reader A} {cs : List Comment} {l : List A} → InOrder r cs l → {a : A} → Memᴰ a l →
    (c : Comment) × Memᴰ c cs × r.Gives c a
order_member InOrder.none m = absurd (Memᴰ_not_nil m)
order_member (InOrder.reads {c = c} g o) m =
    ⊎_elim (λ e. (c, Memᴰ_head refl, rw e g)) (λ i. let (d, n, h) = order_member o i in (d, Memᴰ_tail n, h)) (Memᴰ_cases_cons m)
order_member (InOrder.passes n o) m = let (d, i, h) = order_member o m in (d, Memᴰ_tail i, h)

-- ---- those of a sheet

module _ (t : Sheet) (f : formed Utf8 0 t.source ≡ true) (fit : Fit t.source t.comments) where
  -- what a comment of the sheet gives
  module _ {c : Comment} (i : Memᴰ c t.comments) where
    placed : Placed t.source c
    placed = fit_placed fit i

    -- what is captured in the comment is whole, and quoted or not
    abbrev Captured : Row → (Capture → Type 0) → Type 0
    Captured row Q = (k : Capture) → find row (body t.source c) ≡ Some k → Whole (body t.source c) k × Q k

    each : EachSpecifier Captured
    each = whole (body t.source c) (body_formed t.source c f placed)

    module _ {row : Row} {Q : Capture → Type 0} (w : Captured row Q) {x : SpecifierWithRange} (r : Read row t.source c x) where
      captured : Whole (body t.source c) r.capture × Q r.capture
      captured = w r.capture (preferred_found row (body t.source c) r.preferred)

      stands : (q : Bool) → r.capture.quoted ≡ q → StandsAt (written_if q) t.source x (place_in c r.capture)
      stands = capture_stands t.source f c placed r.capture captured.0 x r.text r.range

    in_marks : {row : Row} → Captured row (λ k. k.quoted ≡ true) → {x : SpecifierWithRange} → Read row t.source c x → ShownInMarks row t x
    in_marks w r = record { comment = c; among = i; read = r; stands = stands w r true (captured w r).1 }

    bare : {row : Row} → Captured row (λ k. k.quoted ≡ false) → {x : SpecifierWithRange} → Read row t.source c x → ShownBare row t x
    bare w r = record { comment = c; among = i; read = r; stands = stands w r false (captured w r).1 }

    either : {row : Row} {Q : Capture → Type 0} → Captured row Q → {x : SpecifierWithRange} → Read row t.source c x → ShownEither row t x
    either w r = record { comment = c; among = i; read = r; stands = stands w r r.capture.quoted refl }

    reference_shown : (r : TypeScriptReference) → (by_reference t.source).Gives c r → ReferenceShown t r
    reference_shown r (p, inl (x, (k, g), (m, q, e))) = rw e (in_marks each.types g)
    reference_shown r (p, inr (n, (x, (k, g), e))) = rw e (in_marks each.path g)

    types_given : {x : SpecifierWithRange} → (by_ts_or_deno_types t.source).Gives c x → TypesShown t x
    types_given (inl (k, g)) = inl (in_marks each.ts_types g)
    types_given (inr (n, (k, g))) = inr (either each.deno_types g)

  pub types_shown : (start : ℕ) → IfThere (TypesShown t) (types_at t start)
  types_shown start =
      if_there _ (types_at t start)
      (λ x e. let (c, l, g) = ((types_present t start).some x).0 e in types_given (last_in_lem t.comments (group_at t.groups Leading start) l) g)

  in_head : {c : Comment} → Memᴰ c (head_comments t) → Memᴰ c t.comments
  unfolding head_comments
  in_head = group_member t.comments (head_group t.program t.groups)

  pub in_end : {c : Comment} → Memᴰ c (end_comments t) → Memᴰ c t.comments
  unfolding end_comments
  in_end = group_member t.comments (end_group t.program t.groups)

  -- the comment of the first reading in those of the head group that a rule is given
  first_shown : (rule : Asks) {x : SpecifierWithRange} (h : FirstReading (by_rule rule t.source) (given_to rule t.media (head_comments t)) x)
      → Memᴰ h.comment t.comments
  first_shown rule h = in_head (given_member (rule.media t.media) (head_comments t) (middle_member h.before h.behind h.among))

  pub texts : (m : ModuleInfo) → Present t m → All (λ d. IfThere (TypesShown t) (types_of d)) m.dependencies → Texts t m
  texts m p types = record {
    types = types;
    references = of_members _ m.ts_references
        (λ r i. let (c, j, g) = order_member ((p.references m.ts_references).0 refl) i in reference_shown (in_head j) r g);
    self_types = if_there _ m.self_types_specifier
        (λ x e. let h = (p.self_types.some x).0 e in let i = first_shown self_types_rule h in in_marks i (each i).ts_self_types h.gives.1);
    jsx_import_source = if_there _ m.jsx_import_source
        (λ x e. let h = (p.jsx_import_source.some x).0 e in let i = first_shown jsx_import_source_rule h in bare i (each i).jsx_import_source h.gives.1);
    jsx_import_source_types = if_there _ m.jsx_import_source_types
        (λ x e. let h = (p.jsx_import_source_types.some x).0 e in let i = first_shown jsx_import_source_types_rule h in bare i
        (each i).jsx_import_source_types h.gives.1);
    source_map_url = if_there _ m.source_map_url
        (λ x e.
        let h = (p.source_map_url.some x).0 e in
        let i = in_end (middle_member h.before h.behind h.among) in
        bare i (each i).source_mapping_url h.gives.1);
  }
