-- The JSDoc imports of a sheet are those that are demanded.
use Rattle.std.specs.Prelude.{Some}
use Rattle.laws.proofs.Prelude.{◌≡◌, refl, sym, ap, ◌∙◌, Bool, true, false, cond, true≢false, List, [], Memᴰ, Memᴰ_not_nil, ℕ, ◌+◌, ◌≤◌}
use Rattle.laws.proofs.Prelude.{◌<◌, zero-add, arith, length, get_or}
use mathlib.Core.Path.{subst}
use native.Mathlib.Decide.{dec_lt}
use Rattle.text.specs.{declared.utf8.Encoding.TheVariants.Utf8, Utf8.formed}
use Rattle.wire.specs.Fields.{value_of}
use Rattle.analysis.specs.Mode.{Mode, mode_number}
use Rattle.jsdoc.{specs.Grammar.Reading, specs.Grammar.From, proofs.ReadingPlace.one_place}
use Rattle.sheet.specs.{declared.fields.Span.Span, declared.comments.Comment.Comment, Fit.comment_of, Fit.Fit, Lookups.body_span, Lookups.body}
use Rattle.sheet.{specs.declared.names.MediaType.MediaType, specs.Media.is_java_script, proofs.Bodies.BodyWithin, proofs.Bodies.placed_body}
use Rattle.report.{specs.ModuleInfo.JsDocImportInfo, specs.Decode.modes, proofs.Modes.mode_numbers}
use Rattle.jsdoc_list.specs.Imports.{ticks_of, import_at, imports_from, jsdoc_imports}
use Rattle.jsdoc_list.specs.Demand.{ListedIn, ImportAt, Lists, JsDocRight, OnlyRight}
use Rattle.jsdoc_list.proofs.Ticking.{ReadIn, read_below, ticks_of_lem}
use Rattle.jsdoc_list.proofs.{Quotes.Standing, Quotes.reading_stands, Only.one_right}
use Rattle.jsdoc_list.proofs.Entries.{found, in_list, Standings, ascends}

module _ {source : List ℕ} {cs : List Comment} where
  -- the place of a reading by its start
  listed_of : {q : ℕ} {m : Mode} → ReadIn source cs q m → (e : ℕ) × ListedIn source cs (record { start = q; end = e }) m
  listed_of (k, h, (o, j, s, (i, r))) =
      ((body_span (comment_of cs k)).start + r.end, record { k = k; there = h; opened = o; from = i; at = j; reading = r; start = s; end = refl })

  read_of : {p : Span} {m : Mode} → ListedIn source cs p m → ReadIn source cs p.start m
  read_of l = (l.k, l.there, (l.opened, l.at, l.start, (l.from, l.reading)))

-- two readings of one body whose places begin together
module _ (source : List ℕ) (c : Comment) {i a : ℕ} {m : Mode} (r : From Reading (body source c) i a m) {j : ℕ} {n : Mode} where
  at_one_place : (b : ℕ) → a ≡ b → (t : From Reading (body source c) j b n) → (r.end ≡ t.end) × (m ≡ n)
  at_one_place b e = subst (λ (x : ℕ). (t : From Reading (body source c) j x n) → (r.end ≡ t.end) × (m ≡ n)) e (one_place r)

  in_one_comment : (d : Comment) → c ≡ d → (b : ℕ) (t : From Reading (body source d) j b n) → (body_span c).start + a ≡ (body_span d).start + b
      → ((body_span c).start + r.end ≡ (body_span d).start + t.end) × (m ≡ n)
  in_one_comment d e =
      subst
      (λ (x : Comment). (b : ℕ) (t : From Reading (body source x) j b n) → (body_span c).start + a ≡ (body_span x).start + b →
      ((body_span c).start + r.end ≡ (body_span x).start + t.end) × (m ≡ n))
      e
      (λ b t s. let (x, y) = at_one_place b (omega arith) t in (rw x, y))

module _ {source : List ℕ} {cs : List Comment} (fit : Fit source cs) where
  body_within : (k : ℕ) → k < length cs → BodyWithin source (comment_of cs k)
  body_within k h = placed_body source (comment_of cs k) (fit.each k h)

  -- the bodies of two comments have no place in common
  apart : (k j q : ℕ) → k < length cs → j < length cs → k < j → q < (body_span (comment_of cs k)).end → (body_span (comment_of cs j)).start ≤ q → ⊥
  apart k j q h g l x y =
      let v = body_within k h in
      let w = body_within j g in
      omega (arith, v.end, w.start, fit.apart k j l g)

  one_comment : {q p : ℕ} {m n : Mode} (r : ReadIn source cs q m) (t : ReadIn source cs p n) → q ≡ p → r.0 ≡ t.0
  one_comment {q} {p} (k, h, r) (j, g, t) e = go (read_below (comment_of cs k) (body_within k h) r) (read_below (comment_of cs j) (body_within j g) t)
      (dec_lt k j) (dec_lt j k)
    where
      go : ((body_span (comment_of cs k)).start ≤ q) × (q < (body_span (comment_of cs k)).end) →
          ((body_span (comment_of cs j)).start ≤ p) × (p < (body_span (comment_of cs j)).end)
          → Dec (k < j) → Dec (j < k) → k ≡ j
      go x y (yes l) d = absurd (apart k j q h g l x.1 (omega arith))
      go x y (no l) (yes d) = absurd (apart j k q g h d (omega arith) x.0)
      go x y (no l) (no d) = omega arith

  one_mode : (p q : Span) (m n : Mode) → ListedIn source cs p m → ListedIn source cs q n → p.start ≡ q.start → (p.end ≡ q.end) × (m ≡ n)
  unfolding read_of
  one_mode p q m n l t e =
      let k : l.k ≡ t.k = one_comment (read_of l) (read_of t) e in
      let (x, y) = in_one_comment source (comment_of cs l.k) l.reading (comment_of cs t.k) (ap (comment_of cs) k) t.at t.reading
      (sym l.start ∙ e ∙ t.start) in
      (l.end ∙ x ∙ sym t.end, y)

  module _ (f : formed Utf8 0 source ≡ true) where
    stands : {p : Span} {m : Mode} → ListedIn source cs p m → Standing source p.start p.end m
    stands l = rw (l.start, l.end) (reading_stands f (comment_of cs l.k) (body_within l.k l.there) l.reading)

    listed_at : (q n : ℕ) → get_or (ticks_of source cs) q 0 ≡ n + 1 → (e : ℕ) × ListedIn source cs (record { start = q; end = e }) (value_of modes n)
    listed_at q n h =
        let (m, is, r) = (ticks_of_lem cs fit).sound q n h in
        let same : m ≡ value_of modes n = sym (mode_numbers.back m) ∙ ap (value_of modes) is in
        listed_of {source = source} {cs = cs} (rw same at r)

    -- an import stands at each tick
    pub standings : Standings source (ticks_of source cs) 0
    standings d m h = let (e, l) = listed_at d m h in (e, rw zero-add (stands l))

    -- an import of the list comes from a reading
    record FromReading (i : JsDocImportInfo) : Type 0 where
      place : Span
      listed : ListedIn source cs place i.mode
      stand : ImportAt source i place

    from_reading_by : {p : Span} {m : Mode} (l : ListedIn source cs p m) {i : JsDocImportInfo} → import_at source p.start m ≡ Some i → FromReading i
    from_reading_by {p} {m} l {i} is =
        let t = stands l in
        let same : t.import ≡ i = cc t.is in
        let mode : m ≡ i.mode = sym t.mode_is ∙ ap (λ (x : JsDocImportInfo). x.mode) same in
        record { place = p; listed = rw mode at l; stand = rw same at t.stands }

    from_reading : (i : JsDocImportInfo) → Memᴰ i (imports_from source 0 (ticks_of source cs)) → FromReading i
    from_reading i among =
        let (d, m, h, is) = found source (ticks_of source cs) 0 among in
        from_reading_by (listed_at d m h).1 (rw zero-add at is)

    lists_sound : (p : Span) (m : Mode) → Lists source (imports_from source 0 (ticks_of source cs)) p m → ListedIn source cs p m
    lists_sound p m x =
        let o = from_reading x.import x.among in
        let r = x.stands.range in
        rw (o.stand.range.only p r.start r.end r.is, ← x.mode_is) o.listed

    lists_complete : (p : Span) (m : Mode) → ListedIn source cs p m → Lists source (imports_from source 0 (ticks_of source cs)) p m
    lists_complete p m l =
        let t = stands l in
        record {
          import = t.import;
          among = in_list source (ticks_of source cs) 0 p.start (mode_number m) ((ticks_of_lem cs fit).complete p.start m (read_of l))
              (rw (zero-add, mode_numbers.back m) t.is);
          stands = t.stands;
          mode_is = t.mode_is;
        }

    jsdoc_right : (media : MediaType) → JsDocRight media source cs (jsdoc_imports media source cs)
    unfolding jsdoc_imports
    jsdoc_right media = go (is_java_script media) refl
      where
        go : (b : Bool) → is_java_script media ≡ b → JsDocRight media source cs (cond b (imports_from source 0 (ticks_of source cs)) [])
        go true e = record {
          exactly = λ p m. (λ x. (e, lists_sound p m x), λ x. lists_complete p m x.1);
          placed = λ i among. let o = from_reading i among in (o.place, o.stand);
          ascending = ascends source (ticks_of source cs) 0 standings;
          one_mode = one_mode;
        }
        go false e = record {
          exactly = λ p m. (λ x. absurd (Memᴰ_not_nil x.among), λ x. absurd (true≢false (sym x.0 ∙ e)));
          placed = λ i among. absurd (Memᴰ_not_nil among);
          ascending = tt;
          one_mode = one_mode;
        }

    pub only_right : (media : MediaType) → OnlyRight media source cs (jsdoc_imports media source cs)
    only_right media = record { right = jsdoc_right media; only = λ m r. one_right r (jsdoc_right media) }
