-- The JSDoc imports of a sheet are those that its comments give, one comment after the other.
use Rattle.laws.proofs.Prelude.{◌≡◌, refl, sym, ap, Bool, true, false, cond, ◌⊎◌, ⊎_elim, inl, inr, List, [], ◌∷◌, ◌++◌, flat_map, Memᴰ, Memᴰ_head}
use Rattle.laws.proofs.Prelude.{Memᴰ_tail, Memᴰ_not_nil, ℕ, zero, suc, ◌+◌, ◌≤◌, ◌<◌, zero-le, suc-le-suc, arith, length}
use mathlib.Core.List.Memᴰ
use Rattle.laws.specs.Ordered.{Ordered}
use Rattle.text.{specs.declared.utf8.Encoding.TheVariants.Utf8, specs.Utf8.formed, specs.Position.Before, proofs.PositionsApart.grows}
use Rattle.analysis.specs.Mode.{Mode}
use Rattle.jsdoc.specs.Grammar.{Reading, From}
use Rattle.sheet.specs.{declared.fields.Span.Span, declared.comments.Comment.Comment, declared.names.MediaType.MediaType, Lookups.body_span, Lookups.body}
use Rattle.sheet.specs.Fit.{comment_of, Placed, Fit}
use Rattle.sheet.{specs.Media.is_java_script, proofs.Bodies.placed_body}
use Rattle.report.specs.ModuleInfo.{PositionRange, JsDocImportInfo}
use Rattle.jsdoc_list.specs.Imports.{ticked_by_all, ticks_of, imports_from, jsdoc_imports}
use Rattle.jsdoc_list.specs.Demand.{StarOpened, ListedIn, Lists, start_of, JsDocRight}
use Rattle.jsdoc_list.specs.ByComment.{given_by, openings, ByComment}
use Rattle.jsdoc_list.proofs.{Ticking.read_below, Ticking.fit_tail, Entries.count_all, ImportsRight.standings, ImportsRight.only_right}
use Rattle.jsdoc_list.proofs.Openings.{ticks_few}

ordered_append : {A : Type 0} (R : A → A → Type 0) (l m : List A) → Ordered R l → Ordered R m → ((a b : A) → Memᴰ a l → Memᴰ b m → R a b) →
    Ordered R (l ++ m)
ordered_append R [] m o p h = p
ordered_append R (a ∷ l) m o p h = (
  λ b i. ⊎_elim (λ j. o.0 b j) (λ j. h a b (Memᴰ_head refl) j) (Memᴰ.append_cases l i),
  ordered_append R l m o.1 p (λ x y i j. h x y (Memᴰ_tail i) j),
)

-- one of the comments of a source alone
pub fit_one : {source : List ℕ} {c : Comment} → Placed source c → Fit source (c ∷ [])
fit_one {source} {c} p = record { each = go; apart = λ j k i l. absurd (omega arith) }
  where
    go : (k : ℕ) → k < length (c ∷ []) → Placed source (comment_of (c ∷ []) k)
    go zero l = p
    go (suc k) l = absurd (omega arith)

-- what two lists have, one after the other
module _ {source : List ℕ} (l m : List JsDocImportInfo) {place : Span} {mode : Mode} where
  lists_left : Lists source l place mode → Lists source (l ++ m) place mode
  lists_left x = record { import = x.import; among = Memᴰ.append_left m x.among; stands = x.stands; mode_is = x.mode_is }

  lists_right : Lists source m place mode → Lists source (l ++ m) place mode
  lists_right x = record { import = x.import; among = Memᴰ.append_right l x.among; stands = x.stands; mode_is = x.mode_is }

  lists_cases : Lists source (l ++ m) place mode → Lists source l place mode ⊎ Lists source m place mode
  lists_cases x =
      ⊎_elim
      (λ i. inl (record { import = x.import; among = i; stands = x.stands; mode_is = x.mode_is }))
      (λ i. inr (record { import = x.import; among = i; stands = x.stands; mode_is = x.mode_is }))
      (Memᴰ.append_cases l x.among)

-- what the first comment lists, and what the others do
module _ {source : List ℕ} {c : Comment} {cs : List Comment} {place : Span} {mode : Mode} where
  listed_first : ListedIn source (c ∷ []) place mode → ListedIn source (c ∷ cs) place mode
  listed_first x = go x.k x.there x.opened x.reading x.start x.end
    where
      go : (k : ℕ) → k < length (c ∷ []) → StarOpened source (comment_of (c ∷ []) k) →
          {from at : ℕ} (r : From Reading (body source (comment_of (c ∷ []) k)) from at mode)
          → place.start ≡ (body_span (comment_of (c ∷ []) k)).start + at → place.end ≡ (body_span (comment_of (c ∷ []) k)).start + r.end →
          ListedIn source (c ∷ cs) place mode
      go zero h o {from} {at} r s e = record { k = 0; there = suc-le-suc zero-le; opened = o; from = from; at = at; reading = r; start = s; end = e }
      go (suc k) h o r s e = absurd (omega arith)

  listed_later : ListedIn source cs place mode → ListedIn source (c ∷ cs) place mode
  listed_later x =
      record {
        k = suc x.k;
        there = suc-le-suc x.there;
        opened = x.opened;
        from = x.from;
        at = x.at;
        reading = x.reading;
        start = x.start;
        end = x.end;
      }

  listed_cases : ListedIn source (c ∷ cs) place mode → ListedIn source (c ∷ []) place mode ⊎ ListedIn source cs place mode
  listed_cases x = go x.k x.there x.opened x.reading x.start x.end
    where
      go : (k : ℕ) → k < length (c ∷ cs) → StarOpened source (comment_of (c ∷ cs) k) →
          {from at : ℕ} (r : From Reading (body source (comment_of (c ∷ cs) k)) from at mode)
          → place.start ≡ (body_span (comment_of (c ∷ cs) k)).start + at → place.end ≡ (body_span (comment_of (c ∷ cs) k)).start + r.end
          → ListedIn source (c ∷ []) place mode ⊎ ListedIn source cs place mode
      go zero h o {from} {at} r s e = inl (record { k = 0; there = suc-le-suc zero-le; opened = o; from = from; at = at; reading = r; start = s; end = e })
      go (suc k) h o {from} {at} r s e = inr (record { k = k; there = omega arith; opened = o; from = from; at = at; reading = r; start = s; end = e })

-- a place that is listed lies in the body of its comment
listed_within : {source : List ℕ} {cs : List Comment} {place : Span} {mode : Mode} → Fit source cs → (x : ListedIn source cs place mode)
    → ((body_span (comment_of cs x.k)).start ≤ place.start) × (place.start < (body_span (comment_of cs x.k)).end)
listed_within {source} {cs} fit x =
    read_below (comment_of cs x.k) (placed_body source (comment_of cs x.k) (fit.each x.k x.there))
    (x.opened, x.at, x.start, (x.from, x.reading))

module _ (media : MediaType) {source : List ℕ} (f : formed Utf8 0 source ≡ true) where
  -- the first comment and the others
  module _ {c : Comment} {cs : List Comment} (fit : Fit source (c ∷ cs)) where
    one : Fit source (c ∷ [])
    one = fit_one (fit.each 0 (suc-le-suc zero-le))

    own : JsDocRight media source (c ∷ []) (given_by media source c)
    own = (only_right one f media).right

    rest : JsDocRight media source cs (jsdoc_imports media source cs)
    rest = (only_right (fit_tail fit) f media).right

    places_rise : {p q : Span} {m n : Mode} → ListedIn source (c ∷ []) p m → ListedIn source cs q n → p.start < q.start
    places_rise {p} {q} x y = go x.k x.there (listed_within one x)
      where
        go : (k : ℕ) → k < length (c ∷ []) → ((body_span (comment_of (c ∷ []) k)).start ≤ p.start) × (p.start < (body_span (comment_of (c ∷ []) k)).end) →
            p.start < q.start
        go zero h l =
            let w = placed_body source c (fit.each 0 (suc-le-suc zero-le)) in
            let v = placed_body source (comment_of cs y.k) (fit.each (suc y.k) (suc-le-suc y.there)) in
            omega (arith, l.1, w.end, fit.apart 0 (suc y.k) (suc-le-suc zero-le) (suc-le-suc y.there), v.start, (listed_within (fit_tail fit) y).0)
        go (suc k) h l = absurd (omega arith)

    rises : (i j : JsDocImportInfo) → Memᴰ i (given_by media source c) → Memᴰ j (jsdoc_imports media source cs) → Before (start_of i) (start_of j)
    rises i j a b =
        let (p, s) = own.placed i a in
        let (q, t) = rest.placed j b in
        let x = (own.exactly p i.mode).0 (record { import = i; among = a; stands = s; mode_is = refl }) in
        let y = (rest.exactly q j.mode).0 (record { import = j; among = b; stands = t; mode_is = refl }) in
        rw (ap (λ (r : PositionRange). r.start) s.range.is, ap (λ (r : PositionRange). r.start) t.range.is)
        (grows (λ b. omega arith) source p.start q.start (places_rise x.1 y.1) t.range.start.0 s.range.start.1)

    joined_right : JsDocRight media source (c ∷ cs) (given_by media source c ++ jsdoc_imports media source cs)
    joined_right = record {
      exactly = λ p m. (
        λ x. ⊎_elim (λ y. let z = (own.exactly p m).0 y in (z.0, listed_first z.1)) (λ y. let z = (rest.exactly p m).0 y in (z.0, listed_later z.1))
            (lists_cases (given_by media source c) (jsdoc_imports media source cs) x),
        λ x. ⊎_elim (λ y. lists_left (given_by media source c) (jsdoc_imports media source cs) ((own.exactly p m).1 (x.0, y)))
            (λ y. lists_right (given_by media source c) (jsdoc_imports media source cs) ((rest.exactly p m).1 (x.0, y))) (listed_cases x.1),
      );
      placed = λ i a. ⊎_elim (λ m. own.placed i m) (λ m. rest.placed i m) (Memᴰ.append_cases (given_by media source c) a);
      ascending = ordered_append (λ i j. Before (start_of i) (start_of j)) (given_by media source c) (jsdoc_imports media source cs) own.ascending
          rest.ascending rises;
      one_mode = (only_right fit f media).right.one_mode;
    }

    joined : jsdoc_imports media source (c ∷ cs) ≡ given_by media source c ++ jsdoc_imports media source cs
    joined = sym ((only_right fit f media).only (given_by media source c ++ jsdoc_imports media source cs) joined_right)

  -- no comment lists anything
  none_right : JsDocRight media source [] []
  none_right = record {
    exactly = λ p m. (λ x. absurd (Memᴰ_not_nil x.among), λ x. absurd (omega (arith, x.1.there)));
    placed = λ i a. absurd (Memᴰ_not_nil a);
    ascending = tt;
    one_mode = λ p q m n x y e. absurd (omega (arith, x.there));
  }

  in_order : (cs : List Comment) → Fit source cs → jsdoc_imports media source cs ≡ flat_map (given_by media source) cs
  unfolding flat_map
  in_order [] fit = sym ((only_right fit f media).only [] none_right)
  in_order (c ∷ cs) fit = rw (joined fit, in_order cs (fit_tail fit))

  few : (c : Comment) → Placed source c → length (given_by media source c) ≤ openings (body source c)
  unfolding jsdoc_imports ticked_by_all
  few c p = go (is_java_script media)
    where
      go : (b : Bool) → length (cond b (imports_from source 0 (ticks_of source (c ∷ []))) []) ≤ openings (body source c)
      go true = omega (arith, count_all source (ticks_of source (c ∷ [])) 0 (standings (fit_one p) f), ticks_few source c)
      go false = omega arith

  pub by_comment : {cs : List Comment} → Fit source cs → ByComment media source cs (jsdoc_imports media source cs)
  by_comment {cs} fit = record {
    in_order = in_order cs fit;
    right = λ k l. only_right (fit_one (fit.each k l)) f media;
    few = λ k l. few (comment_of cs k) (fit.each k l);
  }
