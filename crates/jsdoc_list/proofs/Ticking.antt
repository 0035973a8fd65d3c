-- The ticks of all comments are those of the readings that are listed in them.
use Rattle.std.specs.Prelude.{fold, map}
use Rattle.laws.proofs.Prelude.{◌≡◌, refl, sym, ap, ◌∙◌, Bool, true, false, cond, true≢false, ◌⊎◌, ⊎_elim, inl, inr, List, [], ◌∷◌, ◌++◌, ℕ, zero, suc, ◌+◌}
use Rattle.laws.proofs.Prelude.{◌-◌, ◌≤◌, ◌<◌, zero-le, suc-le-suc, arith, length, take, drop, get_or, length-append, length-drop}
use Rattle.laws.proofs.Prelude.{get_or-eq_default, drop-drop, length-take-le, get_or-drop}
use native.Mathlib.Decide.{dec_lt}
use lib.{ListN.get_or-append, Seq.get_or-append-add, Seq.get_or-take}
use Rattle.laws.specs.Codec.{All}
use Rattle.analysis.{specs.Mode.Mode, specs.Mode.mode_number, proofs.Modes.number_small}
use Rattle.jsdoc.{specs.Grammar.Listed, specs.code.Ticks.Ticks, specs.Listing.listing, proofs.Listing.listing_ticks}
use Rattle.jsdoc.proofs.Ticked.{ticks_iff, ticks_unique, ticks_nothing}
use Rattle.sheet.specs.{declared.comments.Comment.Comment, Fit.comment_of, Fit.Fit, Lookups.body_span, Lookups.body}
use Rattle.sheet.specs.code.Commented.{placed_in}
use Rattle.sheet.proofs.Bodies.{BodyWithin, placed_body}
use Rattle.jsdoc_list.specs.Imports.{is_star_opened, ticked_by, ticked_by_all, ticks_of}
use Rattle.jsdoc_list.specs.Demand.{StarOpened}
use Rattle.jsdoc_list.proofs.StarOpened.{opened_sound, opened_complete}

-- a star-opened comment lists a place that begins at q of the source
abbrev pub ReadBy : List ℕ → Comment → ℕ → Mode → Type 0
ReadBy source c q m = StarOpened source c × (j : ℕ) × (q ≡ (body_span c).start + j) × Listed (body source c) j m

-- some comment does
abbrev pub ReadIn : List ℕ → List Comment → ℕ → Mode → Type 0
ReadIn source cs q m = (k : ℕ) × (k < length cs) × ReadBy source (comment_of cs k) q m

-- a list with another in place of its part from a to b
module _ (a b : ℕ) (l p : List ℕ) (h : a ≤ b) (e : b ≤ length l) (s : length p ≡ b - a) where
  long : length (take a l) ≡ a
  long = length-take-le a l (omega arith)

  pasted_length : length (take a l ++ (p ++ drop b l)) ≡ length l
  pasted_length = omega (arith, long, length-append (take a l) (p ++ drop b l), length-append p (drop b l), length-drop b l)

  pasted_front : (q : ℕ) → q < a → get_or (take a l ++ (p ++ drop b l)) q 0 ≡ get_or l q 0
  pasted_front q g = get_or-append (take a l) (p ++ drop b l) 0 q (rw long g) ∙ get_or-take a l q 0 g

  behind : (n : ℕ) → get_or (take a l ++ (p ++ drop b l)) (a + n) 0 ≡ get_or (p ++ drop b l) n 0
  behind n = rw long at (get_or-append-add (take a l) (p ++ drop b l) n 0)

  pasted_part : (j : ℕ) → j < length p → get_or (take a l ++ (p ++ drop b l)) (a + j) 0 ≡ get_or p j 0
  pasted_part j g = behind j ∙ get_or-append p (drop b l) 0 j g

  pasted_past : (q : ℕ) → b ≤ q → get_or (take a l ++ (p ++ drop b l)) q 0 ≡ get_or l q 0
  pasted_past q g =
      let n : q ≡ a + (length p + (q - b)) = omega arith in
      let m : b + (q - b) ≡ q = omega arith in
      ap (λ (n : ℕ). get_or (take a l ++ (p ++ drop b l)) n 0) n ∙ behind (length p + (q - b)) ∙ get_or-append-add p (drop b l) (q - b) 0
      ∙ get_or-drop b l (q - b) 0 ∙ ap (λ (n : ℕ). get_or l n 0) m

-- what is ticked is inside the table
ticks_below : {P : ℕ → Mode → Type 0} {n : ℕ} {l : List ℕ} → Ticks P n l → (q : ℕ) (m : Mode) → P q m → q < n
ticks_below {n} {l} k q m r = go (dec_lt q n)
  where
    go : Dec (q < n) → q < n
    go (yes h) = h
    go (no h) = absurd (omega (arith, k.complete q m r, get_or-eq_default l 0 {n = q} (omega (arith, k.same))))

-- ticks in place of a part of others that reach up to it
module _ {P R : ℕ → Mode → Type 0} {n : ℕ} {l p : List ℕ} (a b : ℕ) (h : a ≤ b) (g : b ≤ n) (k : Ticks P n l) (t : Ticks R (b - a) p) where
  ticks_pasted : ((q : ℕ) (m : Mode) → P q m → q < a) → Ticks (λ q m. P q m ⊎ ((j : ℕ) × (q ≡ a + j) × R j m)) n (take a l ++ (p ++ drop b l))
  ticks_pasted before =
      record { same = pasted_length a b l p h end t.same ∙ k.same; sound = λ q i e. sound q i e (dec_lt q a) (dec_lt q b); complete = complete }
    where
      end : b ≤ length l
      end = rw k.same g

      sound : (q v : ℕ) → get_or (take a l ++ (p ++ drop b l)) q 0 ≡ v + 1 → Dec (q < a) → Dec (q < b)
          → (m : Mode) × (mode_number m ≡ v) × (P q m ⊎ ((j : ℕ) × (q ≡ a + j) × R j m))
      sound q v e (yes i) d = let (m, n, r) = k.sound q v (sym (pasted_front a b l p h end t.same q i) ∙ e) in (m, n, inl r)
      sound q v e (no i) (yes d) =
          let s : q ≡ a + (q - a) = omega arith in
          let f = pasted_part a b l p h end t.same (q - a) (omega (arith, t.same)) in
          let (m, n, r) = t.sound (q - a) v (sym f ∙ ap (λ (n : ℕ). get_or (take a l ++ (p ++ drop b l)) n 0) (sym s) ∙ e) in
          (m, n, inr (q - a, s, r))
      sound q v e (no i) (no d) = let (m, n, r) = k.sound q v (sym (pasted_past a b l p h end t.same q (omega arith)) ∙ e) in (m, n, inl r)

      complete : (q : ℕ) (m : Mode) → P q m ⊎ ((j : ℕ) × (q ≡ a + j) × R j m) → get_or (take a l ++ (p ++ drop b l)) q 0 ≡ mode_number m + 1
      complete q m (inl r) = pasted_front a b l p h end t.same q (before q m r) ∙ k.complete q m r
      complete q m (inr (j, e, r)) = rw e (pasted_part a b l p h end t.same j (rw t.same (ticks_below t j m r)) ∙ t.complete j m r)

module _ {source : List ℕ} (c : Comment) (w : BodyWithin source c) where
  body_ticks : Ticks (Listed (body source c)) ((body_span c).end - (body_span c).start) (listing (body source c))
  body_ticks = rw w.long at (listing_ticks (body source c))

  -- a place that a comment lists is in its body
  pub read_below : {q : ℕ} {m : Mode} → ReadBy source c q m → ((body_span c).start ≤ q) × (q < (body_span c).end)
  read_below {m} (o, j, e, r) = let below = ticks_below body_ticks j m r in (omega arith, omega (arith, w.order))

  -- the ticks of one comment more, behind all places that are ticked
  ticks_by : {P : ℕ → Mode → Type 0} {l : List ℕ} → Ticks P (length source) l → ((q : ℕ) (m : Mode) → P q m → q < (body_span c).start)
      → Ticks (λ q m. P q m ⊎ ReadBy source c q m) (length source) (ticked_by source c l)
  unfolding ticked_by
  ticks_by {P} {l} k before = go (is_star_opened source c) refl
    where
      go : (t : Bool) → is_star_opened source c ≡ t
          → Ticks (λ q m. P q m ⊎ ReadBy source c q m) (length source)
          (cond t (take (body_span c).start l ++ (listing (body source c) ++ drop (body_span c).end l)) l)
      go true o =
          ticks_iff (λ q m r. ⊎_elim inl (λ x. inr (opened_sound source c o, x.0, x.1, x.2)) r) (λ q m r. ⊎_elim inl (λ x. inr (x.1, x.2, x.3)) r)
          (ticks_pasted (body_span c).start (body_span c).end w.order (omega (arith, w.end, w.source_end_lem)) k body_ticks before)
      go false o = ticks_iff (λ q m r. inl r) (λ q m r. ⊎_elim (λ x. x) (λ x. absurd (true≢false (sym (opened_complete source c x.0) ∙ o))) r) k

pub fit_tail : {source : List ℕ} {c : Comment} {cs : List Comment} → Fit source (c ∷ cs) → Fit source cs
fit_tail f = record { each = λ k l. f.each (suc k) (suc-le-suc l); apart = λ j k i l. f.apart (suc j) (suc k) (suc-le-suc i) (suc-le-suc l) }

ticks_by_all : {source : List ℕ} (cs : List Comment) → Fit source cs → {P : ℕ → Mode → Type 0} {l : List ℕ} → Ticks P (length source) l
    → ((k q : ℕ) (m : Mode) → k < length cs → P q m → q < (body_span (comment_of cs k)).start)
    → Ticks (λ q m. P q m ⊎ ReadIn source cs q m) (length source) (ticked_by_all source cs l)
unfolding ticked_by_all
ticks_by_all [] f k before = ticks_iff (λ q m r. inl r) (λ q m r. ⊎_elim (λ x. x) (λ x. absurd (omega (arith, x.1))) r) k
ticks_by_all {source} (c ∷ cs) f {P} k before =
    ticks_iff on back (ticks_by_all cs (fit_tail f) (ticks_by c w k (λ q m. before 0 q m (suc-le-suc zero-le))) later)
  where
    w : BodyWithin source c
    w = placed_body source c (f.each 0 (suc-le-suc zero-le))

    later : (k q : ℕ) (m : Mode) → k < length cs → P q m ⊎ ReadBy source c q m → q < (body_span (comment_of cs k)).start
    later k q m h (inl r) = before (suc k) q m (suc-le-suc h) r
    later k q m h (inr r) =
        let v = placed_body source (comment_of cs k) (f.each (suc k) (suc-le-suc h)) in
        omega (arith, (read_below c w r).1, w.end, f.apart 0 (suc k) (suc-le-suc zero-le) (suc-le-suc h), v.start)

    on : (q : ℕ) (m : Mode) → (P q m ⊎ ReadBy source c q m) ⊎ ReadIn source cs q m → P q m ⊎ ReadIn source (c ∷ cs) q m
    on q m (inl (inl r)) = inl r
    on q m (inl (inr r)) = inr (0, suc-le-suc zero-le, r)
    on q m (inr (k, h, r)) = inr (suc k, suc-le-suc h, r)

    back : (q : ℕ) (m : Mode) → P q m ⊎ ReadIn source (c ∷ cs) q m → (P q m ⊎ ReadBy source c q m) ⊎ ReadIn source cs q m
    back q m (inl r) = inl (inl r)
    back q m (inr (zero, h, r)) = inl (inr r)
    back q m (inr (suc k, h, r)) = inr (k, omega arith, r)

pub ticks_of_lem : {source : List ℕ} (cs : List Comment) → Fit source cs → Ticks (ReadIn source cs) (length source) (ticks_of source cs)
ticks_of_lem {source} cs f =
    ticks_iff (λ q m r. ⊎_elim (λ x. absurd x) (λ x. x) r) (λ q m r. inr r)
    (ticks_by_all cs f (ticks_nothing (λ q m r. r) (length source)) (λ k q m h r. absurd r))

-- no tick is more than 3
pub ticks_small : {source : List ℕ} {cs : List Comment} → Fit source cs → (q : ℕ) → get_or (ticks_of source cs) q 0 ≤ 3
ticks_small {source} {cs} fit q = go (get_or (ticks_of source cs) q 0) refl
  where
    go : (v : ℕ) → get_or (ticks_of source cs) q 0 ≡ v → v ≤ 3
    go zero e = omega arith
    go (suc v) e = let (m, n, r) = (ticks_of_lem cs fit).sound q v (omega arith) in omega (arith, n, number_small m)

-- ---- the turns of the code

-- where the ticks of a comment's body are put in place of its part
pub ticked_part : (source : List ℕ) (c : Comment) (l : List ℕ) {p : List ℕ} → (body_span c).start ≤ (body_span c).end → is_star_opened source c ≡ true
    → Ticks (Listed (body source c)) (length (body source c)) p
    → take (body_span c).start l ++ (p ++ drop ((body_span c).end - (body_span c).start) (drop (body_span c).start l)) ≡ ticked_by source c l
unfolding ticked_by
ticked_part source c l w o k =
    let n : (body_span c).start + ((body_span c).end - (body_span c).start) ≡ (body_span c).end = omega (arith, w) in
    rw (o, drop-drop ((body_span c).end - (body_span c).start) (body_span c).start l, n, ticks_unique k (listing_ticks (body source c)))

-- comments with their source: they are of it, and they are ticked as without it
module _ (source : List ℕ) where
  pub of_source : (cs : List Comment) → All (λ c. c.source ≡ source) (map (placed_in source) cs)
  of_source [] = tt
  of_source (c ∷ cs) = (refl, of_source cs)

  pub ticked_placed : (cs : List Comment) (l : List ℕ) → fold (λ t c. ticked_by c.source c.comment t) l (map (placed_in source) cs) ≡ ticked_by_all source cs l
  unfolding ticked_by_all
  ticked_placed [] l = refl
  ticked_placed (c ∷ cs) l = ticked_placed cs (ticked_by source c l)
