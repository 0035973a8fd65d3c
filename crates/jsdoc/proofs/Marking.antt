-- The marks of the readings from each place of what is left of a body, step by step.
use Rattle.std.specs.Prelude.{Option, Some, None}
use Rattle.laws.proofs.Prelude.{◌≡◌, refl, sym, ap, ◌∙◌, Bool, true, false, cond, ⊎_elim, List, [], ◌∷◌, ℕ, zero, suc, ◌+◌, ◌-◌, ◌≤◌, ◌<◌, code, arith}
use Rattle.laws.proofs.Prelude.{ℕ_discrete, eqb, ne_eqb, length, drop, get_or, get_or-set_same, none-some, drop_of_length-le, take, length-drop, drop-drop}
use Rattle.laws.proofs.Prelude.{get_or-drop}
use borrow.Author.Tests.{eqb-false}
use Rattle.std.proofs.lemmas.List.{drop_more, set-set, take_rest}
use Rattle.text.specs.Bytes.{begins}
use Rattle.analysis.specs.Mode.{Mode}
use Rattle.jsdoc.specs.Grammar.{Bytes}
use Rattle.jsdoc.specs.Parsed.{Parser, value}
use Rattle.jsdoc.specs.Reader.{Hit, hit, tag, seek, sought, parse_jsdoc_dynamic_import, parse_jsdoc_import_decl}
use Rattle.jsdoc.specs.{declared.answers.JsDocImport.JsDocImport, declared.answers.Searched.Searched}
use Rattle.jsdoc.specs.code.Answers.{Room, Scans, hit_as, from_first}
use Rattle.jsdoc.specs.code.Marks.{Marking, Stays, mark_at, hit_marked, all_marked}
use Rattle.jsdoc.proofs.{Searches.search_ended, Searches.seek_stays, Searches.seek_shorter, Searches.brace_sought, Searches.same_reading, Steps.first_left}
use Rattle.jsdoc.proofs.{Ends.ends_shorter, Suffixes.reading_ends, ReadingPlace.place_quote, Texts.quote_shorter}
use Rattle.jsdoc.proofs.Ticking.{Kind, braces, declarations}

-- the quote of a reading is there, and lies in what was read
pub hit_fits : {R : Bytes → Bytes → Bytes → Mode → Type 0} {p : Parser Hit} → Kind R p → (s : Bytes) {q e : Bytes} {m : Mode} → value (p s) ≡ Some (hit q e m)
    → (0 < length q) × (length q ≤ length s)
hit_fits K s {q} {e} {m} is =
    let r = K.reading ((K.agrees s q e m).1 is) in
    (omega (arith, quote_shorter (place_quote r).1), ends_shorter (reading_ends r).0)

pub room : {R : Bytes → Bytes → Bytes → Mode → Type 0} {p : Parser Hit} → Kind R p → (s : Bytes) (r : Option JsDocImport) → hit_as r ≡ value (p s)
    → Room (length s) r
room K s None is = tt
room K s (Some i) is = hit_fits K s (sym is)

pub room_at_brace : (s : Bytes) (r : Option JsDocImport) → hit_as r ≡ value (parse_jsdoc_dynamic_import s) → Room (length s) r
room_at_brace = room braces

pub room_at : (s : Bytes) (r : Option JsDocImport) → hit_as r ≡ value (parse_jsdoc_import_decl s) → Room (length s) r
room_at = room declarations

-- nothing is read where another byte stands than a reading begins with
pub begins_brace : (x : ℕ) (s : Bytes) → (x ≡ code "{" → ⊥) → value (parse_jsdoc_dynamic_import (x ∷ s)) ≡ None
unfolding parse_jsdoc_dynamic_import tag begins
begins_brace x s n = rw (ne_eqb x (code "{") n)

pub begins_at : (x : ℕ) (s : Bytes) → (x ≡ code "@" → ⊥) → value (parse_jsdoc_import_decl (x ∷ s)) ≡ None
unfolding parse_jsdoc_import_decl tag begins
begins_at x s n = rw (ne_eqb x (code "@") n)

pub search_shorter : (s : Bytes) {b : Bytes} {r : Searched} → Some b ≡ from_first (code "{") s → Scans b r → length r.end.now < length s
search_shorter s {b} h t =
    let (some, (left, begins)) = first_left (code "{") s b (sym h) in
    omega (arith, ap length t.end, sought_shorter b some begins)
  where
    sought_shorter : (s : Bytes) → 0 < length s → get_or s 0 0 ≡ code "{" → length (sought s) < length s
    sought_shorter [] h e = absurd (omega arith)
    sought_shorter (x ∷ t) h e =
        let to : sought (x ∷ t) ≡ seek t = rw e (brace_sought t) in
        omega (arith, ap length to, seek_shorter t)

pub one_less : (b : Bytes) → length (take (length b - 1) (drop 1 b)) ≤ length b
one_less b = rw take_rest (omega (arith, length-drop 1 b))

module _ {A : Type 0} (f : Marking A) (d : A) where
  module _ (p : Parser Hit) (n : ℕ) (m : ℕ) (other : (x : ℕ) (s : Bytes) → (x ≡ m → ⊥) → value (p (x ∷ s)) ≡ None) where
    -- up to the first byte that a reading begins with nothing is marked
    pub first_marked : (s : Bytes) {t : Bytes} (l : List A) → from_first m s ≡ Some t → all_marked f d p n s l ≡ all_marked f d p n t l
    unfolding from_first all_marked
    first_marked [] l e = absurd (none-some _ e)
    first_marked (x ∷ s) {t} l e = go (eqb x m) refl e (first_marked s l)
      where
        go : (c : Bool) → eqb x m ≡ c → cond c (Some (x ∷ s)) (from_first m s) ≡ Some t
            → (from_first m s ≡ Some t → all_marked f d p n s l ≡ all_marked f d p n t l)
            → all_marked f d p n (x ∷ s) l ≡ all_marked f d p n t l
        go true z e g = let i : x ∷ s ≡ t = cc in ap (λ u. all_marked f d p n u l) i
        go false z e g = rw (other x s (eqb-false x m z)) (g e)

    pub none_marked : (s : Bytes) (l : List A) → from_first m s ≡ None → all_marked f d p n s l ≡ l
    unfolding from_first all_marked
    none_marked [] l e = refl
    none_marked (x ∷ s) l e = go (eqb x m) refl e (none_marked s l)
      where
        go : (c : Bool) → eqb x m ≡ c → cond c (Some (x ∷ s)) (from_first m s) ≡ None → (from_first m s ≡ None → all_marked f d p n s l ≡ l)
            → all_marked f d p n (x ∷ s) l ≡ l
        go true z e g = absurd (none-some _ (sym e))
        go false z e g = rw (other x s (eqb-false x m z)) (g e)

  -- the reading from the front, and then those behind it
  pub next_marked : (p : Parser Hit) (n : ℕ) (s : Bytes) (l : List A) → 0 < length s
      → all_marked f d p n s l ≡ all_marked f d p n (drop 1 s) (hit_marked f d n s (value (p s)) l)
  unfolding all_marked
  next_marked p n [] l h = absurd (omega arith)
  next_marked p n (x ∷ s) l h = refl

  -- what each place keeps holds of the marks of a whole body
  pub kept_by_all : (p : Parser Hit) (b : Bytes) (I : ℕ → List A → Type 0)
      → ((i : ℕ) (l : List A) → i < length b → I i l → I (i + 1) (hit_marked f d (length b) (drop i b) (value (p (drop i b))) l))
      → (l : List A) → I 0 l → I (length b) (all_marked f d p (length b) b l)
  unfolding all_marked
  kept_by_all p b I step = go (length b) 0 (omega arith)
    where
      go : (k i : ℕ) → i + k ≡ length b → (l : List A) → I i l → I (length b) (all_marked f d p (length b) (drop i b) l)
      go zero i h l t =
          let end : i ≡ length b = omega arith in
          let none : drop i b ≡ [] = drop_of_length-le b (omega arith) in
          rw none (rw end at t)
      go (suc k) i h l t =
          let within : i < length b = omega arith in
          rw (drop_more b i 0 within) (go k (i + 1) (omega arith) _ (rw (← drop_more b i 0 within) (step i l within t)))

  -- ---- a brace

  -- a second mark of the same cell
  twice : Stays f → (i k q : ℕ) (m : Mode) → i < k → (l : List A) → q < length l → mark_at f d k q m (mark_at f d i q m l) ≡ mark_at f d i q m l
  twice s i k q m h l w = rw (get_or-set_same l q (f (get_or l q d) i m) d w, s (get_or l q d) i k m h, set-set l q)

  module _ (n : ℕ) (stays : Stays f) where
    again : (s t : Bytes) → length t < length s → length s ≤ n → (o : Option Hit) → value (parse_jsdoc_dynamic_import s) ≡ o → (l : List A) → length l ≡ n
        → hit_marked f d n t o (hit_marked f d n s o l) ≡ hit_marked f d n s o l
    again s t h w None e l z = refl
    again s t h w (Some (hit q u m)) e l z =
        let fits = hit_fits braces s e in
        twice stays (n - length s) (n - length t) (n - length q) m (omega arith) l (omega (arith, fits.0, fits.1))

    -- each brace before the place where the search from s ended has the same reading
    module _ (s : Bytes) {r : Searched} (t : Scans s r) (w : length s ≤ n) (l : List A) (z : length l ≡ n) where
      abbrev marks : List A
      marks = hit_marked f d n s (value (parse_jsdoc_dynamic_import s)) l

      same : (k x : ℕ) (u : Bytes) → drop k s ≡ x ∷ u → 0 < k → length r.end.now ≤ length u
          → hit_marked f d n (x ∷ u) (value (parse_jsdoc_dynamic_import (x ∷ u))) marks ≡ marks
      same k x u e g h = go (ℕ_discrete x (code "{"))
        where
          go : Dec (x ≡ code "{") → hit_marked f d n (x ∷ u) (value (parse_jsdoc_dynamic_import (x ∷ u))) marks ≡ marks
          go (no b) = rw (begins_brace x u b)
          go (yes b) =
              let long : suc (length u) ≡ length s - k = sym (ap length e) ∙ length-drop k s in
              let n : k ≡ k + 0 = omega arith in
              let first : get_or s k 0 ≡ x = ap (λ (n : ℕ). get_or s n 0) n ∙ sym (get_or-drop k s 0 0) ∙ ap (λ (t : Bytes). get_or t 0 0) e in
              rw (sym (ap parse_jsdoc_dynamic_import e) ∙ same_reading s t k (omega (arith, long, h)) (first ∙ b))
              (again s (x ∷ u) (omega (arith, long)) w (value (parse_jsdoc_dynamic_import s)) refl l z)

      searched : (k : ℕ) (u : Bytes) → drop k s ≡ u → 0 < k → seek u ≡ r.end.now
          → all_marked f d parse_jsdoc_dynamic_import n u marks ≡ all_marked f d parse_jsdoc_dynamic_import n r.end.now marks
      unfolding all_marked
      searched k [] e g i = let to : seek [] ≡ [] = search_ended [] (omega arith) in rw (sym i ∙ to)
      searched k (x ∷ u) e g i =
          let left : drop (k + 1) s ≡ u = sym (drop-drop 1 k s) ∙ ap (drop 1) e in
          ⊎_elim stops (λ j. goes_on j (searched (k + 1) u left (omega arith) (sym j ∙ i))) (seek_stays x u)
        where
          stops : seek (x ∷ u) ≡ x ∷ u → all_marked f d parse_jsdoc_dynamic_import n (x ∷ u) marks ≡ all_marked f d parse_jsdoc_dynamic_import n r.end.now marks
          stops j = ap (λ v. all_marked f d parse_jsdoc_dynamic_import n v marks) (sym j ∙ i)

          goes_on : seek (x ∷ u) ≡ seek u → all_marked f d parse_jsdoc_dynamic_import n u marks ≡ all_marked f d parse_jsdoc_dynamic_import n r.end.now marks
              → all_marked f d parse_jsdoc_dynamic_import n (x ∷ u) marks ≡ all_marked f d parse_jsdoc_dynamic_import n r.end.now marks
          goes_on j v = rw (same k x u e g (omega (arith, ap length (sym j ∙ i), seek_shorter u)), v)

    -- the reading of a brace, and then those from where the search ended
    pub brace_marked : (s : Bytes) {r : Searched} → Scans s r → length s ≤ n → 0 < length s → get_or s 0 0 ≡ code "{" → (l : List A) → length l ≡ n
        → all_marked f d parse_jsdoc_dynamic_import n s l
        ≡ all_marked f d parse_jsdoc_dynamic_import n r.end.now (hit_marked f d n s (value (parse_jsdoc_dynamic_import s)) l)
    unfolding all_marked
    brace_marked [] t w h e l z = absurd (omega arith)
    brace_marked (x ∷ u) t w h e l z =
        let to : sought (x ∷ u) ≡ seek u = rw e (brace_sought u) in
        searched (x ∷ u) t w l z 1 u refl (omega arith) (sym to ∙ sym t.end)

  -- ---- the turns of the loops

  pub braces_end : (n : ℕ) (s : Bytes) (l : List A) → None ≡ from_first (code "{") s → all_marked f d parse_jsdoc_dynamic_import n s l ≡ l
  braces_end n s l h = none_marked parse_jsdoc_dynamic_import n (code "{") begins_brace s l (sym h)

  pub declarations_end : (n : ℕ) (s : Bytes) (l : List A) → None ≡ from_first (code "@") s → all_marked f d parse_jsdoc_import_decl n s l ≡ l
  declarations_end n s l h = none_marked parse_jsdoc_import_decl n (code "@") begins_at s l (sym h)

  module _ (n : ℕ) (s b : Bytes) (l u : List A) where
    pub brace_turn : (r : Searched) → Stays f → Some b ≡ from_first (code "{") s → length b ≤ n → length l ≡ n → Scans b r
        → u ≡ hit_marked f d (length l) b (hit_as r.found) l
        → all_marked f d parse_jsdoc_dynamic_import n s l ≡ all_marked f d parse_jsdoc_dynamic_import n r.end.now u
    brace_turn r stays h w z t e =
        let (some, (left, begins)) = first_left (code "{") s b (sym h) in
        first_marked parse_jsdoc_dynamic_import n (code "{") begins_brace s l (sym h)
        ∙ brace_marked n stays b t w some begins l z
        ∙ rw (← t.import, e, z)

    pub declaration_turn : (o : Option JsDocImport) → Some b ≡ from_first (code "@") s → length l ≡ n → hit_as o ≡ value (parse_jsdoc_import_decl b)
        → u ≡ hit_marked f d (length l) b (hit_as o) l
        → all_marked f d parse_jsdoc_import_decl n s l ≡ all_marked f d parse_jsdoc_import_decl n (take (length b - 1) (drop 1 b)) u
    declaration_turn o h z t e =
        first_marked parse_jsdoc_import_decl n (code "@") begins_at s l (sym h)
        ∙ next_marked parse_jsdoc_import_decl n b l (first_left (code "@") s b (sym h)).0
        ∙ rw (← t, e, z, take_rest)

-- the loop over braces: its room, that it ends, its last turn and another
pub ruleset braces_marked = (room_at_brace, search_shorter, braces_end, brace_turn)
