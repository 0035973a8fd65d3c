-- The character reader answers a code point exactly where the text begins with its encoding.
use Rattle.laws.proofs.Prelude.{◌≡◌, refl, sym, ap, ◌∙◌, Bool, true, false, cond, ◌||◌, and-eq-true_iff, or-true, false≢true, List, [], ◌∷◌, ◌++◌, ℕ, zero}
use Rattle.laws.proofs.Prelude.{suc, ◌+◌, ◌/◌, ◌≤◌, ◌<◌, arith, leb, ltb, length, get_or, take, drop, length-take-le, leb-true, leb-false, lt-leb, ltb-true}
use Rattle.laws.proofs.Prelude.{lt-ltb, le-ltb}
use mathlib.Core.Bool.{and-false, not-eq-not}
use lib.{ListN.take-append-drop, Seq.take_at, Seq.drop_at}
use Rattle.laws.specs.Codec.{All}
use Rattle.std.proofs.lemmas.Bool.{cond_both}
use Rattle.text.specs.declared.utf8.Encoding.{Encoding, TheVariants.Utf8, TheVariants.Wtf8}
use Rattle.text.specs.Ranges.{Range, ◌to◌, within, in_ranges}
use Rattle.text.specs.Utf8.{admits, Row, char, never, lead_surrogate, trail_surrogate, pair, rows, besides, length_by, char_length, code_by, char_at}
use Rattle.text.specs.Encode.{encode, code_points, Lead, Trail, Paired, Exact, RowExact}
use Rattle.text.proofs.{CodePoint.by_length, CodePoint.round, RangesAdmit.admits_append}
use Rattle.text.proofs.Exact.{exact, leads, trails}
use Rattle.text.proofs.Formed.{admitted, every_row}
use Rattle.text.proofs.WithinRange.{within_iff, merged, swapped}

-- the code points of a table
abbrev pub spans : List Row → List Range
spans [] = []
spans (char first last rs ∷ more) = (first to last) ∷ spans more
spans (never rs ∷ more) = spans more

-- those of an encoding's table are those of the encoding
pub covered : (e : Encoding) (p : ℕ) → in_ranges (spans (rows e)) p ≡ in_ranges (code_points e) p
covered e p =
    merged [] 0x0000 0x007F 0x07FF _ p (omega arith)
    ∙ merged [] 0x0000 0x07FF 0x0FFF _ p (omega arith)
    ∙ merged [] 0x0000 0x0FFF 0xCFFF _ p (omega arith)
    ∙ merged [] 0x0000 0xCFFF 0xD7FF _ p (omega arith)
    ∙ merged low 0xE000 0xFFFF 0x3FFFF _ p (omega arith)
    ∙ merged low 0xE000 0x3FFFF 0xFFFFF _ p (omega arith)
    ∙ merged low 0xE000 0xFFFFF 0x10FFFF _ p (omega arith)
    ∙ also e
  where
    low : List Range
    low = (0x0000 to 0xD7FF) ∷ []

    also : (e : Encoding) → in_ranges ((0x0000 to 0xD7FF) ∷ (0xE000 to 0x10FFFF) ∷ spans (besides e)) p ≡ in_ranges (code_points e) p
    also Utf8 = refl
    also Wtf8 =
        swapped (0x0000 to 0xD7FF) (0xE000 to 0x10FFFF) (0xD800 to 0xDFFF) [] p
        ∙ merged [] 0x0000 0xD7FF 0xDFFF ((0xE000 to 0x10FFFF) ∷ []) p (omega arith)
        ∙ merged [] 0x0000 0xDFFF 0x10FFFF [] p (omega arith)

pub bounded : (e : Encoding) (p : ℕ) → in_ranges (code_points e) p ≡ true → p ≤ 0x10FFFF
unfolding in_ranges
bounded e p t = go e (leb p 0x10FFFF) refl t
  where
    go : (e : Encoding) (b : Bool) → leb p 0x10FFFF ≡ b → in_ranges (code_points e) p ≡ true → p ≤ 0x10FFFF
    go e true h t = leb-true p 0x10FFFF h
    go Utf8 false h t = let l = leb-false p 0x10FFFF h in absurd (false≢true (simp (h, lt-leb p 0xD7FF (omega arith), and-false) at t))
    go Wtf8 false h t = absurd (false≢true (simp (h, and-false) at t))

-- the length of a character by its first byte
abbrev length_from : ℕ → ℕ
length_from x = cond (ltb x 0x80) 1 (cond (ltb x 0xE0) 2 (cond (ltb x 0xF0) 3 4))

first_byte : (p : ℕ) → p ≤ 0x10FFFF → (t : List ℕ) → length_from (get_or (encode p ++ t) 0 0) ≡ length (encode p)
first_byte p b t =
    by_length (λ bs. length_from (get_or (bs ++ t) 0 0) ≡ length bs) p
    (λ l. simp (lt-ltb p 0x80 l))
    (λ l h. let x = 0xC0 + p / 64 in simp (le-ltb x 0x80 (omega arith), lt-ltb x 0xE0 (omega arith)))
    (λ l h. let x = 0xE0 + p / 4096 in simp (le-ltb x 0x80 (omega arith), le-ltb x 0xE0 (omega arith), lt-ltb x 0xF0 (omega arith)))
    (λ l. let x = 0xF0 + p / 262144 in simp (le-ltb x 0x80 (omega arith), le-ltb x 0xE0 (omega arith), le-ltb x 0xF0 (omega arith)))

-- a text begins with the encoding of at most one code point
pub unique : (p q : ℕ) (t u : List ℕ) → p ≤ 0x10FFFF → q ≤ 0x10FFFF → encode p ++ t ≡ encode q ++ u → p ≡ q
unique p q t u b c e = cc (first_byte p b t, first_byte q c u, round p b t, round q c u)

admits_take : (rs : List Range) (s : List ℕ) → admits rs (take (length rs) s) ≡ admits rs s
unfolding admits
admits_take [] s = refl
admits_take (r ∷ rs) [] = refl
admits_take (r ∷ rs) (x ∷ s) = rw (admits_take rs s)

-- what a row that is exact says of texts that go on behind its bytes
module _ {first last : ℕ} {rs : List Range} (x : Exact first last rs) where
  pub text_only : (s : List ℕ) → admits rs s ≡ true
      → (p : ℕ) × (first ≤ p) × (p ≤ last) × (length rs ≡ length (encode p)) × (s ≡ encode p ++ drop (length rs) s)
  text_only s t =
      let n = length-take-le (length rs) s (admitted rs s t) in
      let (p, l, u, e) = x.only (take (length rs) s) n (admits_take rs s ∙ t) in
      (p, l, u, sym n ∙ ap length e, cc (take-append-drop (length rs) s))

  pub text_all : (p : ℕ) → first ≤ p → p ≤ last → (t : List ℕ) → admits rs (encode p ++ t) ≡ true
  text_all p l u t =
      let (a, n) = x.all p l u in
      sym (admits_take rs (encode p ++ t)) ∙ rw (take_at (encode p) t (length rs) n) a

-- p is the character that the text begins with, and the reader answers it
pub record Character (e : Encoding) (s : List ℕ) (p : ℕ) : Type 0 where
  pub among : in_ranges (code_points e) p ≡ true
  pub read : char_at e s ≡ record { len = length (encode p); code = p }
  pub begins : s ≡ encode p ++ drop (char_length e s) s

-- where a table has a length n for the text, the text begins with one of the table's code points, in n bytes
abbrev Stands : List Row → List ℕ → ℕ → Type 0
Stands table s n = (n ≡ 0 → ⊥) → (p : ℕ) × (in_ranges (spans table) p ≡ true) × (n ≡ length (encode p)) × (s ≡ encode p ++ drop n s)

stands : (table : List Row) → All RowExact table → (s : List ℕ) → Stands table s (length_by table s)
unfolding length_by in_ranges
stands [] x s = λ z. absurd (z refl)
stands (char first last rs ∷ more) x s =
    cond_both (admits rs s) _ _ (Stands (char first last rs ∷ more) s)
    (λ h z. let (p, l, u, n, e) = text_only x.0 s h in (p, rw ((within_iff first last p).1 (l, u)), n, e))
    (λ h z. let (p, i, n, e) = stands more x.1 s z in (p, rw (i, or-true), n, e))
stands (never rs ∷ more) x s = cond_both (admits rs s) _ _ (Stands more s) (λ h z. absurd (z refl)) (λ h. stands more x.1 s)

-- where the reader answers a length, the text begins with the character that it answers
pub reader_sound : (e : Encoding) (s : List ℕ) → (char_length e s ≡ 0 → ⊥) → (p : ℕ) × Character e s p
unfolding char_length char_at
reader_sound e s z =
    let (p, i, n, b) = stands (rows e) (exact e) s z in
    let k = sym (covered e p) ∙ i in
    let c : code_by (length (encode p)) s ≡ p = ap (code_by (length (encode p))) b ∙ round p (bounded e p k) _ in
    (p, record { among = k; read = rw (n, c); begins = b })

-- each row that is a character has a byte
abbrev is_some : List Range → Bool
is_some rs = ltb 0 (length rs)

some_rows : (e : Encoding) → every_row is_some (rows e) ≡ true
some_rows Utf8 = refl
some_rows Wtf8 = refl

-- the text begins with none of the sequences that no text has
abbrev Free : List Row → List ℕ → Type 0
Free [] s = Unit {0}
Free (char first last rs ∷ more) s = Free more s
Free (never rs ∷ more) s = (admits rs s ≡ false) × Free more s

pub otherwise : (a b : Bool) → a || b ≡ true → (a ≡ true → ⊥) → b ≡ true
otherwise true b t f = absurd (f refl)
otherwise false b t f = t

-- then a table has a length for it where it begins with one of the table's code points
some_length : (table : List Row) → every_row is_some table ≡ true → All RowExact table → (p : ℕ) (t : List ℕ) → Free table (encode p ++ t)
    → in_ranges (spans table) p ≡ true → length_by table (encode p ++ t) ≡ 0 → ⊥
unfolding length_by in_ranges
some_length [] k x p t f i = absurd (false≢true i)
some_length (char first last rs ∷ more) k x p t f i =
    let (some, k) = (and-eq-true_iff (is_some rs) (every_row is_some more)).0 k in
    cond_both (admits rs (encode p ++ t)) _ _ (λ n. n ≡ 0 → ⊥) (λ h z. omega (arith, ltb-true 0 (length rs) some)) λ h.
    some_length more k x.1 p t f
    (otherwise (within (first to last) p) (in_ranges (spans more) p) i λ w.
    let (l, u) = (within_iff first last p).0 w in false≢true (sym h ∙ text_all x.0 p l u t))
some_length (never rs ∷ more) k x p t f i = rw f.0 (some_length more k x.1 p t f.1 i)

-- and rows that have none are passed over
passed_over : (front more : List Row) (s : List ℕ) → every_row is_some front ≡ true → Free front s → length_by front s ≡ 0
    → length_by (front ++ more) s ≡ length_by more s
unfolding length_by
passed_over [] more s k f z = refl
passed_over (char first last rs ∷ front) more s k f z =
    let (some, k) = (and-eq-true_iff (is_some rs) (every_row is_some front)).0 k in
    go (admits rs s) (ltb-true 0 (length rs) some) (passed_over front more s k f) z
  where
    go : (b : Bool) → 0 < length rs → (length_by front s ≡ 0 → length_by (front ++ more) s ≡ length_by more s) → cond b (length rs) (length_by front s) ≡ 0
        → cond b (length rs) (length_by (front ++ more) s) ≡ length_by more s
    go true some on z = absurd (omega arith)
    go false some on z = on z
passed_over (never rs ∷ front) more s k f z = let no = f.0 in rw no (passed_over front more s k f.1 (rw no at z))

-- where the text begins with the encoding of p and the reader answers a length, it answers p
answers : (e : Encoding) (p : ℕ) (t : List ℕ) → in_ranges (code_points e) p ≡ true → (char_length e (encode p ++ t) ≡ 0 → ⊥)
    → char_at e (encode p ++ t) ≡ record { len = length (encode p); code = p }
answers e p t i z =
    let (q, c) = reader_sound e (encode p ++ t) z in
    let same = unique p q t _ (bounded e p i) (bounded e q c.among) c.begins in
    cc

-- in UTF-8 that is each scalar value
pub reader_complete : (p : ℕ) (t : List ℕ) → in_ranges (code_points Utf8) p ≡ true
    → char_at Utf8 (encode p ++ t) ≡ record { len = length (encode p); code = p }
unfolding char_length
reader_complete p t i = answers Utf8 p t i (some_length (rows Utf8) refl (exact Utf8) p t tt (covered Utf8 p ∙ i))

-- ---- surrogates

-- the sequences of a pair are the encodings of a lead surrogate and a trail one
pair_only : (p : ℕ) (t : List ℕ) → p ≤ 0x10FFFF → admits pair (encode p ++ t) ≡ true → Paired p t
pair_only p t b h =
    let s = encode p ++ t in
    let both = (and-eq-true_iff (admits lead_surrogate s) (admits trail_surrogate (drop 3 s))).0 (sym (admits_append lead_surrogate trail_surrogate s) ∙ h) in
    let (r, l, u, n, e) = text_only leads s both.0 in
    let (q, m, v, _, f) = text_only trails (drop 3 s) both.1 in
    let same = unique p r t _ b (omega arith) e in
    let behind : drop 3 s ≡ t = drop_at (encode p) t 3 (rw same (sym n)) in
    (rw same (l, u), q, (m, v), drop 3 (drop 3 s), sym behind ∙ f)

pair_all : (p q : ℕ) (t : List ℕ) → Lead p → Trail q → admits pair (encode p ++ (encode q ++ t)) ≡ true
pair_all p q t l m =
    let s = encode p ++ (encode q ++ t) in
    admits_append lead_surrogate trail_surrogate s
    ∙ rw (text_all leads p l.0 l.1 (encode q ++ t), drop_at (encode p) (encode q ++ t) 3 (leads.all p l.0 l.1).1)
    (text_all trails q m.0 m.1 t)

-- a code point's encoding is read with its length, but for a lead surrogate with a trail one right behind it
pub reads : (e : Encoding) (p : ℕ) (t : List ℕ) → in_ranges (code_points e) p ≡ true → (Paired p t → ⊥)
    → char_at e (encode p ++ t) ≡ record { len = length (encode p); code = p }
unfolding char_length
reads e p t i alone = answers e p t i (some_length (rows e) (some_rows e) (exact e) p t (free e) (covered e p ∙ i))
  where
    free : (e : Encoding) → Free (rows e) (encode p ++ t)
    free Utf8 = tt
    free Wtf8 = (not-eq-not.0 (λ h. alone (pair_only p t (bounded e p i) h)), tt)

-- a surrogate is no character of UTF-8
pub no_scalar : (p : ℕ) → 0xD800 ≤ p → p ≤ 0xDFFF → in_ranges (code_points Utf8) p ≡ true → ⊥
unfolding in_ranges
no_scalar p l h i = false≢true (simp (lt-leb p 0xD7FF (omega arith), lt-leb 0xE000 p (omega arith), and-false) at i)

unread : (p : ℕ) (t : List ℕ) → 0xD800 ≤ p → p ≤ 0xDFFF → char_length Utf8 (encode p ++ t) ≡ 0
unread p t l h = go (char_length Utf8 (encode p ++ t)) refl
  where
    go : (n : ℕ) → char_length Utf8 (encode p ++ t) ≡ n → n ≡ 0
    go zero e = refl
    go (suc n) e =
        let (q, c) = reader_sound Utf8 (encode p ++ t) (λ z. omega (arith, e, z)) in
        let same = unique p q t _ (omega arith) (bounded Utf8 q c.among) c.begins in
        absurd (no_scalar p l h (rw same c.among))

-- there no character stands
pub pair_unread : (e : Encoding) (p q : ℕ) (t : List ℕ) → Lead p → Trail q → char_length e (encode p ++ (encode q ++ t)) ≡ 0
unfolding char_length length_by
pair_unread Utf8 p q t l m = unread p (encode q ++ t) l.0 (omega arith)
pair_unread Wtf8 p q t l m = passed_over (rows Utf8) (besides Wtf8) _ refl tt (unread p (encode q ++ t) l.0 (omega arith)) ∙ rw (pair_all p q t l m)
