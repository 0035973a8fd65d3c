-- Words, quotes and names: the grammar and the functions agree.
use Rattle.laws.proofs.Prelude.{◌≡◌, refl, ap, ◌∙◌, Bool, true, false, cond, ◌||◌, ◌⊎◌, inl, inr, [], ◌∷◌, ◌++◌, ℕ, ◌+◌, ◌-◌, ◌≤◌, ◌<◌, code, arith, length}
use Rattle.laws.proofs.Prelude.{drop, length-append, drop-append_seam, eqb, eq-eqb, ne_eqb, eqb-true}
use lib.Seq.{take_at}
use borrow.Author.Tests.{eqb-false}
use Rattle.text.specs.declared.class.Class.TheVariants.{White, Alphabetic, NameRest}
use Rattle.text.specs.{Bytes.begins, Bytes.Mark, Encode.encode, Ranges.in_ranges, Alphabetic.alphabetic}
use Rattle.text.specs.Class.{outside, ranges, member, class_at}
use Rattle.text.proofs.Characters.{with_shorter, one_sound, one_complete}
use Rattle.text.proofs.Words.{begins_sound, begins_complete}
use Rattle.analysis.specs.Mode.{Mode}
use Rattle.jsdoc.specs.Grammar.{Bytes, Word, Without, Upto, Quote, Name}
use Rattle.jsdoc.specs.Parsed.{Parsed, ok, backtrace, Parser, on_parsed}
use Rattle.jsdoc.specs.Reader.{skip, tag, word, up_to, before, is_mark, parse_quote, specifier, hit, past_ident, parse_ident, parse_key}
use Rattle.jsdoc.proofs.Ends.{ends_trans}
use Rattle.jsdoc.proofs.Chains.{never, no_reading, then_ok, if_ok}
use Rattle.jsdoc.proofs.Characters.{begins_not, run_sound, run_complete, run_ends, run_shorter, white_sound, white_complete}

-- ---- words

pub tag_sound : (w s t : Bytes) {z : Unit {0}} → tag w s ≡ ok z t → s ≡ w ++ t
unfolding tag
tag_sound w s t e =
    let (b, h) = if_ok (begins w s) (ok tt (drop (length w) s)) e in
    cc (begins_sound w s b)

pub tag_complete : (w : Bytes) {s t : Bytes} → s ≡ w ++ t → tag w s ≡ ok tt t
unfolding tag
tag_complete w {t} e = rw (e, begins_complete w t, drop-append_seam w t)

-- a word that begins with another byte is not there
pub tag_other : (x : ℕ) (w : Bytes) (y : ℕ) {s t : Bytes} → s ≡ y ∷ t → (y ≡ x → ⊥) → tag (x ∷ w) s ≡ backtrace
unfolding tag begins
tag_other x w y e n = rw (e, ne_eqb y x n)

pub word_sound : (w s t : Bytes) {z : Unit {0}} → word w s ≡ ok z t → Word w s t
unfolding word
word_sound w s t e =
    let (z, u, h, e1) = then_ok (tag w s) _ e in
    (u, tag_sound w s u h, white_sound u t e1)

pub word_complete : (w : Bytes) {s t : Bytes} → Word w s t → word w s ≡ ok tt t
unfolding word
word_complete w (u, e, r) = rw (tag_complete w e) (white_complete r)

pub word_shorter : (w : Bytes) {s t : Bytes} → Word w s t → length w + length t ≤ length s
word_shorter w (u, e, r) = omega (arith, ap length e, length-append w u, run_shorter White r)

-- ---- a run up to a byte

pub up_to_sound : (m : ℕ) (s t : Bytes) {z : Unit {0}} → up_to m s ≡ ok z t → (w : Bytes) × Upto m w s t
unfolding up_to
up_to_sound m [] t e = absurd (never e)
up_to_sound m (x ∷ s) t {z} e = go (eqb x m) refl e (up_to_sound m s t)
  where
    go : (b : Bool) → eqb x m ≡ b → cond b (ok tt s) (up_to m s) ≡ ok z t → (up_to m s ≡ ok z t → (w : Bytes) × Upto m w s t) → (w : Bytes) × Upto m w (x ∷ s) t
    go true h e ih = ([], (tt, cc (eqb-true x m h)))
    go false h e ih = let (w, (f, r)) = ih e in (x ∷ w, ((eqb-false x m h, f), ap (λ (l : Bytes). x ∷ l) r))

pub up_to_shorter : (m : ℕ) (s t : Bytes) → up_to m s ≡ ok tt t → length t < length s
up_to_shorter m s t e = let (w, r) = up_to_sound m s t e in omega (arith, ap length r.1, length-append w (m ∷ t))

up_to_past : (m : ℕ) (w t : Bytes) → Without m w → up_to m (w ++ m ∷ t) ≡ ok tt t
unfolding up_to
up_to_past m [] t h = rw (eq-eqb m m refl)
up_to_past m (x ∷ w) t h = rw (ne_eqb x m h.0) (up_to_past m w t h.1)

pub up_to_complete : (m : ℕ) (w : Bytes) {s t : Bytes} → Upto m w s t → up_to m s ≡ ok tt t
up_to_complete m w {t} r = rw r.1 (up_to_past m w t r.0)

before_is : (w t : Bytes) {s : Bytes} → s ≡ w ++ t → before s t ≡ w
before_is w t {s} e =
    let n : length s - length t ≡ length w = omega (arith, ap length e, length-append w t) in
    rw n (rw e (take_at w t (length w) refl))

-- ---- quotes

mark_sound : (m : ℕ) → is_mark m ≡ true → Mark m
unfolding is_mark
mark_sound m = go (eqb m (code "\"")) refl
  where
    go : (b : Bool) → eqb m (code "\"") ≡ b → b || eqb m (code "'") ≡ true → Mark m
    go true h e = inl (eqb-true m (code "\"") h)
    go false h e = inr (eqb-true m (code "'") e)

mark_complete : (m : ℕ) → Mark m → is_mark m ≡ true
unfolding is_mark
mark_complete m (inl h) = rw h
mark_complete m (inr h) = rw h

pub quote_sound : (k s t : Bytes) → parse_quote s ≡ ok k t → Quote k s t
unfolding parse_quote
quote_sound k [] t e = absurd (never e)
quote_sound k (m ∷ s) t e =
    let (b, h) = if_ok (is_mark m) (on_parsed (up_to m s) (λ z t. ok (before s (m ∷ t)) t) backtrace) e in
    let (z, u, i, j) = then_ok (up_to m s) _ h in
    let ht : up_to m s ≡ ok z t = cc in
    let (w, r) = up_to_sound m s t ht in
    let kw : w ≡ k = cc (before_is w (m ∷ t) r.1) in
    record { mark = m; r1 = s; of_mark = mark_sound m b; first = refl; rest = rw kw at r }

pub quote_complete : {k s t : Bytes} → Quote k s t → parse_quote s ≡ ok k t
unfolding parse_quote
quote_complete {k} {s} {t} r =
    rw (r.first, mark_complete r.mark r.of_mark, up_to_complete r.mark k r.rest)
    (ap (λ (l : Bytes). ok l t) (before_is k (r.mark ∷ t) r.rest.1))

-- a quote, and then a mode
pub specifier_sound : (p : Parser Mode) (s q e t : Bytes) (m : Mode) → specifier p s ≡ ok (hit q e m) t → (s ≡ q) × ((k : Bytes) × Quote k q e) × (p e ≡ ok m t)
specifier_sound p s q e t m h =
    let (k, a, ea, h1) = then_ok (parse_quote s) _ h in
    let (n, b, eb, h2) = then_ok (p a) _ h1 in
    let eq : parse_quote q ≡ ok k e = cc in
    let a_is : a ≡ e = cc in
    ((cc), (k, quote_sound k q e eq), (cc))

pub quote_shorter : {k s t : Bytes} → Quote k s t → length t < length s
quote_shorter {k} {t} r = omega (arith, ap length r.first, ap length r.rest.1, length-append k (r.mark ∷ t))

pub quote_left : (k s t : Bytes) → parse_quote s ≡ ok k t → length t < length s
quote_left k s t e = quote_shorter (quote_sound k s t e)

-- ---- names

pub ident_sound : (k s t : Bytes) → parse_ident s ≡ ok k t → Name k s t
unfolding parse_ident past_ident
ident_sound k s t e = go (eqb (class_at Alphabetic s) 0) refl e
  where
    r1 : Bytes
    r1 = drop (class_at Alphabetic s) s

    go : (b : Bool) → eqb (class_at Alphabetic s) 0 ≡ b → cond b backtrace (ok (before s (skip NameRest r1)) (skip NameRest r1)) ≡ ok k t → Name k s t
    go true h e = absurd (never e)
    go false h e =
        let c = one_sound Alphabetic s (eqb-false (class_at Alphabetic s) 0 h) in
        let tu : skip NameRest r1 ≡ t = cc in
        let r = rw tu at (run_sound NameRest r1) in
        let (w, all) = ends_trans (encode c.point, c.all) (run_ends NameRest r) in
        let ku : k ≡ w = cc (before_is w t all) in
        record { r1 = r1; first = c; rest = r; all = rw ku all }

pub ident_complete : {k s t : Bytes} → Name k s t → parse_ident s ≡ ok k t
unfolding parse_ident past_ident
ident_complete {k} {s} {t} r =
    let (z, e) = one_complete Alphabetic r.first in
    rw (ne_eqb (class_at Alphabetic s) 0 z, e, run_complete NameRest r.rest, before_is k t r.all)

pub name_shorter : {k s t : Bytes} → Name k s t → length t < length s
name_shorter r = omega (arith, with_shorter r.first, run_shorter NameRest r.rest)

-- a name does not begin with a byte of ASCII that is no letter
pub name_not : (x : ℕ) → x < 0x80 → member Alphabetic x ≡ false → {k s t u : Bytes} → s ≡ x ∷ u → Name k s t → ⊥
name_not x h f e r = begins_not Alphabetic x h f e r.first

pub mark_small : (m : ℕ) → Mark m → m < 0x80
mark_small m (inl h) = omega arith
mark_small m (inr h) = omega arith

mark_no_letter : (m : ℕ) → Mark m → member Alphabetic m ≡ false
unfolding member outside ranges in_ranges alphabetic
mark_no_letter m (inl h) = rw h
mark_no_letter m (inr h) = rw h

-- ---- keys

pub key_sound : (k s t : Bytes) → parse_key s ≡ ok k t → Quote k s t ⊎ Name k s t
unfolding parse_key
key_sound k s t = go (parse_quote s) refl
  where
    go : (o : Parsed Bytes) → parse_quote s ≡ o → on_parsed o ok (parse_ident s) ≡ ok k t → Quote k s t ⊎ Name k s t
    go (ok a u) h e = inl (quote_sound k s t (h ∙ e))
    go backtrace h e = inr (ident_sound k s t e)

pub key_complete : {k s t : Bytes} → Quote k s t ⊎ Name k s t → parse_key s ≡ ok k t
unfolding parse_key
key_complete (inl r) = rw (quote_complete r)
key_complete {s} (inr r) = rw (no_reading (parse_quote s) no_quote, ident_complete r)
  where
    no_quote : (a t : Bytes) → parse_quote s ≡ ok a t → ⊥
    no_quote a t e =
        let q = quote_sound a s t e in
        name_not q.mark (mark_small q.mark q.of_mark) (mark_no_letter q.mark q.of_mark) q.first r
