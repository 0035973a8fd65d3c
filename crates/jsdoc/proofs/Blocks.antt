-- Attributes and blocks of them: the grammar and the functions agree.
use Rattle.laws.proofs.Prelude.{◌≡◌, refl, sym, ap, ◌∙◌, Bool, true, false, cond, ◌⊎◌, ⊎_elim, inl, inr, List, [], ◌∷◌, ◌++◌, ℕ, zero, suc, ◌≤◌, ◌<◌, code}
use Rattle.laws.proofs.Prelude.{arith, length}
use Rattle.std.specs.Prelude.{Some}
use Rattle.std.specs.Option.{option_or, option_flatten}
use Rattle.laws.specs.Ascii.{ascii}
use Rattle.text.specs.{declared.class.Class.TheVariants.White, Bytes.same, Ranges.in_ranges, Alphabetic.alphabetic, Characters.OneOf}
use Rattle.text.specs.Class.{outside, ranges, member}
use Rattle.analysis.specs.Mode.{Mode, mode_of}
use Rattle.jsdoc.specs.Grammar.{Bytes, done, W*, Word, Quote, Name, Attribute, Pair, pair, Attributes, none, last, next, mode_in, Block}
use Rattle.jsdoc.specs.Parsed.{Parsed, ok, backtrace, on_parsed}
use Rattle.jsdoc.specs.Reader.{skip, skip_whitespace, tag, word, parse_quote, parse_key, ModeNamed, unnamed, attribute_mode, parse_attribute}
use Rattle.jsdoc.specs.Reader.{comma, separated_list_by, separated_list, parse_import_attribute_block_for_resolution_mode}
use Rattle.jsdoc.proofs.Chains.{never, no_reading, then_ok}
use Rattle.jsdoc.proofs.Characters.{run_sound, run_complete, run_ended, run_shorter, white_complete}
use Rattle.jsdoc.proofs.Texts.{tag_sound, tag_complete, tag_other, word_sound, word_complete, word_shorter, quote_sound, quote_complete}
use Rattle.jsdoc.proofs.Texts.{quote_shorter, key_sound, key_complete, name_not, name_shorter}

pub attribute_sound : (s t : Bytes) (n : ModeNamed) → parse_attribute s ≡ ok n t → (k : Bytes) × (v : Bytes) × Attribute k v s t × (n ≡ attribute_mode k v)
unfolding parse_attribute skip_whitespace
attribute_sound s t n e =
    let (k, a, ea, e1) = then_ok (parse_key s) _ e in
    let (z, b, eb, e2) = then_ok (word (ascii ":") (skip White a)) _ e1 in
    let (v, c, ec, e3) = then_ok (parse_quote b) _ e2 in
    let et : parse_quote b ≡ ok v t = cc in (
      k,
      v,
      record {
        r1 = a;
        r2 = skip White a;
        r3 = b;
        key = key_sound k s a ea;
        white = run_sound White a;
        colon = word_sound (ascii ":") (skip White a) b eb;
        value = quote_sound v b t et;
      },
      (cc),
    )

pub attribute_complete : {k v s t : Bytes} → Attribute k v s t → parse_attribute s ≡ ok (attribute_mode k v) t
unfolding parse_attribute
attribute_complete r = rw (key_complete r.key, white_complete r.white, word_complete (ascii ":") r.colon, quote_complete r.value)

key_shorter : {k s t : Bytes} → Quote k s t ⊎ Name k s t → length t < length s
key_shorter (inl r) = quote_shorter r
key_shorter (inr r) = name_shorter r

attribute_shorter : {k v s t : Bytes} → Attribute k v s t → length t < length s
attribute_shorter r = omega (arith, key_shorter r.key, run_shorter White r.white, word_shorter (ascii ":") r.colon, quote_shorter r.value)

-- no attribute begins with `}`
attribute_none : {s t : Bytes} → s ≡ ascii "}" ++ t → parse_attribute s ≡ backtrace
unfolding member outside ranges in_ranges alphabetic
attribute_none {s} {t} e = no_reading (parse_attribute s) (λ n u h. let (k, v, r, i) = attribute_sound s u n h in go r.key)
  where
    go : {k u : Bytes} → Quote k s u ⊎ Name k s u → ⊥
    go (inl q) = let m : q.mark ≡ code "}" = cc in ⊎_elim (λ h. omega arith) (λ h. omega arith) q.of_mark
    go (inr r) = name_not (code "}") (omega arith) refl e r

-- ---- the comma between two

comma_sound : (s t : Bytes) {z : Unit {0}} → comma s ≡ ok z t → (u : Bytes) × W* s u × Word (ascii ",") u t
unfolding comma skip_whitespace
comma_sound s t e = (skip White s, run_sound White s, word_sound (ascii ",") (skip White s) t e)

comma_complete : {s u t : Bytes} → W* s u → Word (ascii ",") u t → comma s ≡ ok tt t
unfolding comma
comma_complete w r = rw (white_complete w) (word_complete (ascii ",") r)

comma_none : {s u t : Bytes} → W* s u → u ≡ ascii "}" ++ t → comma s ≡ backtrace
unfolding comma word
comma_none w e = rw (white_complete w, tag_other (code ",") [] (code "}") e (λ h. omega arith))

comma_shorter : (s t : Bytes) {z : Unit {0}} → comma s ≡ ok z t → length t < length s
comma_shorter s t e = let (u, w, r) = comma_sound s t e in omega (arith, run_shorter White w, word_shorter (ascii ",") r)

-- ---- the attributes

-- the first that is named among them, from m on
abbrev fold : ModeNamed → List Pair → ModeNamed
fold m [] = m
fold m (pair k v ∷ l) = fold (option_or m (attribute_mode k v)) l

-- attributes from s to t whose first that is named, from m on, is r
abbrev ListOf : ModeNamed → ModeNamed → Bytes → Bytes → Type 0
ListOf m r s t = (l : List Pair) × Attributes l s t × (r ≡ fold m l)

module _ (n : ℕ) (m : ModeNamed) (s t : Bytes) (r : ModeNamed) (ih : (m : ModeNamed) (y : Bytes) → separated_list_by n m y ≡ ok r t → ListOf m r y t) where
  one_more : (a : ModeNamed) (u : Bytes) → parse_attribute s ≡ ok a u → (o : Parsed (Unit {0})) → comma u ≡ o
      → on_parsed o (λ z. separated_list_by n (option_or m a)) (ok (option_or m a) u) ≡ ok r t → ListOf m r s t
  one_more a u h (ok z y) c e =
      let (l, rest, i) = ih (option_or m a) y e in
      let (k, v, first, j) = attribute_sound s u a h in
      let (x, w, past) = comma_sound u y c in
      (pair k v ∷ l, next first w past rest, i ∙ ap (λ (n : ModeNamed). fold (option_or m n) l) j)
  one_more a u h backtrace c e =
      let g : parse_attribute s ≡ ok a t = cc in
      let (k, v, first, j) = attribute_sound s t a g in
      (pair k v ∷ [], last first, (cc))

  attributes_step : (o : Parsed ModeNamed) → parse_attribute s ≡ o
      → on_parsed o (λ a t. on_parsed (comma t) (λ z. separated_list_by n (option_or m a)) (ok (option_or m a) t)) (ok m s) ≡ ok r t → ListOf m r s t
  attributes_step (ok a u) h e = one_more a u h (comma u) refl e
  attributes_step backtrace h e = let g : s ≡ t = cc in ([], rw g none, (cc))

attributes_sound : (n : ℕ) (m : ModeNamed) (s t : Bytes) (r : ModeNamed) → separated_list_by n m s ≡ ok r t → ListOf m r s t
unfolding separated_list_by
attributes_sound zero m s t r e = let h : s ≡ t = cc in ([], rw h none, (cc))
attributes_sound (suc n) m s t r e = attributes_step n m s t r (λ m y. attributes_sound n m y t r) (parse_attribute s) refl e

attributes_complete : {l : List Pair} {s r2 : Bytes} → Attributes l s r2 → {r3 t : Bytes} → W* r2 r3 → r3 ≡ ascii "}" ++ t → ((u : Bytes) → OneOf White s u → ⊥)
    → (n : ℕ) (m : ModeNamed) → length s ≤ n → separated_list_by n m s ≡ ok (fold m l) r2
unfolding separated_list_by
attributes_complete none w e f zero m h = refl
attributes_complete (none {t = s}) w e f (suc n) m h =
    let i = sym (run_complete White (done f)) ∙ run_complete White w ∙ e in
    rw (attribute_none i)
attributes_complete (last a) w e f zero m h = absurd (omega (arith, attribute_shorter a))
attributes_complete (last a) w e f (suc n) m h = rw (attribute_complete a, comma_none w e)
attributes_complete (next a v c rest) w e f zero m h = absurd (omega (arith, attribute_shorter a))
attributes_complete (next {k} {v = x} a v c rest) w e f (suc n) m h =
    rw (attribute_complete a, comma_complete v c)
    (attributes_complete rest w e (run_ended White c.2) n (option_or m (attribute_mode k x))
    (omega (arith, attribute_shorter a, run_shorter White v, word_shorter (ascii ",") c)))

attribute_end : (s : Bytes) → length s ≤ 0 → parse_attribute s ≡ backtrace
attribute_end s h = no_reading (parse_attribute s) (λ n t e. let (k, v, r, i) = attribute_sound s t n e in omega (arith, attribute_shorter r))

-- more fuel than bytes changes nothing
attributes_bound : (n j : ℕ) (m : ModeNamed) (s : Bytes) → length s ≤ n → length s ≤ j → separated_list_by n m s ≡ separated_list_by j m s
unfolding separated_list_by
attributes_bound zero zero m s h k = refl
attributes_bound zero (suc j) m s h k = rw (attribute_end s h)
attributes_bound (suc n) zero m s h k = rw (attribute_end s k)
attributes_bound (suc n) (suc j) m s h k = go (parse_attribute s) refl (attributes_bound n j)
  where
    Step : Parsed ModeNamed → ℕ → Parsed ModeNamed
    Step o n = on_parsed o (λ a t. on_parsed (comma t) (λ z. separated_list_by n (option_or m a)) (ok (option_or m a) t)) (ok m s)

    past : (a : ModeNamed) (t : Bytes) → parse_attribute s ≡ ok a t → (o : Parsed (Unit {0})) → comma t ≡ o
        → ((m : ModeNamed) (y : Bytes) → length y ≤ n → length y ≤ j → separated_list_by n m y ≡ separated_list_by j m y)
        → on_parsed o (λ z. separated_list_by n (option_or m a)) (ok (option_or m a) t)
        ≡ on_parsed o (λ z. separated_list_by j (option_or m a)) (ok (option_or m a) t)
    past a t e (ok z y) c ih =
        let (x, v, r, i) = attribute_sound s t a e in
        let l = comma_shorter t y c in
        let d = attribute_shorter r in
        ih (option_or m a) y (omega arith) (omega arith)
    past a t e backtrace c ih = refl

    go : (o : Parsed ModeNamed) → parse_attribute s ≡ o
        → ((m : ModeNamed) (y : Bytes) → length y ≤ n → length y ≤ j → separated_list_by n m y ≡ separated_list_by j m y) → Step o n ≡ Step o j
    go (ok a t) e ih = past a t e (comma t) refl ih
    go backtrace e ih = refl

-- from one attribute to the next
module _ (m : ModeNamed) where
  pub attributes_none : (s : Bytes) → parse_attribute s ≡ backtrace → separated_list m s ≡ ok m s
  unfolding separated_list separated_list_by
  attributes_none [] e = refl
  attributes_none (x ∷ s) e = rw e

  module _ {a : ModeNamed} {t : Bytes} where
    pub attributes_last : (s : Bytes) → parse_attribute s ≡ ok a t → comma t ≡ backtrace → separated_list m s ≡ ok (option_or m a) t
    unfolding separated_list separated_list_by
    attributes_last [] e c = absurd (never (sym (attribute_end [] (omega arith)) ∙ e))
    attributes_last (x ∷ s) e c = rw (e, c)

    module _ {u : Bytes} where
      pub attributes_shorter : (s : Bytes) → parse_attribute s ≡ ok a t → comma t ≡ ok tt u → length u < length s
      attributes_shorter s e c = let (k, v, r, i) = attribute_sound s t a e in omega (arith, attribute_shorter r, comma_shorter t u c)

      pub attributes_next : (s : Bytes) → parse_attribute s ≡ ok a t → comma t ≡ ok tt u → separated_list m s ≡ separated_list (option_or m a) u
      unfolding separated_list separated_list_by
      attributes_next [] e c = absurd (never (sym (attribute_end [] (omega arith)) ∙ e))
      attributes_next (x ∷ s) e c =
          rw (e, c) (attributes_bound (length s) (length u) (option_or m a) u (omega (arith, attributes_shorter (x ∷ s) e c)) (omega arith))

-- ---- the mode of a block

fold_stays : (l : List Pair) (mode : Mode) → fold (Some mode) l ≡ Some mode
fold_stays [] mode = refl
fold_stays (pair k v ∷ l) mode = fold_stays l mode

-- the mode of the first that is named, and none where there is no such one, is that of the first attribute `resolution-mode`
fold_mode : (l : List Pair) → option_flatten (fold unnamed l) ≡ mode_in l
unfolding mode_in attribute_mode
fold_mode [] = refl
fold_mode (pair k v ∷ l) = go (same k (ascii "resolution-mode")) (fold_mode l)
  where
    go : (b : Bool) → option_flatten (fold unnamed l) ≡ mode_in l → option_flatten (fold (cond b (Some (mode_of v)) unnamed) l) ≡ cond b (mode_of v) (mode_in l)
    go true ih = rw (fold_stays l (mode_of v))
    go false ih = ih

-- ---- a block

pub block_sound : (m : Mode) (s t : Bytes) → parse_import_attribute_block_for_resolution_mode s ≡ ok m t → Block m s t
unfolding parse_import_attribute_block_for_resolution_mode skip_whitespace separated_list
block_sound m s t e =
    let (z, a, ea, e1) = then_ok (word (ascii "{") s) _ e in
    let (n, b, eb, e2) = then_ok (separated_list_by (length a) unnamed a) _ e1 in
    let (y, c, ec, e3) = then_ok (tag (ascii "}") (skip White b)) _ e2 in
    let et : tag (ascii "}") (skip White b) ≡ ok y t = cc in
    let (l, r, i) = attributes_sound (length a) unnamed a b n eb in
    record {
      r1 = a;
      r2 = b;
      r3 = skip White b;
      list = l;
      brace = word_sound (ascii "{") s a ea;
      attributes = r;
      white = run_sound White b;
      end = tag_sound (ascii "}") (skip White b) t et;
      mode_is = cc (fold_mode l);
    }

pub block_complete : {m : Mode} {s t : Bytes} → Block m s t → parse_import_attribute_block_for_resolution_mode s ≡ ok m t
unfolding parse_import_attribute_block_for_resolution_mode separated_list
block_complete r =
    rw (
      word_complete (ascii "{") r.brace,
      attributes_complete r.attributes r.white r.end (run_ended White r.brace.2) (length r.r1) unnamed (omega arith),
      white_complete r.white,
      tag_complete (ascii "}") r.end,
      fold_mode r.list,
      r.mode_is,
    )

-- no attribute, the last one, one with more behind it, and that less is left
pub ruleset attributes_read = (attributes_none, attributes_last, attributes_next, attributes_shorter)
