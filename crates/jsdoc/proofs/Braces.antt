-- Brace readings: the grammar and the functions agree.
use Rattle.std.specs.Prelude.{None}
use Rattle.laws.proofs.Prelude.{◌≡◌, refl, sym, ap, ◌∙◌, Bool, true, false, cond, false≢true, ◌⊎◌, inl, inr, [], ◌∷◌, ◌++◌, ℕ, zero, suc, ◌<◌, code}
use Rattle.laws.proofs.Prelude.{arith, length, drop, eqb, ne_eqb, eqb-true}
use mathlib.Core.Bool.{not-eq-not}
use borrow.Author.Tests.{eqb-false}
use Rattle.laws.specs.Ascii.{ascii}
use Rattle.text.{specs.declared.class.Class.TheVariants.White, specs.Bytes.begins, proofs.Words.begins_sound, proofs.Words.begins_complete}
use Rattle.analysis.specs.Mode.{Mode}
use Rattle.jsdoc.specs.Grammar.{Bytes, Word, Without, Quote, ToImport, SecondParam, Tail, Brace}
use Rattle.jsdoc.specs.Parsed.{Parsed, ok, backtrace, on_parsed}
use Rattle.jsdoc.specs.Reader.{skip, skip_whitespace, tag, word, up_to, parse_import_attribute_block_for_resolution_mode, second_param_start}
use Rattle.jsdoc.specs.Reader.{parse_second_param_obj_with_leading_comma, close_call, parse_tail, hit, seek, parse_call, parse_jsdoc_dynamic_import}
use Rattle.jsdoc.proofs.{Chains.then_ok, Characters.run_sound, Characters.white_complete, Blocks.block_sound, Blocks.block_complete}
use Rattle.jsdoc.proofs.Texts.{tag_sound, tag_complete, tag_other, word_sound, word_complete, up_to_sound, up_to_complete, quote_complete, specifier_sound}

-- ---- the second parameter

-- `,` W* `{` W* `with` W* `:` W*
abbrev Start : Bytes → Bytes → Type 0
Start s t = (a : Bytes) × (b : Bytes) × (c : Bytes) × Word (ascii ",") s a × Word (ascii "{") a b × Word (ascii "with") b c × Word (ascii ":") c t

start_sound : (s t : Bytes) {z : Unit {0}} → second_param_start s ≡ ok z t → Start s t
unfolding second_param_start
start_sound s t e =
    let (z1, a, ea, e1) = then_ok (word (ascii ",") s) _ e in
    let (z2, b, eb, e2) = then_ok (word (ascii "{") a) _ e1 in
    let (z3, c, ec, e3) = then_ok (word (ascii "with") b) _ e2 in
    (a, b, c, word_sound (ascii ",") s a ea, word_sound (ascii "{") a b eb, word_sound (ascii "with") b c ec, word_sound (ascii ":") c t e3)

pub part_sound : (m : Mode) (s t : Bytes) → parse_second_param_obj_with_leading_comma s ≡ ok m t → SecondParam m s t
unfolding parse_second_param_obj_with_leading_comma skip_whitespace
part_sound m s t e =
    let (z1, d, ed, e1) = then_ok (second_param_start s) _ e in
    let (n, x, ex, e2) = then_ok (parse_import_attribute_block_for_resolution_mode d) _ e1 in
    let (z2, y, ey, e3) = then_ok (word (ascii "}") (skip White x)) _ e2 in
    let em : parse_import_attribute_block_for_resolution_mode d ≡ ok m x = cc in
    let et : word (ascii "}") (skip White x) ≡ ok z2 t = cc in
    let (a, b, c, comma, brace, with_word, colon) = start_sound s d ed in
    record {
      r1 = a;
      r2 = b;
      r3 = c;
      r4 = d;
      r5 = x;
      r6 = skip White x;
      comma = comma;
      brace = brace;
      word = with_word;
      colon = colon;
      block = block_sound m d x em;
      white = run_sound White x;
      end = word_sound (ascii "}") (skip White x) t et;
    }

pub part_complete : {m : Mode} {s t : Bytes} → SecondParam m s t → parse_second_param_obj_with_leading_comma s ≡ ok m t
unfolding parse_second_param_obj_with_leading_comma second_param_start
part_complete r =
    rw (
      word_complete (ascii ",") r.comma,
      word_complete (ascii "{") r.brace,
      word_complete (ascii "with") r.word,
      word_complete (ascii ":") r.colon,
      block_complete r.block,
      white_complete r.white,
      word_complete (ascii "}") r.end,
    )

-- ---- what follows the quote

-- where no comma begins s there is no second parameter
part_none : {s t : Bytes} → s ≡ ascii ")" ++ t → parse_second_param_obj_with_leading_comma s ≡ backtrace
unfolding parse_second_param_obj_with_leading_comma second_param_start word
part_none e = rw (tag_other (code ",") [] (code ")") e (λ h. omega arith))

pub tail_sound : (m : Mode) (s t : Bytes) → parse_tail s ≡ ok m t → Tail m s t
unfolding parse_tail close_call skip_whitespace
tail_sound m s t = go (parse_second_param_obj_with_leading_comma (skip White s)) refl
  where
    end : (n : Mode) (u : Bytes) → SecondParam n (skip White s) u ⊎ ((n ≡ None) × (skip White s ≡ u)) → close_call n u ≡ ok m t → Tail m s t
    end n u p e =
        let (z1, a, ea, e1) = then_ok (tag (ascii ")") u) _ e in
        let (z2, b, eb, e2) = then_ok (up_to (code "}") a) _ e1 in
        let n_is : n ≡ m = cc in
        let et : up_to (code "}") a ≡ ok z2 t = cc in
        let (w, r) = up_to_sound (code "}") a t et in
        record { r1 = skip White s; r2 = u; r3 = a; run = w; white = run_sound White s; part = rw n_is at p; paren = tag_sound (ascii ")") u a ea; rest = r }

    go : (o : Parsed Mode) → parse_second_param_obj_with_leading_comma (skip White s) ≡ o
        → on_parsed (on_parsed o ok (ok None (skip White s))) close_call backtrace ≡ ok m t → Tail m s t
    go (ok n u) h e = end n u (inl (part_sound n (skip White s) u h)) e
    go backtrace h e = end None (skip White s) (inr (refl, refl)) e

pub tail_complete : {m : Mode} {s t : Bytes} → Tail m s t → parse_tail s ≡ ok m t
unfolding parse_tail close_call
tail_complete {m} r =
    rw (white_complete r.white, taken r.part, tag_complete (ascii ")") r.paren, up_to_complete (code "}") r.run r.rest)
  where
    taken : SecondParam m r.r1 r.r2 ⊎ ((m ≡ None) × (r.r1 ≡ r.r2)) →
        on_parsed (parse_second_param_obj_with_leading_comma r.r1) ok (ok None r.r1) ≡ ok m r.r2
    taken (inl p) = rw (part_complete p)
    taken (inr (z, e)) = rw (part_none (e ∙ r.paren)) (cc)

-- ---- the search for `import`

-- a byte that is passed
passed : (x : ℕ) (s : Bytes) → begins (ascii "import") (x ∷ s) ≡ false → {t : Bytes} → (x ≡ code "}" → ⊥) → ToImport s t → ToImport (x ∷ s) t
passed x s b n r = record { run = x ∷ r.run; free = (n, r.free); all = ap (λ (l : Bytes). x ∷ l) r.all; first = first }
  where
    first : (k : ℕ) → k < suc (length r.run) → (u : Bytes) → drop k (x ∷ s) ≡ ascii "import" ++ u → ⊥
    first zero l u e = false≢true (sym b ∙ ap (begins (ascii "import")) e ∙ begins_complete (ascii "import") u)
    first (suc k) l u e = r.first k (omega arith) u e

pub search_sound : (s : Bytes) → begins (ascii "import") (seek s) ≡ true → ToImport s (seek s)
unfolding seek begins
search_sound [] h = absurd (false≢true h)
search_sound (x ∷ s) h = go (eqb x (code "}")) refl (begins (ascii "import") (x ∷ s)) refl (search_sound s) h
  where
    go : (a : Bool) → eqb x (code "}") ≡ a → (b : Bool) → begins (ascii "import") (x ∷ s) ≡ b
        → (begins (ascii "import") (seek s) ≡ true → ToImport s (seek s))
        → begins (ascii "import") (cond a (x ∷ s) (cond b (x ∷ s) (seek s))) ≡ true → ToImport (x ∷ s) (cond a (x ∷ s) (cond b (x ∷ s) (seek s)))
    go true e b f ih h = absurd (false≢true (rw (eqb-true x (code "}") e) at h))
    go false e true f ih h = record { run = []; free = tt; all = refl; first = λ k l. absurd (omega arith) }
    go false e false f ih h = passed x s f (eqb-false x (code "}") e) (ih h)

search_passes : (w t : Bytes) → Without (code "}") w → ((k : ℕ) → k < length w → (r : Bytes) → drop k (w ++ t) ≡ ascii "import" ++ r → ⊥) →
    begins (ascii "import") t ≡ true → seek (w ++ t) ≡ t
unfolding seek begins
search_passes [] [] f h b = refl
search_passes [] (x ∷ t) f h b = go (eqb x (code "}")) refl
  where
    go : (a : Bool) → eqb x (code "}") ≡ a → cond a (x ∷ t) (cond (begins (ascii "import") (x ∷ t)) (x ∷ t) (seek t)) ≡ x ∷ t
    go true e = refl
    go false e = rw b
search_passes (x ∷ w) t f h b =
    let n : begins (ascii "import") (x ∷ (w ++ t)) ≡ false =
    not-eq-not.0 (λ e. h 0 (omega arith) (drop 6 (x ∷ (w ++ t))) (begins_sound (ascii "import") (x ∷ (w ++ t)) e)) in
    rw (ne_eqb x (code "}") f.0, n)
    (search_passes w t f.1 (λ k l. h (suc k) (omega arith)) b)

pub search_complete : {s t : Bytes} → ToImport s t → begins (ascii "import") t ≡ true → seek s ≡ t
search_complete {s} {t} r b = rw r.all (search_passes r.run t r.free (rw r.all at r.first) b)

-- ---- the whole

call_sound : (s q e : Bytes) (m : Mode) (t : Bytes) → parse_call s ≡ ok (hit q e m) t
    → (a : Bytes) × (k : Bytes) × Word (ascii "import") s a × Word (ascii "(") a q × Quote k q e × Tail m e t
unfolding parse_call
call_sound s q e m t h =
    let (z1, a, ea, h1) = then_ok (word (ascii "import") s) _ h in
    let (z2, b, eb, h2) = then_ok (word (ascii "(") a) _ h1 in
    let (i, (k, r), j) = specifier_sound parse_tail b q e t m h2 in
    let eq : word (ascii "(") a ≡ ok z2 q = cc in
    (a, k, word_sound (ascii "import") s a ea, word_sound (ascii "(") a q eq, r, tail_sound m e t j)

pub brace_sound : (s q e : Bytes) (m : Mode) (t : Bytes) → parse_jsdoc_dynamic_import s ≡ ok (hit q e m) t → Brace s q e m
unfolding parse_jsdoc_dynamic_import
brace_sound s q e m t h =
    let (z, a, ea, h1) = then_ok (tag (ascii "{") s) _ h in
    let (b, k, w, p, r, l) = call_sound (seek a) q e m t h1 in
    record {
      r1 = a;
      r2 = seek a;
      r3 = b;
      text = k;
      end = t;
      brace = tag_sound (ascii "{") s a ea;
      run = search_sound a (rw w.1 (begins_complete (ascii "import") w.0));
      word = w;
      paren = p;
      quote = r;
      tail = l;
    }

pub brace_complete : {s q e : Bytes} {m : Mode} (r : Brace s q e m) → parse_jsdoc_dynamic_import s ≡ ok (hit q e m) r.end
unfolding parse_jsdoc_dynamic_import parse_call
brace_complete r =
    let b : begins (ascii "import") r.r2 ≡ true = rw r.word.1 (begins_complete (ascii "import") r.word.0) in
    rw (
      tag_complete (ascii "{") r.brace,
      search_complete r.run b,
      word_complete (ascii "import") r.word,
      word_complete (ascii "(") r.paren,
      quote_complete r.quote,
      tail_complete r.tail,
    )
