-- Declarations: the grammar and the functions agree.
use Rattle.std.specs.Prelude.{None}
use Rattle.laws.proofs.Prelude.{◌≡◌, refl, sym, ◌∙◌, ◌⊎◌, inl, inr, code, arith}
use Rattle.laws.specs.Ascii.{ascii}
use Rattle.text.specs.{declared.class.Class.TheVariants.White, Ranges.in_ranges, Alphabetic.alphabetic}
use Rattle.text.specs.Class.{outside, ranges, member}
use Rattle.analysis.specs.Mode.{Mode}
use Rattle.jsdoc.specs.Grammar.{Bytes, W*, Word, Quote, Named, Starred, Braced, Clause, With, Declaration}
use Rattle.jsdoc.specs.Parsed.{Parsed, ok, backtrace, on_parsed, or, return}
use Rattle.jsdoc.specs.Reader.{skip, skip_whitespace, whitespace, tag, word, parse_ident, hit, skip_named_imports, skip_default_import, skip_namespace_import}
use Rattle.jsdoc.specs.Reader.{skip_clause, parse_attributes, parse_from, parse_jsdoc_import_decl}
use Rattle.jsdoc.proofs.Chains.{never, no_reading, then_ok}
use Rattle.jsdoc.proofs.Characters.{run_sound, white_complete, white1_sound, white1_complete}
use Rattle.jsdoc.proofs.Texts.{tag_sound, tag_complete, word_sound, word_complete, up_to_sound, up_to_complete, quote_complete, specifier_sound}
use Rattle.jsdoc.proofs.Texts.{ident_sound, ident_complete, name_not}
use Rattle.jsdoc.proofs.Blocks.{block_sound, block_complete}

-- ---- the three clauses

named_sound : (s t : Bytes) {z : Unit {0}} → skip_default_import s ≡ ok z t → Named s t
unfolding skip_default_import
named_sound s t e =
    let (k, u, h, e1) = then_ok (parse_ident s) _ e in
    (k, u, ident_sound k s u h, white1_sound u t e1)

named_complete : {s t : Bytes} → Named s t → skip_default_import s ≡ ok tt t
unfolding skip_default_import
named_complete {t} (k, u, r, w) = rw (ident_complete r) (white1_complete u t w)

starred_sound : (s t : Bytes) {z : Unit {0}} → skip_namespace_import s ≡ ok z t → Starred s t
unfolding skip_namespace_import
starred_sound s t e =
    let (z1, a, ea, e1) = then_ok (word (ascii "*") s) _ e in
    let (z2, b, eb, e2) = then_ok (tag (ascii "as") a) _ e1 in
    let (z3, c, ec, e3) = then_ok (whitespace b) _ e2 in
    record {
      r1 = a;
      r2 = b;
      r3 = c;
      star = word_sound (ascii "*") s a ea;
      word = tag_sound (ascii "as") a b eb;
      white = white1_sound b c ec;
      name = named_sound c t e3;
    }

starred_complete : {s t : Bytes} → Starred s t → skip_namespace_import s ≡ ok tt t
unfolding skip_namespace_import
starred_complete r =
    rw (word_complete (ascii "*") r.star, tag_complete (ascii "as") r.word, white1_complete r.r2 r.r3 r.white)
    (named_complete r.name)

braced_sound : (s t : Bytes) {z : Unit {0}} → skip_named_imports s ≡ ok z t → Braced s t
unfolding skip_named_imports
braced_sound s t e =
    let (z, u, h, e1) = then_ok (tag (ascii "{") s) _ e in
    let (w, r) = up_to_sound (code "}") u t e1 in
    (u, w, tag_sound (ascii "{") s u h, r)

braced_complete : {s t : Bytes} → Braced s t → skip_named_imports s ≡ ok tt t
unfolding skip_named_imports
braced_complete (u, w, e, r) = rw (tag_complete (ascii "{") e) (up_to_complete (code "}") w r)

pub clause_sound : (s t : Bytes) {z : Unit {0}} → skip_clause s ≡ ok z t → Clause s t
unfolding skip_clause
clause_sound s t {z} = go (skip_named_imports s) (skip_namespace_import s) refl refl
  where
    go : (a b : Parsed (Unit {0})) → skip_named_imports s ≡ a → skip_namespace_import s ≡ b → on_parsed a ok (on_parsed b ok (skip_default_import s)) ≡ ok z t →
        Clause s t
    go (ok x u) b h k e = inl (braced_sound s t (h ∙ e))
    go backtrace (ok x u) h k e = inr (inl (starred_sound s t (k ∙ e)))
    go backtrace backtrace h k e = inr (inr (named_sound s t e))

-- they begin with different bytes
starred_no_brace : {s t u : Bytes} → Starred s t → Braced s u → ⊥
starred_no_brace r b = let z : code "*" ≡ code "{" = cc in omega arith

named_no_brace : {s t u : Bytes} → Named s t → Braced s u → ⊥
unfolding member outside ranges in_ranges alphabetic
named_no_brace r b = name_not (code "{") (omega arith) refl b.2 r.2

named_no_star : {s t u : Bytes} → Named s t → Starred s u → ⊥
unfolding member outside ranges in_ranges alphabetic
named_no_star r b = name_not (code "*") (omega arith) refl b.star.1 r.2

pub clause_complete : {s t : Bytes} → Clause s t → skip_clause s ≡ ok tt t
unfolding skip_clause
clause_complete (inl r) = rw (braced_complete r)
clause_complete {s} (inr (inl r)) =
    rw (no_reading (skip_named_imports s) (λ z u e. starred_no_brace r (braced_sound s u e)), starred_complete r)
clause_complete {s} (inr (inr r)) =
    rw (
      no_reading (skip_named_imports s) (λ z u e. named_no_brace r (braced_sound s u e)),
      no_reading (skip_namespace_import s) (λ z u e. named_no_star r (starred_sound s u e)),
      named_complete r,
    )

-- ---- the mode after the quote

with_sound : (m : Mode) (s t : Bytes) → parse_attributes s ≡ ok m t → With m s t
unfolding parse_attributes skip_whitespace
with_sound m s t e =
    let (z, a, ea, e1) = then_ok (word (ascii "with") (skip White s)) _ e in
    record { r1 = skip White s; r2 = a; white = run_sound White s; word = word_sound (ascii "with") (skip White s) a ea; block = block_sound m a t e1 }

with_complete : {m : Mode} {s t : Bytes} → With m s t → parse_attributes s ≡ ok m t
unfolding parse_attributes
with_complete r = rw (white_complete r.white, word_complete (ascii "with") r.word) (block_complete r.block)

-- the mode m of the block behind s, if that reads, and else none
abbrev pub After : Mode → Bytes → Type 0
After m s = ((t : Bytes) × With m s t) ⊎ (((n : Mode) (t : Bytes) → With n s t → ⊥) × (m ≡ None))

after_sound : (m : Mode) (s t : Bytes) → or parse_attributes (return None) s ≡ ok m t → After m s
after_sound m s t = go (parse_attributes s) refl
  where
    go : (o : Parsed Mode) → parse_attributes s ≡ o → on_parsed o ok (ok None s) ≡ ok m t → After m s
    go (ok n u) h e = inl (t, with_sound m s t (h ∙ e))
    go backtrace h e = inr (λ n u r. never (sym h ∙ with_complete r), (cc))

pub after_complete : (m : Mode) (s : Bytes) → After m s → (t : Bytes) × (or parse_attributes (return None) s ≡ ok m t)
after_complete m s (inl (t, r)) = (t, rw (with_complete r))
after_complete m s (inr (f, z)) = (s, rw (no_reading (parse_attributes s) (λ n t e. f n t (with_sound n s t e)), z))

-- ---- the whole

from_sound : (s q e : Bytes) (m : Mode) (t : Bytes) → parse_from s ≡ ok (hit q e m) t
    → (a : Bytes) × (k : Bytes) × W* s a × Word (ascii "from") a q × Quote k q e × After m e
unfolding parse_from skip_whitespace
from_sound s q e m t h =
    let (z, b, eb, h1) = then_ok (word (ascii "from") (skip White s)) _ h in
    let (i, (k, r), j) = specifier_sound (or parse_attributes (return None)) b q e t m h1 in
    let eq : word (ascii "from") (skip White s) ≡ ok z q = cc in
    (skip White s, k, run_sound White s, word_sound (ascii "from") (skip White s) q eq, r, after_sound m e t j)

pub decl_sound : (s q e : Bytes) (m : Mode) (t : Bytes) → parse_jsdoc_import_decl s ≡ ok (hit q e m) t → Declaration s q e m
unfolding parse_jsdoc_import_decl
decl_sound s q e m t h =
    let (z1, a, ea, h1) = then_ok (tag (ascii "@import") s) _ h in
    let (z2, b, eb, h2) = then_ok (whitespace a) _ h1 in
    let (z3, c, ec, h3) = then_ok (skip_clause b) _ h2 in
    let (d, k, w, f, r, l) = from_sound c q e m t h3 in
    record {
      r1 = a;
      r2 = b;
      r3 = c;
      r4 = d;
      text = k;
      word = tag_sound (ascii "@import") s a ea;
      white = white1_sound a b eb;
      clause = clause_sound b c ec;
      white2 = w;
      word2 = f;
      quote = r;
      after = l;
    }

pub decl_complete : {s q e : Bytes} {m : Mode} → Declaration s q e m → (t : Bytes) × (parse_jsdoc_import_decl s ≡ ok (hit q e m) t)
unfolding parse_jsdoc_import_decl parse_from
decl_complete {e} {m} r =
    let (t, h) = after_complete m e r.after in (
      t,
      rw (
        tag_complete (ascii "@import") r.word,
        white1_complete r.r1 r.r2 r.white,
        clause_complete r.clause,
        white_complete r.white2,
        word_complete (ascii "from") r.word2,
        quote_complete r.quote,
        h,
      ),
    )
