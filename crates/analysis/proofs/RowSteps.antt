-- What each row matches, step by step, as its finder goes through it.
use Rattle.std.specs.Prelude.{Option, Some, None, is_some}
use Rattle.laws.proofs.Prelude.{◌≡◌, refl, sym, ap, ◌∙◌, true, false, true≢false, cond, List, [], ◌∷◌, flat_map, none-some, ℕ, zero, suc, ◌+◌, ◌<◌}
use Rattle.laws.proofs.Prelude.{arith, ltb, length, drop, length-drop, ◌≤◌, eq-eqb, le-ltb, lt-ltb}
use Rattle.std.proofs.lemmas.Option.{same_Some}
use lib.Dec.{eqb-suc-zero}
use Rattle.laws.specs.Ascii.{ascii}
use Rattle.text.specs.declared.class.Class.TheVariants.{White, NotWhite, WhiteOrStar, NotLf, Quote, NotQuote, SourceMark}
use Rattle.text.{specs.Ranges.in_ranges, proofs.Runs.class_fits, proofs.Runs.run_stops, proofs.Runs.run_goes_on}
use Rattle.text.specs.Class.{ranges, outside, member, class_at, run_end}
use Rattle.analysis.specs.declared.Capture.{Capture}
use Rattle.analysis.specs.Letters.{fold_case, behind, on_match, word_at}
use Rattle.analysis.specs.Row.{Row, ◌▸◌, one_at, done, start, word, one, longest, to, either, all, no_capture, first, match_at, find}
use Rattle.analysis.specs.code.Matcher.{assigned_at, BeginsWithAtSign}
use Rattle.analysis.specs.Patterns.{equals, quoted, quoted_some, bare, reference_end, triple_slash_row, attribute_row, jsx_row, source_mapping_url_row}
use Rattle.analysis.specs.Patterns.{pragma_row, deno_types_row}
use Rattle.analysis.proofs.Ends.{ends_begin, ends_stop, ends_go_on, end_behind, longest_last}
use Rattle.analysis.proofs.Apart.{Apart, past_run, white_apart, quote_apart, word_apart, at_apart, either_apart, from_apart, to_apart}
use Rattle.analysis.proofs.Search.{anchored}

-- what follows the place that was reached
on : (m : Option ℕ) {f g : ℕ → List Capture} → ((e : ℕ) → f e ≡ g e) → on_match m [] f ≡ on_match m [] g
on (Some e) h = h e
on None h = refl

-- a character of n bytes at a place, and none
pub some_there : (at n : ℕ) {e : ℕ} → Some e ≡ behind at n → (n ≡ 0 → ⊥) × (e ≡ at + n)
some_there at zero e = absurd (none-some _ (sym e))
some_there at (suc n) {e = d} e = (λ z. omega arith, same_Some d (at + suc n) (rw (eqb-suc-zero n) at e))

pub none_there : (at n : ℕ) → None ≡ behind at n → n ≡ 0
none_there at zero e = refl
none_there at (suc n) e = absurd (none-some _ (rw (eqb-suc-zero n) at e))

-- what the classes of the longest runs are apart from
closes : Apart NotQuote (to (one Quote done))
unfolding in_ranges ranges outside member
closes = to_apart (quote_apart refl)

white_quote : {r : Row} → Apart White (one Quote r)
unfolding in_ranges ranges outside member
white_quote = quote_apart refl

white_bare : Apart White bare
white_bare = from_apart white_apart

white_value : Apart White (either quoted_some bare)
white_value = either_apart white_quote white_bare

white_equals : (r : Row) → Apart White (word (ascii "=") r)
unfolding in_ranges ranges outside member fold_case
white_equals r = word_apart refl

white_reference : (r : Row) → Apart White (word (ascii "<reference") r)
unfolding in_ranges ranges outside member fold_case
white_reference r = word_apart refl

white_source : (r : Row) → Apart White (word (ascii "sourceMappingURL") r)
unfolding in_ranges ranges outside member fold_case
white_source r = word_apart refl

white_pragma : (r : Row) {w : List ℕ} → BeginsWithAtSign w → Apart White (word w r)
unfolding in_ranges ranges outside member fold_case
white_pragma r b = at_apart b refl

star_pragma : (r : Row) {w : List ℕ} → BeginsWithAtSign w → Apart WhiteOrStar (word w r)
unfolding in_ranges ranges outside member fold_case
star_pragma r b = at_apart b refl

-- a word and `\s*=\s*`, before what is no white space
assigned : (r : Row) → Apart White r → (w s : List ℕ) (at : ℕ) (k : Capture)
    → all (word w (equals r)) s at k ≡ on_match (assigned_at w s at) [] (λ e. all r s e k)
unfolding all assigned_at
assigned r h w s at k = by_word (word_at w s at)
  where
    by_equals : (m : Option ℕ) → on_match m [] (λ d. all (longest White r) s d k)
        ≡ on_match (on_match m None (λ d. Some (run_end White s d))) [] (λ e. all r s e k)
    by_equals (Some d) = past_run h s d k
    by_equals None = refl

    by_word : (m : Option ℕ) → on_match m [] (λ e. all (equals r) s e k)
        ≡ on_match (on_match m None (λ e. on_match (word_at (ascii "=") s (run_end White s e)) None (λ d. Some (run_end White s d)))) [] (λ e. all r s e k)
    by_word (Some e) = past_run (white_equals (longest White r)) s e k ∙ by_equals (word_at (ascii "=") s (run_end White s e))
    by_word None = refl

-- a captured text that is not empty
abbrev pub with_text : Option Capture → Option Capture
with_text (Some k) = cond (ltb k.from k.to) (Some k) None
with_text None = None

-- the captured values
module _ (s : List ℕ) (at : ℕ) where
  pub quoted_row : match_at quoted s at ≡ first (on_match (one_at Quote s at) [] (λ e.
      on_match (one_at Quote s (run_end NotQuote s e)) [] (λ d. record { quoted = true; from = e; to = run_end NotQuote s e } ∷ [])))
  unfolding match_at all
  quoted_row = ap first (on (one_at Quote s at) λ e. past_run closes s e (record { quoted = true; from = e; to = 0 }))

  -- with text between the marks: the same, where there is some
  pub quoted_some_row : match_at quoted_some s at ≡ with_text (match_at quoted s at)
  unfolding match_at all first
  quoted_some_row =
      ap first (on (one_at Quote s at) λ e. on (one_at NotQuote s e) λ d. past_run closes s d (record { quoted = true; from = e; to = 0 }))
      ∙ by (one_at Quote s at) ∙ ap with_text (sym quoted_row)
    where
      value : ℕ → ℕ → Option ℕ → List Capture
      value e end m = on_match m [] (λ d. record { quoted = true; from = e; to = end } ∷ [])

      ended : ℕ → ℕ → List Capture
      ended e end = value e end (one_at Quote s end)

      empty : (e : ℕ) (m : Option ℕ) → None ≡ with_text (first (value e e m))
      empty e (Some d) = rw (le-ltb e e (omega arith))
      empty e None = refl

      filled : (e end : ℕ) → e < end → (m : Option ℕ) → first (value e end m) ≡ with_text (first (value e end m))
      filled e end h (Some d) = rw (lt-ltb e end h)
      filled e end h None = refl

      by : (m : Option ℕ) → first (on_match m [] (λ e. on_match (one_at NotQuote s e) [] (λ d. ended e (run_end NotQuote s d))))
          ≡ with_text (first (on_match m [] (λ e. ended e (run_end NotQuote s e))))
      by (Some e) = go (class_at NotQuote (drop e s)) refl
        where
          go : (n : ℕ) → n ≡ class_at NotQuote (drop e s)
              → first (on_match (behind e n) [] (λ d. ended e (run_end NotQuote s d))) ≡ with_text (first (ended e (run_end NotQuote s e)))
          go zero p =
              let stop : run_end NotQuote s e ≡ e = omega (arith, run_stops NotQuote (drop e s) (sym p)) in
              rw stop (empty e (one_at Quote s e))
          go (suc n) p =
              let z : suc n ≡ 0 → ⊥ = λ y. omega arith in
              let same : run_end NotQuote s (e + suc n) ≡ run_end NotQuote s e = rw (← p) at (end_behind NotQuote s e (rw (← p) z)) in
              let more : e < run_end NotQuote s e = omega (arith, run_goes_on NotQuote (drop e s) p z) in
              rw (eqb-suc-zero n, same) (filled e (run_end NotQuote s e) more (one_at Quote s (run_end NotQuote s e)))
      by None = refl

  pub bare_row : match_at bare s at
      ≡ first (on_match (one_at NotWhite s at) [] (λ e. record { quoted = false; from = at; to = run_end NotWhite s e } ∷ []))
  unfolding match_at all first flat_map
  bare_row = go (one_at NotWhite s at)
    where
      go : (m : Option ℕ) → first (on_match m [] (λ e. all (longest NotWhite (to done)) s e (record { quoted = false; from = at; to = 0 })))
          ≡ first (on_match m [] (λ e. record { quoted = false; from = at; to = run_end NotWhite s e } ∷ []))
      go (Some e) = rw (longest_last NotWhite s e).1
      go None = refl

  -- the shortest run ends at once where the reference does, and else goes on
  pub reference_hit : {m : Option ℕ} → m ≡ word_at (ascii "/>") s at → true ≡ is_some m → match_at reference_end s at ≡ Some no_capture
  unfolding match_at all first flat_map
  reference_hit {m = Some e} h t = rw ((ends_begin NotLf s at).1, ← h)
  reference_hit {m = None} h t = absurd (true≢false t)

  pub reference_stop : {m : Option ℕ} → m ≡ word_at (ascii "/>") s at → false ≡ is_some m → None ≡ one_at NotLf s at
      → match_at reference_end s at ≡ None
  unfolding match_at all first flat_map
  reference_stop {m = Some e} h t z = absurd (true≢false (sym t))
  reference_stop {m = None} h t z = rw (ends_stop NotLf s at (none_there at _ z), ← h)

  pub reference_goes_on : {m : Option ℕ} → m ≡ word_at (ascii "/>") s at → false ≡ is_some m → {e : ℕ} → Some e ≡ one_at NotLf s at
      → match_at reference_end s at ≡ match_at reference_end s e
  unfolding match_at all flat_map
  reference_goes_on {m = Some e} h t z = absurd (true≢false (sym t))
  reference_goes_on {m = None} h t z = let (n, e) = some_there at _ z in rw (ends_go_on NotLf s at refl n, ← h, e)

  pub attribute_row_lem : (w : List ℕ) → match_at (attribute_row w) s at ≡ first (on_match (one_at White s at) [] (λ e.
      on_match (assigned_at w s e) [] (λ d. all quoted s d no_capture)))
  unfolding match_at all
  attribute_row_lem w = ap first (on (one_at White s at) λ e. assigned quoted white_quote w s e no_capture)

  pub attribute_ends : (w : List ℕ) → length s ≤ at → match_at (attribute_row w) s at ≡ None
  unfolding first
  attribute_ends w h =
      let z : class_at White (drop at s) ≡ 0 = omega (arith, class_fits White (drop at s), length-drop at s) in
      rw (attribute_row_lem w, eq-eqb _ 0 z)

-- the patterns that are anchored
module _ (s : List ℕ) where
  pub triple_slash_row_lem : find triple_slash_row s ≡ first (on_match (word_at (ascii "/") s 0) [] (λ e.
      on_match (word_at (ascii "<reference") s (run_end White s e)) [] (λ d. on_match (one_at White s d) [] (λ b. all reference_end s b no_capture))))
  unfolding match_at all
  triple_slash_row_lem = anchored _ s ∙ ap first (on (word_at (ascii "/") s 0) λ e. past_run (white_reference (one White ▸ reference_end)) s e no_capture)

  pub jsx_row_lem : (w : List ℕ) → BeginsWithAtSign w → find (jsx_row w) s ≡ first (on_match (word_at w s (run_end WhiteOrStar s 0)) [] (λ e.
      on_match (one_at White s e) [] (λ d. all bare s (run_end White s d) no_capture)))
  unfolding match_at all
  jsx_row_lem w b =
      anchored _ s ∙ ap first
      (past_run (star_pragma (one White ▸ longest White ▸ bare) b) s 0 no_capture
      ∙ on (word_at w s (run_end WhiteOrStar s 0)) λ e. on (one_at White s e) λ d. past_run white_bare s d no_capture)

  pub source_mapping_row : find source_mapping_url_row s ≡ first (on_match (one_at SourceMark s 0) [] (λ e.
      on_match (assigned_at (ascii "sourceMappingURL") s (run_end White s e)) [] (λ d. all bare s d no_capture)))
  unfolding match_at all
  source_mapping_row =
      anchored _ s ∙ ap first (on (one_at SourceMark s 0) λ e.
      past_run (white_source (equals ▸ bare)) s e no_capture ∙ assigned bare white_bare (ascii "sourceMappingURL") s (run_end White s e) no_capture)

  -- `^\s*WORD\s*=\s*` before what is no white space
  pragma : (r : Row) → Apart White r → (w : List ℕ) → BeginsWithAtSign w
      → find (start ▸ longest White ▸ word w ▸ equals ▸ r) s ≡ first (on_match (assigned_at w s (run_end White s 0)) [] (λ e. all r s e no_capture))
  unfolding match_at
  pragma r h w b = anchored _ s ∙ ap first (past_run (white_pragma (equals r) b) s 0 no_capture ∙ assigned r h w s (run_end White s 0) no_capture)

  pub pragma_row_lem : (w : List ℕ) → BeginsWithAtSign w
      → find (pragma_row w) s ≡ first (on_match (assigned_at w s (run_end White s 0)) [] (λ e. all quoted_some s e no_capture))
  pragma_row_lem = pragma quoted_some white_quote

  pub deno_types_row_lem : find deno_types_row s
      ≡ first (on_match (assigned_at (ascii "@deno-types") s (run_end White s 0)) [] (λ e. all (either quoted_some bare) s e no_capture))
  deno_types_row_lem = pragma (either quoted_some bare) white_value (ascii "@deno-types") refl
