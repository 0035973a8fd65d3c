-- The grammar and the reader agree: what the reader finds in a body is its reading, of which there is at most one.
use Rattle.laws.proofs.Prelude.{◌≡◌, refl, sym, ap, ◌∙◌, Bool, true, false, cond, not, or-true, inl, inr, ⊎_elim, List, ◌++◌, ℕ, ◌+◌, ◌-◌, ◌≤◌, ◌<◌, arith, eqb}
use Rattle.laws.proofs.Prelude.{length, take, drop, none-some, length-append, length-drop, drop-drop, eqb-true, eq-eqb, ne_eqb}
use Rattle.std.specs.Prelude.{Option, Some, None}
use Rattle.laws.specs.{Ascii.ascii, code.Told.Bounded, code.Told.Meant}
use Rattle.text.specs.{declared.utf8.Encoding.TheVariants.Utf8, Ranges.in_ranges, Bytes.begins, Characters.Stands}
use Rattle.text.specs.Utf8.{admits, length_by, char_length, code_by, char_at}
use Rattle.text.proofs.Runs.{if_fits}
use Rattle.text.proofs.Words.{begins_is, begins_sound, begins_complete}
use Rattle.std.specs.{Prelude.nat_eq, List.starts_with}
use Rattle.std.proofs.lemmas.{Bool.or_cases, List.take_rest}
use Rattle.analysis.specs.declared.Capture.{Capture}
use Rattle.analysis.specs.Place.{FoundWithin}
use Rattle.ecma426.specs.WhiteSpace.{is_space, not_space}
use Rattle.ecma426.specs.Grammar.{Row, none, more, Word, Marked, MapReading, FindsMap}
use Rattle.ecma426.specs.Reader.{one_at, row_end, marked, word, run_to, from_word, find_source_map}
use Rattle.ecma426.proofs.Boundaries.{run_inside}
use Rattle.ecma426.proofs.LongestRow.{stood, row_is, row_only}

-- no whitespace stands where the word does, and no character where the text ends
before_word : (t : List ℕ) → one_at is_space (word ++ t) ≡ 0
unfolding is_space in_ranges admits length_by char_length code_by char_at
before_word t = refl

at_end : (kind : ℕ → Bool) (s : List ℕ) → one_at kind (drop (length s) s) ≡ 0
at_end kind s = omega (arith, if_fits kind (drop (length s) s), length-drop (length s) s)

-- where whitespace stands, no other character does
not_both : (t : List ℕ) → (one_at is_space t ≡ 0 → ⊥) → one_at not_space t ≡ 0
not_both t = go (is_space (char_at Utf8 t).code)
  where
    go : (b : Bool) → (cond b (char_at Utf8 t).len 0 ≡ 0 → ⊥) → cond (not b) (char_at Utf8 t).len 0 ≡ 0
    go true z = refl
    go false z = absurd (z refl)

module _ (body : List ℕ) where
  -- the library's test of the word at a place
  word_there : (at : ℕ) {b : Bool} → b ≡ starts_with nat_eq (take (length body - at) (drop at body)) word → begins word (drop at body) ≡ b
  word_there at e = begins_is word (drop at body) ∙ sym (rw take_rest at e)

  -- a word stands just where the text from there on begins with it
  stands : (w : List ℕ) {at : ℕ} → 0 < length w → begins w (drop at body) ≡ true → Stands (Word w) body at (at + length w)
  stands w {at} some e =
      let p = begins_sound w (drop at body) e in
      record { inside = omega (arith, ap length p, length-append w (drop (length w) (drop at body)), length-drop at body); piece = rw drop-drop at p }

  begun : (w : List ℕ) {at end : ℕ} → Stands (Word w) body at end → begins w (drop at body) ≡ true
  begun w {at} {end} x = rw x.piece (begins_complete w (drop end body))

  run_ended : {at : ℕ} → Row body is_space at (length body) → one_at not_space (drop at body) ≡ 0
  run_ended none = at_end not_space body
  run_ended (more {at} x r) = not_both (drop at body) (stood is_space body x).0

  -- a word of n bytes that stands at a place ends n bytes behind it
  word_end : (w : List ℕ) {at end : ℕ} → Stands (Word w) body at end → 0 < length w → end ≡ at + length w
  word_end w {at} {end} x l = omega (arith, x.inside, ap length x.piece, length-append w (drop end body), length-drop at body, length-drop end body)

  -- the two marks, each by the test for it
  marks : marked body ≡ true → Marked body
  marks e = ⊎_elim (λ b. inl (stands (ascii "#") (omega arith) b)) (λ b. inr (stands (ascii "@") (omega arith) b))
      (or_cases (begins (ascii "#") body) (begins (ascii "@") body) e)

  pub marked_some : true ≡ marked body → 1 ≤ length body
  marked_some e = ⊎_elim (λ x. x.inside) (λ x. x.inside) (marks (sym e))

  marked_there : Marked body → marked body ≡ true
  marked_there (inl x) = rw (begun (ascii "#") x)
  marked_there (inr x) = rw (begun (ascii "@") x, or-true)

  complete : {k : Capture} → MapReading body k → find_source_map body ≡ Some k
  unfolding find_source_map
  complete {k} r =
      let white : r.at ≡ row_end is_space body 1 = row_only is_space body r.white (rw r.word.piece (before_word (drop k.from body))) in
      let from : k.from ≡ r.at + 17 = word_end word r.word (omega arith) in
      let run : k.to ≡ row_end not_space body k.from = row_only not_space body r.run (run_ended r.end) in
      let all : row_end is_space body k.to ≡ length body = sym (row_only is_space body r.end (at_end is_space body)) in
      let there : begins word (drop r.at body) ≡ true = begun word r.word in
      rw (marked_there r.mark, ← white, there, ← from, ← run, eq-eqb _ _ all, ← r.bare)

  -- where the word is looked for, and where the run behind it ends
  abbrev at : ℕ
  at = row_end is_space body 1

  abbrev end : ℕ
  end = row_end not_space body (at + 17)

  sound : (k : Capture) → find_source_map body ≡ Some k → MapReading body k
  unfolding find_source_map
  sound k e = by_mark (marked body) refl e
    where
      by_end : marked body ≡ true → begins word (drop at body) ≡ true → (b : Bool) → eqb (row_end is_space body end) (length body) ≡ b
          → cond b (Some (record { quoted = false; from = at + 17; to = end })) None ≡ Some k → MapReading body k
      by_end m w true i e =
          let is : record { quoted = false; from = at + 17; to = end } ≡ k = cc in
          rw (← is) (record {
            at = at;
            mark = marks m;
            white = row_is is_space body 1;
            word = stands word (omega arith) w;
            run = row_is not_space body (at + 17);
            end = rw (eqb-true (row_end is_space body end) (length body) i) at (row_is is_space body end);
            bare = refl;
          })
      by_end m w false i e = absurd (none-some _ e)

      by_word : marked body ≡ true → (b : Bool) → begins word (drop at body) ≡ b → cond b (run_to body (at + 17) end) None ≡ Some k → MapReading body k
      by_word m true w e = by_end m w (eqb (row_end is_space body end) (length body)) refl e
      by_word m false w e = absurd (none-some _ e)

      by_mark : (b : Bool) → marked body ≡ b → cond b (from_word body at) None ≡ Some k → MapReading body k
      by_mark true m e = by_word m (begins word (drop at body)) refl e
      by_mark false m e = absurd (none-some _ e)

  pub finds_map : FindsMap body (find_source_map body)
  finds_map = record {
    some = λ k. (sound k, complete);
    none = (λ e k r. none-some _ (sym e ∙ complete r), by (find_source_map body) refl);
    one = λ k l r q. let e : Some k ≡ Some l = sym (complete r) ∙ complete q in cc;
  }
    where
      by : (f : Option Capture) → find_source_map body ≡ f → ((k : Capture) → MapReading body k → ⊥) → find_source_map body ≡ None
      by (Some k) e n = absurd (n k (sound k e))
      by None e n = e

  -- so does every answer that is the reader's
  abbrev Answered : Option Capture → Type 0
  Answered r = Bounded (Meant (r ≡ find_source_map body) (FindsMap body r)) (FoundWithin r (length body))

  answered : {r : Option Capture} → r ≡ find_source_map body → Answered r
  answered {r} e = let finds : FindsMap body r = rw e finds_map in record { answer = record { answer = e; meaning = finds }; bounds = by r refl finds }
    where
      by : (f : Option Capture) → r ≡ f → FindsMap body r → FoundWithin f (length body)
      by (Some k) i finds = run_inside body ((finds.some k).0 i)
      by None i finds = tt

  -- the answers of the code: without a mark, without the word, and by where the run and the whitespace behind it end
  pub unmarked : false ≡ marked body → Answered None
  unfolding find_source_map
  unmarked m = answered (rw (sym m))

  module _ {at : ℕ} (m : true ≡ marked body) (white : at ≡ row_end is_space body 1) where
    pub unnamed : false ≡ starts_with nat_eq (take (length body - at) (drop at body)) word → Answered None
    unfolding find_source_map
    unnamed w = answered (rw (sym m, ← white, word_there at w))

    module _ {to end : ℕ} (w : true ≡ starts_with nat_eq (take (length body - at) (drop at body)) word)
        (run : to ≡ row_end not_space body (at + 17)) (behind : end ≡ row_end is_space body to) where
      pub ended : end ≡ length body → Answered (Some (record { quoted = false; from = at + 17; to = to }))
      unfolding find_source_map
      ended e = answered (rw (sym m, ← white, word_there at w, ← run, ← behind, eq-eqb _ _ e))

      pub not_ended : (end ≡ length body → ⊥) → Answered None
      unfolding find_source_map
      not_ended n = answered (rw (sym m, ← white, word_there at w, ← run, ← behind, ne_eqb _ _ n))

pub ruleset answers_as = (marked_some, unmarked, unnamed, ended, not_ended)
