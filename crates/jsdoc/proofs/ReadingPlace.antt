-- The place of a reading: it has one end and one mode, and it is a quote, which begins and ends at character boundaries.
use Rattle.laws.proofs.Prelude.{◌≡◌, sym, ap, ◌∙◌, true, inl, inr, ◌∷◌, ◌++◌, ℕ, suc, ◌+◌, ◌<◌, ◌≤◌, arith, add-zero, length, drop, get_or, length-drop}
use Rattle.laws.proofs.Prelude.{drop-append_seam, drop-drop, get_or-drop}
use Rattle.text.{specs.declared.utf8.Encoding.TheVariants.Utf8, specs.Utf8.formed, specs.Position.Boundary, specs.Bytes.Mark, proofs.Cuts.ascii_between}
use Rattle.analysis.specs.Mode.{Mode}
use Rattle.jsdoc.specs.Grammar.{Bytes, Quote, Brace, Declaration, Reading, From}
use Rattle.jsdoc.proofs.{Texts.quote_complete, Texts.mark_small, Braces.tail_complete, Declarations.after_complete, Apart.never_both}

one_end : {k l q e d : Bytes} → Quote k q e → Quote l q d → e ≡ d
one_end r t = cc (quote_complete r, quote_complete t)

module _ {s t q e d : Bytes} {m n : Mode} where
  one_brace : Brace s q e m → Brace t q d n → (e ≡ d) × (m ≡ n)
  one_brace r b =
      let i = one_end r.quote b.quote in
      (i, cc (tail_complete r.tail, tail_complete b.tail))

  one_declaration : Declaration s q e m → Declaration t q d n → (e ≡ d) × (m ≡ n)
  one_declaration r b =
      let i = one_end r.quote b.quote in
      (i, cc ((after_complete m e r.after).1, (after_complete n d b.after).1))

-- a reading at the same places, of another kind
pub with_kind : {R S : Bytes → Bytes → Bytes → Mode → Type 0} {b : Bytes} {k q : ℕ} {m : Mode} (r : From R b k q m) →
    S (drop k b) (drop q b) (drop r.end b) m → From S b k q m
with_kind r x = record { end = r.end; inside = r.inside; reads = x }

-- readings with one place have one end and one mode
module _ {b : Bytes} {k j q : ℕ} {m n : Mode} where
  same_end : (r : From Reading b k q m) (t : From Reading b j q n) → (drop r.end b ≡ drop t.end b) × (m ≡ n) → (r.end ≡ t.end) × (m ≡ n)
  same_end r t (e, i) = (omega (arith, ap length e, length-drop r.end b, length-drop t.end b, r.inside, t.inside), i)

  pub one_place : (r : From Reading b k q m) (t : From Reading b j q n) → (r.end ≡ t.end) × (m ≡ n)
  one_place r t = same_end r t (go r.reads t.reads)
    where
      go : Reading (drop k b) (drop q b) (drop r.end b) m → Reading (drop j b) (drop q b) (drop t.end b) n → (drop r.end b ≡ drop t.end b) × (m ≡ n)
      go (inl x) (inl y) = one_brace x y
      go (inr x) (inr y) = one_declaration x y
      go (inl x) (inr y) = absurd (never_both (with_kind r x) (with_kind t y))
      go (inr x) (inl y) = absurd (never_both (with_kind t y) (with_kind r x))

-- the place is a quote
pub place_quote : {s q e : Bytes} {m : Mode} → Reading s q e m → (k : Bytes) × Quote k q e
place_quote (inl r) = (r.text, r.quote)
place_quote (inr r) = (r.text, r.quote)

-- ---- boundaries

pub head_at : (b : Bytes) (i m : ℕ) (t : Bytes) → drop i b ≡ m ∷ t → (i < length b) × (get_or b i 0 ≡ m)
head_at b i m t e =
    let n : i + 0 ≡ i = add-zero i in
    (omega (arith, ap length e, length-drop i b), rw (← n) (sym (get_or-drop i b 0 0) ∙ ap (λ (l : Bytes). get_or l 0 0) e))

module _ (b : Bytes) (f : formed Utf8 0 b ≡ true) where
  at_mark : (i m : ℕ) (t : Bytes) → Mark m → drop i b ≡ m ∷ t → Boundary b i × Boundary b (i + 1)
  at_mark i m t k e = let (l, h) = head_at b i m t e in ascii_between b f i l (rw h (mark_small m k))

  -- in a well-formed text a quote begins and ends at character boundaries
  pub quote_boundaries : {k : Bytes} (q e : ℕ) → e ≤ length b → Quote k (drop q b) (drop e b) → Boundary b q × Boundary b e
  quote_boundaries {k} q e l t =
      let past = drop e b in
      let whole : drop q b ≡ t.mark ∷ (k ++ t.mark ∷ past) = t.first ∙ ap (λ (l : Bytes). t.mark ∷ l) t.rest.1 in
      let close : drop (q + suc (length k)) b ≡ t.mark ∷ past =
      sym (drop-drop (suc (length k)) q b) ∙ ap (drop (suc (length k))) whole ∙ drop-append_seam k (t.mark ∷ past) in
      let end : q + suc (length k) + 1 ≡ e = omega (arith, ap length close, length-drop e b, length-drop (q + suc (length k)) b) in
      ((at_mark q t.mark (k ++ t.mark ∷ past) t.of_mark whole).0, rw end at (at_mark (q + suc (length k)) t.mark past t.of_mark close).1)
