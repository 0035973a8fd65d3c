-- A Brace reading and a Declaration never have one place: before its white space stands `(`, or the last letter of `from`.
use Rattle.laws.proofs.Prelude.{◌≡◌, refl, sym, ap, ◌∙◌, Bool, true, false, [], ◌∷◌, ◌++◌, append_assoc, ℕ, zero, suc, ◌+◌, ◌-◌, ◌<◌, code, arith, ltb}
use Rattle.laws.proofs.Prelude.{length, drop, get_or, length-append, length-drop, ltb-true, ltb-false}
use lib.{ListN.get_or-append, Seq.get_or-append_seam, Seq.get_or-append-add}
use Rattle.laws.specs.Ascii.{ascii}
use Rattle.text.specs.{declared.class.Class.TheVariants.White, Ranges.in_ranges}
use Rattle.text.specs.Class.{outside, ranges, member}
use Rattle.analysis.specs.Mode.{Mode}
use Rattle.jsdoc.specs.Grammar.{Bytes, Without, Quote, Brace, Declaration, From}
use Rattle.jsdoc.proofs.{Ends.ends_trans, Ends.ends_drop, Characters.run_ends, Characters.run_free, Texts.quote_shorter}
use Rattle.jsdoc.proofs.Suffixes.{brace_ends, declaration_ends}

without_at : (m : ℕ) (w : Bytes) → Without m w → (k : ℕ) → k < length w → get_or w k 0 ≡ m → ⊥
without_at m [] h k l e = omega arith
without_at m (x ∷ w) h zero l e = h.0 e
without_at m (x ∷ w) h (suc k) l e = without_at m w h.1 k (omega arith) e

-- x is the last before place q that is x or y
record Stands (x y : ℕ) (b : Bytes) (q : ℕ) : Type 0 where
  at : ℕ
  before : at < q
  is : get_or b at 0 ≡ x
  none : (k : ℕ) → at < k → k < q → get_or b k 0 ≡ y → ⊥

apart : {x y : ℕ} {b : Bytes} {q : ℕ} → (x ≡ y → ⊥) → Stands x y b q → Stands y x b q → ⊥
apart {x} {y} {b} n r t = go (ltb r.at t.at) refl (ltb t.at r.at) refl
  where
    go : (c : Bool) → ltb r.at t.at ≡ c → (d : Bool) → ltb t.at r.at ≡ d → ⊥
    go true e d f = r.none t.at (ltb-true r.at t.at e) t.before t.is
    go false e true f = t.none r.at (ltb-true t.at r.at f) r.before r.is
    go false e false f =
        let i : r.at ≡ t.at = omega (arith, ltb-false r.at t.at e, ltb-false t.at r.at f) in
        n (sym r.is ∙ ap (λ (k : ℕ). get_or b k 0) i ∙ t.is)

-- so it is where x stands before bytes without y, and then the rest from q on
stands : (x y : ℕ) (b p w : Bytes) (q : ℕ) → 0 < length (drop q b) → b ≡ p ++ x ∷ (w ++ drop q b) → Without y w → Stands x y b q
stands x y b p w q l e f = record { at = length p; before = omega (arith, place); is = rw e (get_or-append_seam p x _ 0); none = none }
  where
    place : q ≡ length p + suc (length w)
    place = omega (arith, l, length-drop q b, ap length e, length-append p (x ∷ (w ++ drop q b)), length-append w (drop q b))

    inner : (k : ℕ) → k < length w → get_or b (length p + suc k) 0 ≡ get_or w k 0
    inner k h = rw e (get_or-append-add p (x ∷ (w ++ drop q b)) (suc k) 0 ∙ get_or-append w (drop q b) 0 k h)

    none : (k : ℕ) → length p < k → k < q → get_or b k 0 ≡ y → ⊥
    none k g h z =
        let j : ℕ = k - suc (length p) in
        let s : length p + suc j ≡ k = omega arith in
        let t : j < length w = omega (arith, place) in
        without_at y w f j t (sym (inner j t) ∙ ap (λ (n : ℕ). get_or b n 0) s ∙ z)

quote_there : {k s t : Bytes} → Quote k s t → 0 < length s
quote_there r = omega (arith, quote_shorter r)

module _ {b : Bytes} {k q : ℕ} {m : Mode} where
  brace_stands : From Brace b k q m → Stands (code "(") (code "m") b q
  unfolding member outside ranges in_ranges
  brace_stands f =
      let r = f.reads in
      let (p, e) = ends_trans (ends_drop k b) (brace_ends r) in
      let (u, i, w) = r.paren in
      stands (code "(") (code "m") b p (run_ends White w).0 q (quote_there r.quote)
      (e ∙ ap (λ (l : Bytes). p ++ l) (i ∙ ap (λ (l : Bytes). ascii "(" ++ l) (run_ends White w).1))
      (run_free White (code "m") (omega arith) refl w)

  decl_stands : From Declaration b k q m → Stands (code "m") (code "(") b q
  unfolding member outside ranges in_ranges
  decl_stands f =
      let r = f.reads in
      let (p, e) = ends_trans (ends_drop k b) (declaration_ends r) in
      let (u, i, w) = r.word2 in
      stands (code "m") (code "(") b (p ++ ascii "fro") (run_ends White w).0 q (quote_there r.quote)
      (e ∙ ap (λ (l : Bytes). p ++ l) (i ∙ ap (λ (l : Bytes). ascii "from" ++ l) (run_ends White w).1) ∙
      sym (append_assoc p (ascii "fro") (code "m" ∷ ((run_ends White w).0 ++ drop q b))))
      (run_free White (code "(") (omega arith) refl w)

pub never_both : {b : Bytes} {k j q : ℕ} {m n : Mode} → From Brace b k q m → From Declaration b j q n → ⊥
never_both f g = apart (λ e. omega arith) (brace_stands f) (decl_stands g)
