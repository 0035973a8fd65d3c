-- Pieces of a template read one after the other, and the parts that they give.
use Rattle.std.specs.Prelude.{Some, None}
use Rattle.std.specs.Borrow.{Bor}
use Rattle.laws.proofs.Prelude.{◌≡◌, refl, sym, ap, ◌∙◌, Bool, true, false, cond, List, [], ◌∷◌, ◌++◌, append-nil, Option, ℕ, zero, suc, ◌+◌, ◌-◌, ◌≤◌, ◌<◌}
use Rattle.laws.proofs.Prelude.{arith, ltb, length, lt-ltb, le-ltb, ltb-true, ltb-false}
use Rattle.std.specs.Int.{from_bool}
use Rattle.laws.{specs.Decoded.ok, proofs.Decoding.then_ok}
use Rattle.text.specs.{declared.utf8.Encoding.TheVariants.Wtf8, Lossy.lossy}
use Rattle.wire.specs.{Text.text, Optional.optional}
use Rattle.sheet.specs.{Limits.text_limit, Tree.Pieces, Nodes.many, Nodes.piece}
use Rattle.sheet_heads.specs.code.Views.{piece_of}
use Rattle.sheet_heads.proofs.Many.{many_first, many_next, many_end}
use Rattle.report.specs.ModuleInfo as info
use Rattle.report.specs.ModuleInfo.{DynamicTemplatePart}
use Rattle.arguments.specs.code.Views.{piece_in}
use Rattle.arguments.specs.Argument.{piece_parts, template_parts, of_pieces, one_piece}

-- the part of a hole, if there is one: an expression
abbrev pub hole_parts : Bool → List DynamicTemplatePart
hole_parts has_hole = cond has_hole (None ∷ []) []

-- a piece is added in front
one_piece_lem : (s : List ℕ) {add : Pieces → Pieces} {t : List ℕ} → piece s ≡ ok add t → (p : Option (List ℕ)) × ((ps : Pieces) → add ps ≡ p ∷ ps)
unfolding piece
one_piece_lem s {add} e =
    let (p, u, x, y) = then_ok (optional (text Wtf8 text_limit) s) _ e in
    let g : (p ∷◌) ≡ add = cc in
    (p, λ ps. sym (ap (λ h. h ps) g))

-- one piece, and so many more
some_piece : (k : ℕ) (s : List ℕ) {ps : Pieces} {u : List ℕ} → 0 < k → many [] piece k s ≡ ok ps u
    → (p : Option (List ℕ)) × (qs : Pieces) × (t : List ℕ) × (many [] piece (k - 1) t ≡ ok qs u) × (p ∷ qs ≡ ps)
some_piece k s h e =
    let (add, t, first, qs, others, is) = many_first [] piece k s h e in
    let (p, adds) = one_piece_lem s first in
    (p, qs, t, others, sym (adds qs) ∙ is)

-- the parts of a piece, of the hole behind it if one follows, and of the other pieces
next_parts : (p : Option (List ℕ)) (left : ℕ) (t : List ℕ) {ps : Pieces} {u : List ℕ} → 0 < left → many [] piece (left - 1) t ≡ ok ps u
    → template_parts (p ∷ ps) ≡ piece_parts p ++ (hole_parts (ltb 1 left) ++ template_parts ps)
next_parts p zero t h e = absurd (omega arith)
next_parts p (suc zero) t {ps} h e = let none : ps ≡ [] = many_end [] piece 0 t (omega arith) e in rw (none, append-nil)
next_parts p (suc (suc k)) t {ps} {u} h e =
    let (q, qs, v, others, is) = some_piece (suc (suc k) - 1) t (omega arith) e in
    by_first q qs is
  where
    by_first : (q : Option (List ℕ)) (qs : Pieces) → q ∷ qs ≡ ps →
        template_parts (p ∷ ps) ≡ piece_parts p ++ (hole_parts (ltb 1 (suc (suc k))) ++ template_parts ps)
    by_first q qs is = rw (← is, lt-ltb 1 (suc (suc k)) (omega arith))

-- the kth piece, which a hole follows unless it is the last, and the others
module _ (holes k : ℕ) (h : k ≤ holes) where
  abbrev left : ℕ
  left = holes + 1 - k

  hole_follows : ltb 1 left ≡ ltb k holes
  hole_follows = by_test (ltb k holes) refl
    where
      by_test : (b : Bool) → ltb k holes ≡ b → ltb 1 left ≡ b
      by_test true e = let less = ltb-true k holes e in lt-ltb 1 left (omega arith)
      by_test false e = let most = ltb-false k holes e in le-ltb 1 left (omega arith)

  pub piece_next : (s : List ℕ) (p : Option (List ℕ)) {t : List ℕ} {ps : Pieces} {u : List ℕ} → piece s ≡ ok (p ∷◌) t → many [] piece left s ≡ ok ps u
      → (qs : Pieces) × (many [] piece (holes + 1 - (k + 1)) t ≡ ok qs u)
      × (template_parts ps ≡ piece_parts p ++ (hole_parts (ltb k holes) ++ template_parts qs))
  piece_next s p {t} e f =
      let some : 0 < left = omega arith in
      let down : left - 1 ≡ holes + 1 - (k + 1) = omega arith in
      let (qs, behind, is) = many_next [] piece left s some e f in
      (qs, rw down at behind, rw hole_follows at (sym (ap template_parts is) ∙ next_parts p left t some behind))

-- a piece that was read, cooked or not
pub piece_is : (x : Option (Bor (List ℕ))) → piece_of x ≡ (piece_in x ∷◌)
piece_is None = refl
piece_is (Some text) = refl

-- a piece is a part if it has text
pub text_part : (x : List ℕ) → 0 < length x → piece_parts (Some x) ≡ Some (lossy x) ∷ []
text_part [] h = absurd (omega arith)
text_part (b ∷ x) h = refl

pub hole_count : (has_hole : Bool) → length (hole_parts has_hole) ≡ from_bool has_hole
hole_count true = refl
hole_count false = refl

pub one_most : (b : Bool) → from_bool b ≤ 1
one_most true = omega arith
one_most false = omega arith

-- a template without holes is its one piece, any other is its parts
module _ (holes : ℕ) (s : List ℕ) {ps : Pieces} {u : List ℕ} (read : many [] piece (holes + 1) s ≡ ok ps u) where
  pub one_only : {p : Option (List ℕ)} {t : List ℕ} → holes ≡ 0 → piece s ≡ ok (p ∷◌) t → ps ≡ p ∷ []
  one_only {p} {t} none e =
      let (qs, behind, is) = many_next [] piece (holes + 1) s (omega arith) e read in
      sym is ∙ ap (p ∷◌) (many_end [] piece (holes + 1 - 1) t (omega arith) behind)

  pub of_parts : (holes ≡ 0 → ⊥) → (of_pieces ps ≡ info.template (template_parts ps)) × (one_piece ps ≡ None)
  of_parts some =
      let (p, qs, t, others, is) = some_piece (holes + 1) s (omega arith) read in
      let (q, rs, v, behind, has) = some_piece (holes + 1 - 1) t (omega arith) others in
      by_two p q rs (ap (p ∷◌) has ∙ is)
    where
      by_two : (p q : Option (List ℕ)) (rs : Pieces) → p ∷ q ∷ rs ≡ ps → (of_pieces ps ≡ info.template (template_parts ps)) × (one_piece ps ≡ None)
      by_two p q rs is = rw (← is) (refl, refl)
