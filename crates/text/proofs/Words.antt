-- Two texts compared byte by byte: each comparison is the library's, and says of them what that says.
use Rattle.laws.proofs.Prelude.{◌≡◌, refl, sym, ap, ◌∙◌, ◌&&◌, Bool, true, false, cond, List, [], ◌∷◌, ◌++◌, ℕ, arith, eqb, ltb, ltb-true, length}
use Rattle.laws.proofs.Prelude.{drop, eq-eqb, ne_eqb, ltb-false}
use Rattle.std.specs.declared.cmp.Ordering.TheVariants.{Less, Equal, Greater}
use Rattle.std.specs.Prelude.{nat_eq}
use Rattle.std.specs.List.{starts_with}
use Rattle.std.specs.Cmp.Lexicographic.{pointwise, slice_cmp, bytes_decides, texts_ties}
use Rattle.std.specs.Ordering.{nat_cmp, ordering_then, is_eq}
use Rattle.std.proofs.lemmas.{Bool.Decides.Decides-eqb, Cmp.nat_eq_equiv, Cmp.nat_list_eq_equiv, Slice.Eq.starts_is}
use Rattle.text.specs.Bytes.{begins, same, order}

pub begins_is : (w s : List ℕ) → begins w s ≡ starts_with nat_eq s w
unfolding begins
begins_is [] s = refl
begins_is (y ∷ w) [] = refl
begins_is (y ∷ w) (x ∷ s) = rw (nat_eq_equiv.symm x y, begins_is w s)

pub same_is : (a b : List ℕ) → same a b ≡ pointwise nat_eq a b
unfolding same
same_is [] [] = refl
same_is [] (y ∷ b) = refl
same_is (x ∷ a) [] = refl
same_is (x ∷ a) (y ∷ b) = ap (eqb x y &&◌) (same_is a b)

pub order_is : (a b : List ℕ) → order a b ≡ slice_cmp nat_cmp a b
unfolding order
order_is [] [] = refl
order_is [] (y ∷ b) = refl
order_is (x ∷ a) [] = refl
order_is (x ∷ a) (y ∷ b) = go (ltb x y) refl (ltb y x) refl (order_is a b)
  where
    go : (p : Bool) → ltb x y ≡ p → (q : Bool) → ltb y x ≡ q → order a b ≡ slice_cmp nat_cmp a b
        → cond p Less (cond q Greater (order a b)) ≡ ordering_then (nat_cmp x y) (slice_cmp nat_cmp a b)
    go true e q f g = rw e
    go false e true f g = rw (e, ne_eqb x y (λ h. omega (arith, ltb-true y x f)))
    go false e false f g =
        let h : x ≡ y = omega (arith, ltb-false x y e, ltb-false y x f) in
        rw (e, eq-eqb x y h) g

-- a text begins with a word just where it is the word and something more
pub begins_sound : (w s : List ℕ) → begins w s ≡ true → s ≡ w ++ drop (length w) s
begins_sound w s = (starts_is Decides-eqb s w (begins w s) (begins_is w s)).0

pub begins_complete : (w t : List ℕ) → begins w (w ++ t) ≡ true
begins_complete w t = (starts_is Decides-eqb (w ++ t) w (begins w (w ++ t)) (begins_is w (w ++ t))).1 t refl

-- two texts are the same just where they are equal
pub same_sound : (a b : List ℕ) → same a b ≡ true → a ≡ b
same_sound a b e = (bytes_decides a b).0 (sym (same_is a b) ∙ e)

pub same_refl : (a : List ℕ) → same a a ≡ true
same_refl a = same_is a a ∙ nat_list_eq_equiv.refl a

-- texts of one order are equal
pub order_same : (a b : List ℕ) → order a b ≡ Equal → a ≡ b
order_same a b e = (bytes_decides a b).0 (texts_ties a b ∙ ap is_eq (sym (order_is a b) ∙ e))
