-- Two rules side by side: what holds of their answers of each comment holds of their first answers, of their last and of all.
use Rattle.std.specs.Prelude.{Some, None, option_map}
use Rattle.laws.proofs.Prelude.{◌≡◌, refl, ap, ◌⊎◌, inl, inr, ⊎_elim, List, [], ◌∷◌, Memᴰ, Memᴰ_head, Memᴰ_tail, Memᴰ_not_nil}
use Rattle.laws.proofs.Prelude.{Memᴰ_cases_cons, Option}
use mathlib.Core.{List.reverse, List.reverse_aux}
use Rattle.laws.specs.Aligned.{Aligned}
use Rattle.sheet.specs.declared.comments.Comment.{Comment}
use Rattle.pragmas.specs.Readings.{or_else, first_of, last_of, listed, all_of}

-- the comments from the end are the same
turned : (cs ds : List Comment) {c : Comment} → Memᴰ c (reverse_aux cs ds) → Memᴰ c cs ⊎ Memᴰ c ds
turned [] ds m = inr m
turned (d ∷ cs) ds m = ⊎_elim (λ i. inl (Memᴰ_tail i)) (λ i. ⊎_elim (λ e. inl (Memᴰ_head e)) inr (Memᴰ_cases_cons i)) (turned cs (d ∷ ds) m)

pub of_reverse : (cs : List Comment) {c : Comment} → Memᴰ c (reverse cs) → Memᴰ c cs
of_reverse cs m = ⊎_elim (λ i. i) (λ i. absurd (Memᴰ_not_nil i)) (turned cs [] m)

-- there is no answer of either, or one of each
pub data Both {A B : Type 0} (P : A → B → Type 0) : Option A → Option B → Type 0 where
  neither : Both P None None
  each : {a : A} {b : B} → P a b → Both P (Some a) (Some b)

module _ {A B : Type 0} where
  pub both_map : {P Q : A → B → Type 0} → ((a : A) (b : B) → P a b → Q a b) → {x : Option A} {y : Option B} → Both P x y → Both Q x y
  both_map f Both.neither = Both.neither
  both_map f (Both.each p) = Both.each (f _ _ p)

  -- one answer made of the other
  pub both_made : (f : A → B) {x : Option A} {y : Option B} → Both (λ a b. f a ≡ b) x y → option_map f x ≡ y
  both_made f Both.neither = refl
  both_made f (Both.each e) = ap Some e

module _ {A B : Type 0} {P : A → B → Type 0} where
  pub both_else : {x z : Option A} {y w : Option B} → Both P x y → Both P z w → Both P (or_else x z) (or_else y w)
  both_else Both.neither q = q
  both_else (Both.each p) q = Both.each p

  both_listed : {x : Option A} {y : Option B} {l : List A} {m : List B} → Both P x y → Aligned P l m → Aligned P (listed x l) (listed y m)
  both_listed Both.neither h = h
  both_listed (Both.each p) h = Aligned.and p h

  pub both_optional : {x : Option A} {y : Option B} → Both P x y → Aligned P (listed x []) (listed y [])
  both_optional b = both_listed b Aligned.none

  module _ (f : Comment → Option A) (g : Comment → Option B) where
    pub both_first : (cs : List Comment) → ((c : Comment) → Memᴰ c cs → Both P (f c) (g c)) → Both P (first_of f cs) (first_of g cs)
    unfolding first_of
    both_first [] h = Both.neither
    both_first (c ∷ cs) h = both_else (h c (Memᴰ_head refl)) (both_first cs (λ d m. h d (Memᴰ_tail m)))

    pub both_last : (cs : List Comment) → ((c : Comment) → Memᴰ c cs → Both P (f c) (g c)) → Both P (last_of f cs) (last_of g cs)
    unfolding last_of
    both_last cs h = both_first (reverse cs) (λ c m. h c (of_reverse cs m))

    pub both_all : (cs : List Comment) → ((c : Comment) → Memᴰ c cs → Both P (f c) (g c)) → Aligned P (all_of f cs) (all_of g cs)
    unfolding all_of
    both_all [] h = Aligned.none
    both_all (c ∷ cs) h = both_listed (h c (Memᴰ_head refl)) (both_all cs (λ d m. h d (Memᴰ_tail m)))
