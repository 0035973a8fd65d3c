-- Laws of lists that the library does not have.
use Rattle.laws.specs.Last.{last_of}
use mathlib.Core.Path.{◌≡◌, refl, sym}
use mathlib.Core.Logic.{⊎_elim}
use mathlib.Core.List.Memᴰ
use mathlib.Core.List.{List, [], ◌∷◌, ◌++◌, append_assoc, append-nil, flat_map, Memᴰ}
use Rattle.std.specs.Prelude.{None, Option, Some}
use Rattle.std.proofs.lemmas.Option.{same_Some, none-some}
use Prim.Native.Nat.{ℕ, zero, suc, ◌+◌, ◌-◌, ◌≤◌, ◌<◌}
use native.Mathlib.Omega.{arith}
use lib.ListN.{length, get_or, take, drop, length-drop}
use lib.Seq.{take-take, take-suc, drop-cons, get_or-drop}
use Rattle.laws.specs.{Codec.All, Codec.IfThere, Ordered.Ordered}

pub flat_map_append : {A B : Type 0} (f : A → List B) (a b : List A) → flat_map f (a ++ b) ≡ flat_map f a ++ flat_map f b
unfolding flat_map
flat_map_append f [] b = refl
flat_map_append f (x ∷ a) b = rw (append_assoc (f x) (flat_map f a) (flat_map f b), flat_map_append f a b)

-- what holds of all holds of each member, and back
pub all_member : {A : Type 0} (P : A → Type 0) (l : List A) → All P l → {a : A} → Memᴰ a l → P a
all_member P [] h m = absurd (Memᴰ.not-nil m)
all_member P (x ∷ l) h m = ⊎_elim (λ e. rw e h.0) (λ i. all_member P l h.1 i) (Memᴰ.cases_cons m)

pub all_append : {A : Type 0} (P : A → Type 0) (l m : List A) → All P l → All P m → All P (l ++ m)
all_append P [] m p q = q
all_append P (a ∷ l) m p q = (p.0, all_append P l m p.1 q)

pub of_members : {A : Type 0} (P : A → Type 0) (l : List A) → ((a : A) → Memᴰ a l → P a) → All P l
of_members P [] h = tt
of_members P (a ∷ l) h = (h a (Memᴰ.head refl), of_members P l (λ b m. h b (Memᴰ.tail m)))

-- and of two lists one after the other it holds of each
pub all_parts : {A : Type 0} (P : A → Type 0) (l m : List A) → All P (l ++ m) → All P l × All P m
all_parts P [] m h = (tt, h)
all_parts P (x ∷ l) m h = let (a, b) = all_parts P l m h.1 in ((h.0, a), b)

-- what holds of the answer, if there is one
pub if_there : {A : Type 0} (P : A → Type 0) (o : Option A) → ((a : A) → o ≡ Some a → P a) → IfThere P o
if_there P None h = tt
if_there P (Some a) h = h a refl

module _ {A : Type 0} where
  -- a part of a front of a list is a part of the list
  pub part_part : (l : List A) (n b a : ℕ) → b + a ≤ n → take a (drop b (take n l)) ≡ take a (drop b l)
  part_part l n zero a h = take-take a n l (omega arith)
  part_part l zero (suc b) a h = absurd (omega arith)
  part_part [] (suc n) (suc b) a h = refl
  part_part (x ∷ l) (suc n) (suc b) a h = part_part l n b a (omega arith)

  -- members of a front, and of what is behind it; the last one; one between two parts
  pub front_member : (n : ℕ) (l : List A) {a : A} → Memᴰ a (take n l) → Memᴰ a l
  front_member zero l m = absurd (Memᴰ.not-nil m)
  front_member (suc n) [] m = m
  front_member (suc n) (x ∷ l) m = ⊎_elim (λ e. Memᴰ.head e) (λ i. Memᴰ.tail (front_member n l i)) (Memᴰ.cases_cons m)

  pub back_member : (n : ℕ) (l : List A) {a : A} → Memᴰ a (drop n l) → Memᴰ a l
  back_member zero l m = m
  back_member (suc n) [] m = m
  back_member (suc n) (x ∷ l) m = Memᴰ.tail (back_member n l m)

  pub last_member : (l : List A) {a : A} → last_of l ≡ Some a → Memᴰ a l
  last_member [] {a} e = absurd (none-some a e)
  last_member (x ∷ []) {a} e = Memᴰ.head (sym (same_Some x a e))
  last_member (x ∷ y ∷ l) e = Memᴰ.tail (last_member (y ∷ l) e)

  pub middle_member : {l : List A} {a : A} (before behind : List A) → l ≡ before ++ a ∷ behind → Memᴰ a l
  middle_member before behind e = rw e (Memᴰ.append_right before (Memᴰ.head refl))

  -- a part between two elements
  pub between_two : (l : List A) (d : A) (i j : ℕ) → i < j → j < length l
      → take (j + 1 - i) (drop i l) ≡ get_or l i d ∷ (take (j - (i + 1)) (drop (i + 1) l) ++ (get_or l j d ∷ []))
  between_two l d i j h k =
      let n : j + 1 - i ≡ suc (suc (j - suc i)) = omega arith in
      let m : i + 1 ≡ suc i = omega arith in
      let last : suc i + (j - suc i) ≡ j = omega arith in
      let there : j - suc i < length (drop (suc i) l) = omega (arith, length-drop (suc i) l) in
      rw (n, m, drop-cons l i d (omega arith), take-suc (drop (suc i) l) (j - suc i) d there, get_or-drop (suc i) l (j - suc i) d, last)

  -- two lists in one order that have the same members are equal
  module _ (R : A → A → Type 0) (apart : (a b : A) → R a b → R b a → ⊥) where
    same_head : {a b : A} {l m : List A} → Ordered R (a ∷ l) → Ordered R (b ∷ m) → Memᴰ a (b ∷ m) → Memᴰ b (a ∷ l) → a ≡ b
    same_head {a} {b} o p i j =
        ⊎_elim (λ e. e)
        (λ i. ⊎_elim (λ e. sym e) (λ j. absurd (apart a b (o.0 b j) (p.0 a i))) (Memᴰ.cases_cons j))
        (Memᴰ.cases_cons i)

    inner : {a : A} {l m : List A} → Ordered R (a ∷ l) → ((x : A) → Memᴰ x (a ∷ l) → Memᴰ x (a ∷ m)) → (x : A) → Memᴰ x l → Memᴰ x m
    inner {a} o on x i =
        ⊎_elim (λ e. let r = rw e at (o.0 x i) in absurd (apart a a r r)) (λ j. j) (Memᴰ.cases_cons (on x (Memᴰ.tail i)))

    pub same_members : (l m : List A) → Ordered R l → Ordered R m → ((x : A) → Memᴰ x l → Memᴰ x m) → ((x : A) → Memᴰ x m → Memᴰ x l) →
        l ≡ m
    same_members [] [] o p on back = refl
    same_members [] (b ∷ m) o p on back = absurd (Memᴰ.not-nil (back b (Memᴰ.head refl)))
    same_members (a ∷ l) [] o p on back = absurd (Memᴰ.not-nil (on a (Memᴰ.head refl)))
    same_members (a ∷ l) (b ∷ m) o p on back =
        let e : a ≡ b = same_head o p (on a (Memᴰ.head refl)) (back b (Memᴰ.head refl)) in
        rw (e, same_members l m o.1 p.1 (inner o (rw (← e) at on)) (inner (rw (← e) at p) (rw (← e) at back)))

-- a list stands in another, with elements before and behind it
pub record PartOf {A : Type 0} (x l : List A) : Type 0 where
  pub before : List A
  pub behind : List A
  pub among : l ≡ before ++ (x ++ behind)

module _ {A : Type 0} where
  pub part_whole : (l : List A) → PartOf l l
  part_whole l = record { before = []; behind = []; among = sym (append-nil l) }

  pub part_inner : {x y z : List A} → PartOf x y → PartOf y z → PartOf x z
  part_inner p q = record { before = q.before ++ p.before; behind = p.behind ++ q.behind; among = rw (q.among, p.among) (simp append_assoc) }

  pub part_member : {x l : List A} → PartOf x l → {a : A} → Memᴰ a x → Memᴰ a l
  part_member p m = rw p.among (Memᴰ.append_right p.before (Memᴰ.append_left p.behind m))

  pub part_flat_map : {B : Type 0} (f : B → List A) (l : List B) {b : B} → Memᴰ b l → PartOf (f b) (flat_map f l)
  unfolding flat_map
  part_flat_map f [] m = absurd (Memᴰ.not-nil m)
  part_flat_map f (x ∷ l) m =
      ⊎_elim
      (λ e. record { before = []; behind = flat_map f l; among = rw e })
      (λ i. part_inner (part_flat_map f l i) (record { before = f x; behind = []; among = rw (append-nil (flat_map f l)) }))
      (Memᴰ.cases_cons m)
