-- A character whose code point meets a test: the relation and the reader agree, for every list. So do a character of a class and `class_at`.
use Rattle.laws.proofs.Prelude.{◌≡◌, refl, sym, ap, ◌∙◌, Bool, true, false, cond, List, ◌↔◌, ℕ, ◌+◌, ◌<◌, arith, length, drop, length-append}
use Rattle.laws.proofs.Prelude.{length-drop, drop-append_seam, drop-drop}
use Rattle.text.specs.{declared.class.Class.Class, declared.utf8.Char.Char, declared.utf8.Encoding.TheVariants.Utf8, Encode.encode}
use Rattle.text.specs.Utf8.{char_length, char_at, formed}
use Rattle.text.specs.{Class.member, Class.length_if, Class.class_at, Position.Boundary}
use Rattle.text.specs.Characters.{OneWith, OneOf, Stands}
use Rattle.text.proofs.{CodePoint.nonempty, Cuts.between, Runs.if_fits, Reader.reader_sound, Reader.reader_complete}

module _ {P : ℕ → Type 0} where
  -- a character is more than nothing
  pub with_shorter : {s t : List ℕ} → OneWith P s t → length t < length s
  with_shorter {t} r = omega (arith, nonempty r.point, ap length r.all, length-append (encode r.point) t)

  -- it goes from its place to the next
  pub stands_length : {s : List ℕ} {at end : ℕ} (r : Stands (OneWith P) s at end) → end ≡ at + length (encode r.piece.point)
  stands_length {s} {at} {end} r =
      let p = r.piece.point in
      omega (arith, r.inside, nonempty p, ap length r.piece.all, length-append (encode p) (drop end s), length-drop at s, length-drop end s)

  -- in a well-formed text between two boundaries
  pub stands_between : (s : List ℕ) → formed Utf8 0 s ≡ true → {at end : ℕ} → Stands (OneWith P) s at end → Boundary s at × Boundary s end
  unfolding char_at
  stands_between s f {at} {end} r =
      let p = r.piece.point in
      let n : length (encode p) ≡ char_length Utf8 (drop at s) =
      rw r.piece.all (sym (ap (λ (x : Char). x.len) (reader_complete p (drop end s) r.piece.among))) in
      rw (stands_length r) (between s f at (length (encode p)) n (λ z. omega (arith, nonempty p)))

module _ {P : ℕ → Type 0} (test : ℕ → Bool) (meets : (p : ℕ) → (test p ≡ true) ↔ P p) where
  with_sound : (s : List ℕ) → (length_if test s ≡ 0 → ⊥) → OneWith P s (drop (length_if test s) s)
  unfolding char_at
  with_sound s = go (test (char_at Utf8 s).code) refl
    where
      go : (b : Bool) → test (char_at Utf8 s).code ≡ b → (cond b (char_at Utf8 s).len 0 ≡ 0 → ⊥) → OneWith P s (drop (cond b (char_at Utf8 s).len 0) s)
      go false e z = absurd (z refl)
      go true e z =
          let (p, r) = reader_sound Utf8 s z in
          record { point = p; among = r.among; meets = (meets p).0 (sym (ap (λ (x : Char). test x.code) r.read) ∙ e); all = r.begins }

  with_length : {s t : List ℕ} (r : OneWith P s t) → length_if test s ≡ length (encode r.point)
  with_length {s} {t} r = rw (r.all, reader_complete r.point t r.among, (meets r.point).1 r.meets)

  with_complete : {s t : List ℕ} → OneWith P s t → (length_if test s ≡ 0 → ⊥) × (drop (length_if test s) s ≡ t)
  with_complete {s} {t} r = (
    λ z. omega (arith, nonempty r.point, with_length r),
    rw (with_length r) (rw r.all (drop-append_seam (encode r.point) t)),
  )

  -- at a place of a text
  pub stands_sound : (s : List ℕ) (at : ℕ) → (length_if test (drop at s) ≡ 0 → ⊥) → Stands (OneWith P) s at (at + length_if test (drop at s))
  stands_sound s at z = record { inside = omega (arith, if_fits test (drop at s), length-drop at s); piece = rw drop-drop at (with_sound (drop at s) z) }

  pub stands_complete : (s : List ℕ) (at : ℕ) {end : ℕ} → Stands (OneWith P) s at end
      → (length_if test (drop at s) ≡ 0 → ⊥) × (end ≡ at + length_if test (drop at s))
  stands_complete s at r = ((with_complete r.piece).0, stands_length r ∙ ap (at +◌) (sym (with_length r.piece)))

-- a character of a class
module _ (c : Class) where
  pub one_sound : (s : List ℕ) → (class_at c s ≡ 0 → ⊥) → OneOf c s (drop (class_at c s) s)
  unfolding class_at
  one_sound = with_sound (member c) (λ p. (λ h. h, λ h. h))

  pub one_complete : {s t : List ℕ} → OneOf c s t → (class_at c s ≡ 0 → ⊥) × (drop (class_at c s) s ≡ t)
  unfolding class_at
  one_complete = with_complete (member c) (λ p. (λ h. h, λ h. h))

  pub one_stands : (s : List ℕ) (at : ℕ) → (class_at c (drop at s) ≡ 0 → ⊥) → Stands (OneOf c) s at (at + class_at c (drop at s))
  unfolding class_at
  one_stands = stands_sound (member c) (λ p. (λ h. h, λ h. h))

  pub one_there : (s : List ℕ) (at : ℕ) {end : ℕ} → Stands (OneOf c) s at end
      → (class_at c (drop at s) ≡ 0 → ⊥) × (end ≡ at + class_at c (drop at s))
  unfolding class_at
  one_there = stands_complete (member c) (λ p. (λ h. h, λ h. h))
