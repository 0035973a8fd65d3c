-- Decoders whose values have fields: a value that is answered has its fields in front of the bytes, unbroken, and a refusal is met at a field of some value.
use Rattle.laws.proofs.Prelude.{◌≡◌, refl, sym, ap, ◌∙◌, ⊎_elim, Bool, List, [], ◌∷◌, ◌++◌, append_assoc, flat_map, ℕ, ◌<◌}
use mathlib.Core.Path.{subst}
use Rattle.laws.specs.Decoded.{Decoded, ok, no, and_then, on_ok, Decoder, ◌>>=◌, ◌>>◌, return, require}
use Rattle.laws.{specs.Codec.All, proofs.Lists.flat_map_append, proofs.Lists.all_append}
use Rattle.laws.proofs.Decoding.{refused, then_ok, then_refused, on_ok_ok, on_ok_no, then_then}
use Rattle.sheet_codec.specs.Field.{Field, Entry}
use Rattle.sheet_codec.specs.Breaks.{Breaks, Unbroken, bytes_of, Meets}

-- the fields stand in front of the bytes s, unbroken, and u is left
pub record Passes (fields : List Entry) (s u : List ℕ) : Type 0 where
  pub unbroken : All Unbroken fields
  pub bytes : s ≡ flat_map bytes_of fields ++ u

-- fields, and others behind them
passes_more : {l m : List Entry} {s u v : List ℕ} → Passes l s u → Passes m u v → Passes (l ++ m) s v
passes_more {l = l} {m = m} {v = v} p q =
    record {
      unbroken = all_append Unbroken l m p.unbroken q.unbroken;
      bytes = rw (flat_map_append bytes_of l m, append_assoc (flat_map bytes_of l) (flat_map bytes_of m) v, ← q.bytes) p.bytes;
    }

-- a refusal that is met stays met where more fields follow
meets_first : {l : List Entry} {s : List ℕ} {r : ℕ} (m : List Entry) → Meets l s r → Meets (l ++ m) s r
meets_first m h =
    record {
      front = h.front;
      at = h.at;
      back = h.back ++ m;
      among = ap (◌++ m) h.among ∙ append_assoc h.front (h.at ∷ h.back) m;
      unbroken = h.unbroken;
      rest = h.rest;
      bytes = h.bytes;
      breaks = h.breaks;
      lowest = h.lowest;
    }

-- and where others stand in front
meets_later : {l m : List Entry} {s u : List ℕ} {r : ℕ} → Passes l s u → Meets m u r → Meets (l ++ m) s r
meets_later {l = l} p h =
    record {
      front = l ++ h.front;
      at = h.at;
      back = h.back;
      among = ap (l ++◌) h.among ∙ sym (append_assoc l h.front (h.at ∷ h.back));
      unbroken = all_append Unbroken l h.front p.unbroken h.unbroken;
      rest = h.rest;
      bytes = rw (flat_map_append bytes_of l h.front, append_assoc (flat_map bytes_of l) (flat_map bytes_of h.front) h.rest, ← h.bytes) p.bytes;
      breaks = h.breaks;
      lowest = h.lowest;
    }

-- a decoder, and the fields that a value of it has
pub record Judges {A : Type 0} (d : Decoder A) (Has : A → List Entry → Type 0) : Type 0 where
  pub some : (a : A) × (l : List Entry) × Has a l
  pub passes : (s : List ℕ) (a : A) (u : List ℕ) → d s ≡ ok a u → (l : List Entry) × Has a l × Passes l s u
  pub refuses : (s : List ℕ) (r : ℕ) → d s ≡ no r → (a : A) × (l : List Entry) × Has a l × Meets l s r

-- the fields are a function of the value, and the value is one of these
abbrev pub FieldsOf : {A : Type 0} → Decoder A → (A → Type 0) → (A → List Entry) → Type 0
FieldsOf d Of fields = Judges d (λ a l. Of a × (l ≡ fields a))

-- every value
abbrev pub Any : {A : Type 0} → A → Type 0
Any a = Unit {0}

module _ {A : Type 0} {Has : A → List Entry → Type 0} where
  -- nothing more is read
  pub ends : (a : A) → Has a [] → Judges (return a) Has
  unfolding flat_map
  ends a h = record {
    some = (a, [], h);
    passes = λ s b u e. let i : a ≡ b = cc in let j : s ≡ u = cc in ([], rw (← i) h, record { unbroken = tt; bytes = j });
    refuses = λ s r e. absurd (refused (sym e));
  }

  -- the same decoder in other words, the same fields in other words
  pub same : {d e : Decoder A} → ((s : List ℕ) → d s ≡ e s) → Judges e Has → Judges d Has
  same i k = record { some = k.some; passes = λ s a u q. k.passes s a u (sym (i s) ∙ q); refuses = λ s r q. k.refuses s r (sym (i s) ∙ q) }

  pub has : {d : Decoder A} {Has' : A → List Entry → Type 0} → Judges d Has' → ((a : A) (l : List Entry) → Has' a l → Has a l) → Judges d Has
  has k f = record {
    some = let (a, l, h) = k.some in (a, l, f a l h);
    passes = λ s a u q. let (l, h, p) = k.passes s a u q in (l, f a l h, p);
    refuses = λ s r q. let (a, l, h, m) = k.refuses s r q in (a, l, f a l h, m);
  }

-- a decoder, and then another, whose fields stand behind
module _ {A B : Type 0} {d : Decoder A} {HasA : A → List Entry → Type 0} {Has : B → List Entry → Type 0} (k : Judges d HasA) where
  pub with : {e : A → Decoder B} → ((a : A) (l : List Entry) → HasA a l → Judges (e a) (λ b m. Has b (l ++ m))) → Judges (d >>= e) Has
  with {e} f = record {
    some = let (a, l, h) = k.some in let (b, m, i) = (f a l h).some in (b, l ++ m, i);
    passes = λ s b v q.
        let (a, u, x, y) = then_ok (d s) e q in
        let (l, h, p) = k.passes s a u x in
        let (m, i, p') = (f a l h).passes u b v y in
        (l ++ m, i, passes_more p p');
    refuses = λ s r q. ⊎_elim
        (λ x.
        let (a, l, h, n) = k.refuses s r x in
        let (b, m, i) = (f a l h).some in
        (b, l ++ m, i, meets_first m n))
        (λ (a, u, x, y).
        let (l, h, p) = k.passes s a u x in
        let (b, m, i, n) = (f a l h).refuses u r y in
        (b, l ++ m, i, meets_later p n))
        (then_refused (d s) e q);
  }

  -- its value changed
  pub map : (f : A → B) → ((a : A) (l : List Entry) → HasA a l → Has (f a) l) → Judges (λ s. on_ok f (d s)) Has
  map f h = record {
    some = let (a, l, i) = k.some in (f a, l, h a l i);
    passes = λ s b u q.
        let (a, x, i) = on_ok_ok f (d s) q in
        let (l, j, p) = k.passes s a u x in
        (l, subst (λ b. Has b l) i (h a l j), p);
    refuses = λ s r q. let (a, l, i, n) = k.refuses s r (on_ok_no f (d s) q) in (f a, l, h a l i, n);
  }

-- fields, and then others behind them
module _ {A B : Type 0} {d : Decoder A} {Of : A → Type 0} {fields : A → List Entry} {Has : B → List Entry → Type 0} where
  pub then : {e : A → Decoder B} → FieldsOf d Of fields → ((a : A) → Of a → Judges (e a) (λ b l. Has b (fields a ++ l))) → Judges (d >>= e) Has
  then k f = with k (λ a l h. rw h.1 (f a h.0))

  -- the last ones
  pub last : (f : A → B) → FieldsOf d Of fields → ((a : A) → Of a → Has (f a) (fields a)) → Judges (d >>= λ a. return (f a)) Has
  last f k h = same (λ s. change (d s)) (map k f (λ a l i. rw i.1 (h a i.0)))
    where
      change : (x : Decoded A) → and_then x (λ a. return (f a)) ≡ on_ok f x
      change (ok a t) = refl
      change (no r) = refl

-- a field with a test at its end, and then others
module _ {A B : Type 0} (d : Decoder A) {Of : A → Type 0} {fields : A → List Entry} {Has : B → List Entry → Type 0} (test : A → Bool) (r : ℕ) where
  pub then_tested : {e : A → Decoder B} → FieldsOf (d >>= λ a. require (test a) r >> return a) Of fields
      → ((a : A) → Of a → Judges (e a) (λ b l. Has b (fields a ++ l)))
      → Judges (d >>= λ a. require (test a) r >> e a) Has
  then_tested k f = same (λ s. simp then_then) (then k f)

-- a refusal at the first field
pub meets_here : {s : List ℕ} {r : ℕ} (e : Entry) (l : List Entry) → Breaks e.field s r × ((q : ℕ) → q < r → Breaks e.field s q → ⊥) → Meets (e ∷ l) s r
unfolding flat_map
meets_here {s = s} e l h = record { front = []; at = e; back = l; among = refl; unbroken = tt; rest = s; bytes = refl; breaks = h.0; lowest = h.1 }

-- one field
pub field : {A : Type 0} {d : Decoder A} {Of : A → Type 0} (f : Field) (bytes : A → List ℕ) (a : A) → Of a
    → ((s : List ℕ) (a : A) (u : List ℕ) → d s ≡ ok a u → Of a × (s ≡ bytes a ++ u) × Unbroken (record { field = f; bytes = bytes a }))
    → ((s : List ℕ) (r : ℕ) → d s ≡ no r → Breaks f s r × ((q : ℕ) → q < r → Breaks f s q → ⊥))
    → FieldsOf d Of (λ a. record { field = f; bytes = bytes a } ∷ [])
unfolding flat_map
field f bytes a of passes refuses = record {
  some = (a, _, (of, refl));
  passes = λ s b u e.
      let (h, i, n) = passes s b u e in
      (_, (h, refl), record { unbroken = (n, tt); bytes = i ∙ sym (append_assoc (bytes b) [] u) });
  refuses = λ s r e.
      (a, _, (of, refl), meets_here _ [] (refuses s r e));
}
