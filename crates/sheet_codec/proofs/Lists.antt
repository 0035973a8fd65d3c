-- Codecs of items one after the other.
use Rattle.laws.proofs.Prelude.{◌≡◌, refl, sym, ap, ◌∙◌, ◌⊎◌, inl, inr, List, [], ◌∷◌, ◌++◌, append_assoc, ℕ, zero, suc, arith}
use Rattle.laws.specs.Decoded.{ok, Decoder, ◌>>=◌}
use Rattle.laws.{specs.Codec.Codec, proofs.Decoding.then_ok, proofs.Decoding.on_ok_ok, proofs.Codecs.Built}
use Rattle.wire.{specs.Fields.byte, proofs.TextCodec.byte_codec}
use Rattle.sheet.specs.Nodes.{many}

-- lists that are built by items which add to them
module _ {L : Type 0} (size : L → ℕ) (encode : L → List ℕ) (Valid : L → Type 0) where
  -- a function adds an item of these bytes to a list
  abbrev Adds : (L → L) → List ℕ → Type 0
  Adds f e = (l : L) → (size (f l) ≡ suc (size l)) × (encode (f l) ≡ e ++ encode l) × (Valid l → Valid (f l))

  -- what is decoded adds an item, whose bytes are those in front and what was read
  abbrev pub AddsItem : List ℕ → Decoder (L → L) → Type 0
  AddsItem front d = (s : List ℕ) (f : L → L) (t : List ℕ) → d s ≡ ok f t → (e : List ℕ) × (front ++ s ≡ e ++ t) × Adds f e

  -- a list is the empty one, or an item, which is decoded from its bytes, is added to another
  abbrev pub Opens : L → Decoder (L → L) → L → Type 0
  Opens end item l =
      (l ≡ end)
      ⊎ ((f : L → L) × (k : L) × (e : List ℕ) × (f k ≡ l) × (size l ≡ suc (size k)) × (encode l ≡ e ++ encode k) × Valid k ×
      ((t : List ℕ) → item (e ++ t) ≡ ok f t))

  pub record Items (end : L) (item : Decoder (L → L)) : Type 0 where
    pub empty : (size end ≡ 0) × (encode end ≡ []) × Valid end
    pub reads : AddsItem [] item
    pub opens : (l : L) → Valid l → Opens end item l

  pub reads_built : {A : Type 0} {d : Decoder (L → L)} {build : A → L → L} {bytes : A → List ℕ} {ValidItem : A → Type 0} → Built d build bytes ValidItem
      → (front : List ℕ)
      → ((a : A) → ValidItem a → Adds (build a) (front ++ bytes a))
      → AddsItem front d
  reads_built {bytes} k front adds s f t e =
      let (a, p, i, v) = k.sound s f t e in
      rw (← p) (front ++ bytes a, ap (front ++◌) i ∙ sym (append_assoc front (bytes a) t), adds a v)

  pub reads_byte : (front : List ℕ) {g : ℕ → Decoder (L → L)} → ((b : ℕ) → AddsItem (front ++ (b ∷ [])) (g b)) → AddsItem front (byte >>= g)
  reads_byte front {g} r s f t e =
      let (b, u, x, e) = then_ok (byte s) g e in
      let (i, v) = byte_codec.sound s b u x in
      rw (i, ← append_assoc front (b ∷ []) u) (r b u f t e)

  module _ {end : L} {item : Decoder (L → L)} (h : Items end item) where
    written : (k : ℕ) (l : L) → size l ≡ k → Valid l → (t : List ℕ) → many end item k (encode l ++ t) ≡ ok l t
    unfolding many
    written zero l n v t = go (h.opens l v)
      where
        go : Opens end item l → ok end (encode l ++ t) ≡ ok l t
        go (inl e) = rw (e, h.empty.1)
        go (inr (f, k, e, p, m, i, w, c)) = absurd (omega (arith, m))
    written (suc j) l n v t = go (h.opens l v) (λ k m w. written j k m w t)
      where
        go : Opens end item l → ((k : L) → size k ≡ j → Valid k → many end item j (encode k ++ t) ≡ ok k t) → many end item (suc j) (encode l ++ t) ≡ ok l t
        go (inl e) down = absurd (omega (arith, ap size e, h.empty.0))
        go (inr (f, k, e, p, m, i, w, c)) down = rw (i, append_assoc e (encode k) t, c (encode k ++ t), down k (omega (arith, m)) w, p)

    read : (k : ℕ) (s : List ℕ) (l : L) (t : List ℕ) → many end item k s ≡ ok l t → (s ≡ encode l ++ t) × ((size l ≡ k) × Valid l)
    unfolding many
    read zero s l t e =
        let p : end ≡ l = cc in
        let q : s ≡ t = cc in
        rw (← p, h.empty.1, q) (refl, (h.empty.0, h.empty.2))
    read (suc k) s l t e =
        let (f, u, x, e) = then_ok (item s) _ e in
        let (m, y, p) = on_ok_ok f (many end item k u) e in
        let (b, i, adds) = h.reads s f u x in
        let (j, (n, v)) = read k u m t y in
        let (longer, bytes, valid) = adds m in
        rw (← p, longer, bytes, n) (i ∙ ap (b ++◌) j ∙ sym (append_assoc b (encode m) t), (refl, valid v))

    pub many_codec : (k : ℕ) → Codec (many end item k) encode (λ l. (size l ≡ k) × Valid l)
    many_codec k = record { complete = λ l v. written k l v.0 v.1; sound = read k }
