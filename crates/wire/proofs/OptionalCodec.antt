-- An optional thing is decoded from its bytes, and from nothing else.
use Rattle.std.specs.Prelude.{Some, None}
use Rattle.laws.proofs.Prelude.{refl, inl, inr, List, ℕ}
use Rattle.laws.specs.{Decoded.Decoder, Codec.Codec, Codec.IfThere}
use Rattle.laws.proofs.Codecs.{built_return, built_map, built_if, codec_of}
use Rattle.wire.specs.Optional.{optional, encode_optional}
use Rattle.wire.proofs.TextCodec.{flag_codec}

pub optional_codec : {A : Type 0} {d : Decoder A} {encode : A → List ℕ} {Valid : A → Type 0} → Codec d encode Valid
    → Codec (optional d) (encode_optional encode) (IfThere Valid)
unfolding optional encode_optional
optional_codec k =
    codec_of (built_if flag_codec (built_map (λ a. Some a) k) (built_return None))
    (elim [ None ↦ λ v. (inr tt, refl, tt) | Some a ↦ λ v. (inl a, refl, v) ])
    (elim [ inl a ↦ λ v. (refl, v) | inr u ↦ λ v. (refl, tt) ])
