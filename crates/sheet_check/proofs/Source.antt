-- Where the source stands in a sheet, by how many bytes are left behind it.
use Rattle.laws.proofs.Prelude.{◌≡◌, List, ◌∷◌, ◌++◌, append_assoc, ℕ, ◌+◌, ◌-◌, arith, length, length-append, take-append_seam, drop-append_seam}
use Rattle.laws.specs.Decoded.{ok}
use Rattle.text.specs.declared.utf8.Encoding.TheVariants.{Utf8}
use Rattle.wire.specs.{Fields.byte, Number.encode_number, Text.text, Text.encode_text}
use Rattle.wire.proofs.TextCodec.{byte_codec, text_codec}
use Rattle.sheet.specs.Limits.{source_limit}
use Rattle.sheet_check.specs.code.Views.{InFront}

between : (before x t s : List ℕ) → s ≡ before ++ (x ++ t) → InFront s x (length t)
between before x t s is =
    let sizes : length s ≡ length before + (length x + length t) = rw is (simp length-append) in
    let start : length s - length t - length x ≡ length before = omega arith in
    let size : length before + length x - length before ≡ length x = omega arith in
    record {
      fits = omega arith;
      stands = rw start (record { inside = omega arith; there = rw (size, is, drop-append_seam, take-append_seam) });
    }

pub source_stands : (s u : List ℕ) {media : ℕ} {x t : List ℕ} → byte s ≡ ok media u → text Utf8 source_limit u ≡ ok x t → InFront s x (length t)
unfolding encode_text
source_stands s u {media} {x} {t} e f =
    let first = (byte_codec.sound s media u e).0 in
    let second = ((text_codec Utf8 source_limit (omega arith)).sound u x t f).0 in
    between (media ∷ encode_number (length x)) x t s (rw (first, second, append_assoc))
