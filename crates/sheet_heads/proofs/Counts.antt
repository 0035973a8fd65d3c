-- A number and a count keep within their limits.
use Rattle.laws.proofs.Prelude.{◌≡◌, List, ℕ, ◌≤◌}
use Rattle.laws.specs.Decoded.{ok}
use Rattle.wire.specs.{Number.largest, Number.number, Text.count}
use Rattle.wire.proofs.{NumberCodec.number_codec, TextCodec.count_codec}

pub number_within : (s : List ℕ) {n : ℕ} {t : List ℕ} → number s ≡ ok n t → n ≤ largest
number_within s e = (number_codec.sound s _ _ e).1

pub count_within : (limit : ℕ) (s : List ℕ) {n : ℕ} {t : List ℕ} → count limit s ≡ ok n t → n ≤ limit
count_within limit s e = ((count_codec limit).sound s _ _ e).1.0
