-- What the fields' decoders answer at the front of a list.
use Rattle.std.specs.Prelude.{Ok}
use Rattle.std.specs.Borrow.{Bor}
use Rattle.std.proofs.lemmas.List.{take_rest}
use Rattle.laws.proofs.Prelude.{◌≡◌, refl, ◌∙◌, List, [], ◌∷◌, ℕ, ◌-◌, ◌≤◌, ◌<◌, arith, length, length-drop, get_or, take, drop}
use Rattle.laws.{specs.Decoded.Decoded, specs.Decoded.ok, specs.Decoded.no, specs.code.Told.Told, proofs.Decoding.refused}
use Rattle.wire.specs.Fields.{byte}
use Rattle.wire.specs.code.Views.{read_as, Past}

pub byte_none : (s : List ℕ) → length s < 1 → byte s ≡ no 2
unfolding byte
byte_none [] h = refl
byte_none (b ∷ s) h = absurd (omega arith)

pub byte_front : (s : List ℕ) → 1 ≤ length s → byte s ≡ ok (get_or s 0 0) (drop 1 s)
unfolding byte
byte_front [] h = absurd (omega arith)
byte_front (b ∷ s) h = refl

pub byte_small : (s : List ℕ) {b : ℕ} {t : List ℕ} → byte s ≡ ok b t → ((i : ℕ) → get_or s i 0 < 256) → b < 256
unfolding byte
byte_small [] e h = absurd (refused e)
byte_small (a ∷ s) {b} e h = let same : a ≡ b = cc in omega (arith, h 0)

-- what is read of the first n bytes, with what a pattern leaves behind them
pub behind_front : (s : List ℕ) (n : ℕ) {v : ℕ} {next : Bor (List ℕ)} {value : Decoded ℕ} → next.now ≡ take (length s - n) (drop n s) → 0 < n
    → n ≤ length s
    → value ≡ ok v (drop n s)
    → Told read_as value (Past (length s)) (Ok (v, next))
behind_front s n {v} is some h e =
    let rest = is ∙ take_rest s n in
    record { answer = rw (e, rest); bounds = rw rest (omega (arith, length-drop n s)) }
