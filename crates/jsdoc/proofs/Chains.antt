-- What a chain of parsers that reads says of its links.
use Rattle.laws.proofs.Prelude.{◌≡◌, refl, Bool, true, false, cond, ℕ, arith}
use Rattle.jsdoc.specs.Grammar.{Bytes}
use Rattle.jsdoc.specs.Parsed.{Parsed, ok, backtrace, on_parsed}

pub never : {A : Type 0} {a : A} {t : Bytes} → ◌≡◌ {A = Parsed A} backtrace (ok a t) → ⊥
never e = let z : ◌≡◌ {A = ℕ} 0 1 = cc in omega arith

-- what never reads is a backtrace
pub no_reading : {A : Type 0} (o : Parsed A) → ((a : A) (t : Bytes) → o ≡ ok a t → ⊥) → o ≡ backtrace
no_reading (ok a t) h = absurd (h a t refl)
no_reading backtrace h = refl

-- a link of a chain that reads reads, and the links behind it go on from that
pub then_ok : {A B : Type 0} (x : Parsed A) (f : A → Bytes → Parsed B) {b : B} {t : Bytes} → on_parsed x f backtrace ≡ ok b t
    → (a : A) × (u : Bytes) × (x ≡ ok a u) × (f a u ≡ ok b t)
then_ok (ok a u) f e = (a, u, refl, e)
then_ok backtrace f e = absurd (never e)

pub if_ok : {A : Type 0} (b : Bool) (o : Parsed A) {a : A} {t : Bytes} → cond b o backtrace ≡ ok a t → (b ≡ true) × (o ≡ ok a t)
if_ok true o e = (refl, e)
if_ok false o e = absurd (never e)
