use Rattle.std.specs.Prelude.{Option, Some, None, MatchOption}
use Rattle.laws.proofs.Prelude.{◌≡◌, ℕ, known, rules}
use Rattle.laws.specs.code.Told.{Bounded}
use Rattle.analysis.specs.declared.Capture.{Capture}
use Rattle.analysis.specs.Place.{FoundWithin}
use Rattle.analysis.specs.Row.{first}
use Rattle.analysis.proofs.{RowSteps.deno_types_row_lem, Search.or_else, Search.either_first}
use Rattle.analysis.proofs.find_deno_types.Goals as goal

pub returns-in_err-b : goal.returns-in_err-b
unfolding first
returns-in_err-b c =
    rw c.from_residual.ensures (record {
      answer = rw (deno_types_row_lem, ← c.run_end-a.ensures.answer, known c.assigned_at.ensures.answer c.in_err-b.was);
      bounds = tt;
    })

-- the first answer x, where it is one, or else r
chosen : (n : ℕ) {x r v w : Option Capture} {P : Type 0} → MatchOption x P (λ k. r ≡ Some k)
    → Bounded (x ≡ v) (FoundWithin x n) → (P → Bounded (r ≡ w) (FoundWithin r n)) → Bounded (r ≡ or_else v w) (FoundWithin r n)
chosen n {x = Some k} m b f = rw m (record { answer = rw (← b.answer); bounds = b.bounds })
chosen n {x = None} m b f = rw (← b.answer) (f m)

pub returns : goal.returns
returns c =
    rw (deno_types_row_lem, ← c.run_end-a.ensures.answer, known c.assigned_at.ensures.answer c.in_ok-b.was, either_first)
    (chosen _ c.or_else.ensures c.quoted_some_at.ensures (λ p. search rules))
