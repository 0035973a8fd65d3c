use Rattle.laws.proofs.Prelude.{◌≡◌, ◌∙◌, sym, true≢false, false, ap, not, ℕ, Option}
use Rattle.std.specs.Prelude.{Some, None, is_some, MatchOption}
use Rattle.report.proofs.Lossy.{plain}
use Rattle.report.proofs.writer.Writer.put_lossy.Goals as goal

of_none : {P : Type 0} (Q : ℕ → Type 0) (o : Option ℕ) → is_some o ≡ false → MatchOption o P Q → P
of_none Q None e h = h
of_none Q (Some x) e h = absurd (true≢false e)

pub returns-then-is_none : goal.returns-then-is_none
returns-then-is_none c =
    let missing = of_none _ c.next_of.result (c.is_none.ensures ∙ ap not c.if-is_none.true) c.next_of.ensures in
    let p = plain c.args.s.now missing in
    record { answer = rw p.0 c.put_bytes.ensures; replaced = sym p.1 }
