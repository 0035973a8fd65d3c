use Rattle.laws.proofs.Prelude.{refl, sym, ◌∙◌, false≢true, inl, inr, ⊎_elim, arith}
use Rattle.ecma426.proofs.{WhiteSpace.answers}
use Rattle.ecma426.proofs.is_space.Goals as goal

pub returns-in-65279 : goal.returns-in-65279
returns-in-65279 c = answers (λ e. inr c.in-65279.is) (λ u. refl)

pub returns-in-133 : goal.returns-in-133
returns-in-133 c = answers (λ e. absurd (false≢true e)) (⊎_elim (λ (w, n). absurd (n c.in-133.is)) (λ e. absurd (omega (arith, e, c.in-133.is))))

pub returns-in_default : goal.returns-in_default
returns-in_default c =
    answers
    (λ e. inl (sym c.is_white_space.ensures ∙ e, λ i. absurd (omega arith)))
    (⊎_elim (λ (w, n). c.is_white_space.ensures ∙ w) (λ e. absurd (omega (arith, e))))
