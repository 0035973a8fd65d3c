use Rattle.laws.proofs.Prelude.{refl, ◌≡◌, ◌∙◌, Bool, ℕ, get_or}
use Rattle.text.specs.Class.{length_if}
use Rattle.text.proofs.{Ascii.ascii_if, Runs.if_fits}
use Rattle.text.proofs.class.length_if.Goals as goal

pub returns-in-len1-up : goal.returns-in-len1-up
returns-in-len1-up g c =
    let s = c.args.s.now in
    let as_test : (p : ℕ → Bool) → c.test.result ≡ p (get_or s 0 0) → c.from-in-len1-up.result ≡ length_if p s =
    λ p e. c.from-in-len1-up.ensures ∙ ascii_if p s c.in-len1-up.len_at_least c.if-b-lt128.true e in
    record {
      answer = λ p says. as_test p (rw c.from.ensures at (says _ _ c.test.ensures));
      bounds = rw (as_test (λ x. c.test.result) refl) (if_fits (λ x. c.test.result) s);
    }
