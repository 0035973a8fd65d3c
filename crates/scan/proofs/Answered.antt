-- What a body is answered: its scan sum within the bound, or none.
use Rattle.std.specs.Prelude.{Some, None}
use Rattle.std.proofs.lemmas.Option.{same_Some}
use Rattle.laws.proofs.Prelude.{◌≡◌, refl, sym, Bool, true, false, cond, ◌&&◌, List, none-some, ℕ, ◌*◌, ◌≤◌, ◌<◌, leb, length, le-leb}
use Rattle.laws.proofs.Prelude.{lt-leb, leb-true}
use mathlib.Core.Bool.{and-false}
use Rattle.scan.specs.Scan.{scan_sum, star_opened, longest, scanned}
use Rattle.scan.specs.Answers.{Counted}
use Rattle.scan.proofs.Bounds.{small, opened_bound}

module _ (body : List ℕ) where
  pub counted : {n : ℕ} → n ≡ scan_sum body → length body ≤ longest → star_opened body ≡ true → Counted body (Some n)
  unfolding scanned
  counted e short opened = record {
    answer = rw (le-leb _ _ short, opened, e);
    bound = λ s f. rw (sym (same_Some _ _ f), e) (opened_bound body opened);
  }

  nothing : scanned body ≡ None → Counted body None
  nothing e = record { answer = sym e; bound = λ s f. absurd (none-some s f) }

  pub too_long : longest < length body → Counted body None
  unfolding scanned
  too_long h = nothing (rw (lt-leb _ _ h))

  pub not_opened : star_opened body ≡ false → Counted body None
  unfolding scanned
  not_opened e = nothing (rw (e, and-false))

  -- so a sum that was answered is a small number
  pub answered_small : {n : ℕ} → scanned body ≡ Some n → n ≤ longest * longest
  unfolding scanned
  answered_small {n} e = go (leb (length body) longest) (star_opened body) refl e
    where
      go : (a b : Bool) → leb (length body) longest ≡ a → cond (a && b) (Some (scan_sum body)) None ≡ Some n → n ≤ longest * longest
      go true true h e = rw (sym (same_Some _ _ e)) (small body (leb-true _ _ h))
      go true false h e = absurd (none-some n e)
      go false b h e = absurd (none-some n e)
