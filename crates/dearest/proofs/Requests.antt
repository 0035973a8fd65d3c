-- What an input asks for, by the numeral in it.
use Rattle.std.specs.Prelude.{Option, Some, None, MatchOption, ◌≢◌}
use Rattle.std.specs.Option.{unwrap_or}
use Rattle.laws.proofs.Prelude.{◌≡◌, refl, sym, ap, ◌∙◌, ◌⊎◌, inl, inr, ⊎_elim, List, [], ◌++◌, ℕ, ◌+◌, ◌<◌, code, arith, length, get_or, length-append}
use denote.Ref.{Bor}
use lib.Seq.{get_or_at}
use Rattle.std.proofs.lemmas.List.{append_cancel_right}
use Rattle.laws.specs.Ascii.{ascii}
use Rattle.dearest.specs.{Input.Digits, Input.Asks, code.Answers.Settles}
use Rattle.dearest.proofs.Numerals.{facts, five}

-- an answer to one question answers another that holds of the same numbers
module _ {P Q : ℕ → Type 0} where
  settles_as : ((n : ℕ) → P n → Q n) → ((n : ℕ) → Q n → P n) → (r : Option ℕ) → Settles P r → Settles Q r
  settles_as to from (Some n) s = (to n s.0, λ m q. s.1 m (from m q))
  settles_as to from None s = λ m q. s m (from m q)

-- how long such an input is
module _ {input : List ℕ} {n : ℕ} (a : Asks input n) where
  sizes : (length input ≡ length a.digits) ⊎ (length input ≡ length a.digits + 1)
  sizes = ⊎_elim (λ e. inl (ap length e)) (λ e. inr (ap length e ∙ length-append a.digits (ascii "\n"))) a.all

  pub asks_short : length input < 7
  asks_short = ⊎_elim (λ e. omega (arith, five a.number)) (λ e. omega (arith, five a.number)) sizes

-- what stands before a last LF, or all of it where there is none
module _ (input : List ℕ) where
  with_lf : (w : List ℕ) → input ≡ w ++ ascii "\n" → (n : ℕ) → Asks input n → Digits w n
  with_lf w e n a = ⊎_elim (λ same. absurd (none same)) (λ cut. rw (append_cancel_right a.digits w (ascii "\n") (sym cut ∙ e)) at a.number) a.all
    where
      -- an LF is no digit
      none : input ≡ a.digits → ⊥
      none same =
          let long : length a.digits ≡ length w + 1 = ap length (sym same ∙ e) ∙ length-append w (ascii "\n") in
          let last : get_or a.digits (length w) 0 ≡ code "\n" = rw (sym same ∙ e) (get_or_at w (code "\n") [] 0 (length w) refl) in
          let d = (facts a.number.0).digits (length w) (omega arith) in
          omega arith

  pub by_suffix : (s : Option (Bor (List ℕ))) → MatchOption s ((front : List ℕ) → input ≢ front ++ ascii "\n") (λ x. input ≡ x.now ++ ascii "\n")
      → (all : Bor (List ℕ)) → all.now ≡ input → (r : Option ℕ) → Settles (Digits (unwrap_or s all).now) r → Settles (Asks input) r
  by_suffix (Some x) e all same r f =
      settles_as (λ n p. record { digits = x.now; number = p; all = inr e }) (with_lf x.now e) r f
  by_suffix None e all same r f =
      settles_as
      (λ n p. record { digits = input; number = p; all = inl refl })
      (λ n a. ⊎_elim (λ same. rw same a.number) (λ cut. absurd (e a.digits cut)) a.all)
      r
      (rw same at f)
