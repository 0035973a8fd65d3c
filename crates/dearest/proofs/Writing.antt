-- What is written is what the whole input asks for, though only its front was read.
use Rattle.std.specs.Prelude.{Some, None}
use Rattle.laws.proofs.Prelude.{◌≡◌, refl, sym, ap, ◌∙◌, List, [], append-nil, ℕ, ◌<◌, arith, length, length-append}
use Rattle.scan.{specs.Dearest.star_and_braces, proofs.Bounds.star_and_braces_lem}
use Rattle.dearest.specs.{Input.Asks, Input.ReadOf, Output.Written, code.Answers.Settles}
use Rattle.dearest.proofs.{Numerals.facts, Requests.asks_short}

module _ {input front : List ℕ} (read : ReadOf input front) where
  all_read : length front < 7 → input ≡ front
  all_read short = read.all ∙ rw (read.ended short) (append-nil front)

  front_short : length input < 7 → length front < 7
  front_short short = omega (arith, ap length read.all, length-append front read.rest)

  pub writes_body : {n : ℕ} {output : List ℕ} → Settles (Asks front) (Some n) → output ≡ star_and_braces n → Written input output
  writes_body {n} {output} s e =
      let same : input ≡ front = all_read (asks_short s.0) in
      let one : (m : ℕ) → Asks input m → m ≡ n = λ m a. s.1 m (rw same at a) in
      record {
        body = λ m a. e ∙ ap star_and_braces (sym (one m a));
        dearest = λ m a. rw (e, ← one m a) (star_and_braces_lem m (facts a.number.0).positive);
        nothing = λ none. absurd (none n (rw same s.0));
      }

  pub writes_nothing : Settles (Asks front) None → Written input []
  writes_nothing s =
      let none : (m : ℕ) → Asks input m → ⊥ = λ m a. s m (rw (all_read (front_short (asks_short a))) at a) in
      record { body = λ m a. absurd (none m a); dearest = λ m a. absurd (none m a); nothing = λ asked. refl }
