-- A buffer beside a report with zeros behind it; and what an outcome's answer holds.
use Rattle.laws.proofs.Prelude.{◌≡◌, refl, Bool, true, false, ◌&&◌, and-eq-true_iff, List, [], ◌∷◌, ◌++◌, ℕ, ◌+◌, ◌-◌, arith, eqb, length, take, drop, eq-eqb}
use Rattle.laws.proofs.Prelude.{eqb-true}
use Rattle.std.specs.Prelude.{◌==◌, nat_eq}
use Rattle.std.specs.List.{list_all}
use Rattle.std.specs.Cmp.Lexicographic.{pointwise}
use Rattle.text.specs.Bytes.{same}
use Rattle.text.proofs.Words.{same_sound, same_refl}
use Rattle.report.specs.Answer.{Answer, zeros}
use Rattle.replay.specs.Compared.{padded, same_answer}

-- a report, and what is behind it
held : (buffer report behind : List ℕ)
    → same buffer (report ++ behind) ≡ (pointwise nat_eq (take (length report) buffer) report && same (drop (length report) buffer) behind)
unfolding same
held buffer [] behind = refl
held [] (y ∷ report) behind = refl
held (x ∷ buffer) (y ∷ report) behind = rw (held buffer report behind) (go (eqb x y) (pointwise nat_eq (take (length report) buffer) report) _)
  where
    go : (a b c : Bool) → (a && (b && c)) ≡ ((a && b) && c)
    go true b c = refl
    go false b c = refl

zeros_held : (s : List ℕ) → same s (zeros (length s)) ≡ list_all (λ b. b == 0) s
unfolding same
zeros_held [] = refl
zeros_held (b ∷ s) = rw (zeros_held s)

module _ (buffer report : List ℕ) where
  pub other_front : pointwise nat_eq (take (length report) buffer) report ≡ false → same buffer (padded (length buffer) report) ≡ false
  other_front e = rw (held buffer report (zeros (length buffer - length report)), e)

  pub zeros_behind : {behind : List ℕ} → behind ≡ drop (length report) buffer → length behind + length report ≡ length buffer
      → pointwise nat_eq (take (length report) buffer) report ≡ true → same buffer (padded (length buffer) report) ≡ list_all (λ b. b == 0) behind
  zeros_behind {behind} is long e =
      let left : length buffer - length report ≡ length behind = omega arith in
      rw (held buffer report (zeros (length buffer - length report)), e, left, ← is) (zeros_held behind)

made_of : {n m l k : ℕ} {x y : List ℕ} → n ≡ m → l ≡ k → x ≡ y
    → ◌≡◌ {A = Answer} (record { number = n; written = l; buffer = x }) (record { number = m; written = k; buffer = y })
made_of p q r = rw (p, q, r)

-- two answers are the same just where they are equal
same_answer_iff : (a b : Answer) → (same_answer a b ≡ true → a ≡ b) × (a ≡ b → same_answer a b ≡ true)
same_answer_iff a b = (
  λ e.
      let (n, m) = (and-eq-true_iff (eqb a.number b.number) (eqb a.written b.written && same a.buffer b.buffer)).0 e in
      let (l, s) = (and-eq-true_iff (eqb a.written b.written) (same a.buffer b.buffer)).0 m in
      made_of (eqb-true a.number b.number n) (eqb-true a.written b.written l) (same_sound a.buffer b.buffer s),
  λ e. rw (e, eq-eqb b.number b.number refl, eq-eqb b.written b.written refl) (same_refl b.buffer),
)
