-- Decimal numerals: what holds of each, and how one is read from the front.
use Rattle.laws.proofs.Prelude.{◌≡◌, refl, sym, ap, ◌∙◌, ◌⊎◌, inl, inr, ⊎_elim, List, [], ◌∷◌, ◌++◌, ℕ, ◌+◌, ◌-◌, ◌*◌, ◌≤◌, ◌<◌, code, arith, add-one}
use Rattle.laws.proofs.Prelude.{length, get_or, take, drop, length-append, length-take-le, drop-cons, take_all}
use Prim.Native.Nat.{◌^◌}
use native.Mathlib.Nat.{pow-suc, pow-le-pow_right, lt_of_not-le}
use lib.{ListN.get_or-append, Seq.take-suc, Seq.get_or-append_seam}
use borrow.Author.Count.{below_none, below_more}
use Rattle.scan.specs.Scan.{longest}
use Rattle.dearest.specs.Input.{Numeral, first, next, Digits}

-- the number n with the digit x behind it, and with the digits w
abbrev pub behind : ℕ → ℕ → ℕ
behind n x = 10 * n + (x - code "0")

unfoldable pub after : ℕ → List ℕ → ℕ
after n [] = n
after n (x ∷ w) = after (behind n x) w

after_grows : (n : ℕ) (w : List ℕ) → n ≤ after n w
unfolding after
after_grows n [] = omega arith
after_grows n (x ∷ w) = omega (arith, after_grows (behind n x) w)

after_one : (n : ℕ) (w : List ℕ) (d : ℕ) → after n (w ++ ((code "0" + d) ∷ [])) ≡ 10 * after n w + d
unfolding after
after_one n [] d = omega arith
after_one n (x ∷ w) d = after_one (behind n x) w d

abbrev pub Digit : ℕ → Type 0
Digit x = (code "0" ≤ x) × (x ≤ code "9")

-- what holds of a numeral
pub record Facts (w : List ℕ) (n : ℕ) : Type 0 where
  pub some : 0 < length w
  pub digits : (k : ℕ) → k < length w → Digit (get_or w k 0)
  pub no_zero : get_or w 0 0 ≡ code "0" → ⊥
  pub positive : 0 < n
  pub value : n ≡ after 0 w
  pub size : 10 ^ length w ≤ 10 * n

module _ {w : List ℕ} {n : ℕ} (f : Facts w n) (d : ℕ) (high : d ≤ 9) where
  one_more : Facts (w ++ ((code "0" + d) ∷ [])) (10 * n + d)
  one_more =
      let more : List ℕ = (code "0" + d) ∷ [] in
      let long : length (w ++ more) ≡ length w + 1 = length-append w more in
      let last : Digit (get_or (w ++ more) (length w) 0) = rw (get_or-append_seam w (code "0" + d) [] 0) (omega arith, omega arith) in
      record {
        some = omega arith;
        digits = rw long (below_more (λ k. Digit (get_or (w ++ more) k 0)) (length w) (λ k l. rw (get_or-append w more 0 k l) (f.digits k l)) last);
        no_zero = rw (get_or-append w more 0 0 f.some) f.no_zero;
        positive = omega (arith, f.positive);
        value = rw (after_one 0 w d, ← f.value);
        size = rw (long, add-one, pow-suc) (omega (arith, f.size));
      }

pub facts : {w : List ℕ} {n : ℕ} → Numeral w n → Facts w n
unfolding after
facts (first d low high) =
    record {
      some = omega arith;
      digits = below_more (λ k. Digit (get_or ((code "0" + d) ∷ []) k 0)) 0 (below_none _) (omega arith, omega arith);
      no_zero = λ e. omega arith;
      positive = low;
      value = omega arith;
      size = omega arith;
    }
facts (next m d high) = one_more (facts m) d high

-- so a number up to 32,764 has at most five digits
pub five : {w : List ℕ} {n : ℕ} → Digits w n → length w < 6
five {w} (m, small) = lt_of_not-le (λ (long : 6 ≤ length w).
    let much : 10 ^ 6 ≤ 10 ^ length w = pow-le-pow_right (omega arith) long in
    omega (arith, (facts m).size))

-- what is read of a numeral so far: nothing, or a numeral
abbrev SoFar : List ℕ → ℕ → Type 0
SoFar w n = ((w ≡ []) × (n ≡ 0)) ⊎ Numeral w n

one_digit : {w : List ℕ} {n : ℕ} (x : ℕ) → Digit x → (behind n x ≡ 0 → ⊥) → SoFar w n → Numeral (w ++ (x ∷ [])) (behind n x)
one_digit {w} {n} x digit some =
    let d : ℕ = x - code "0" in
    let is : code "0" + d ≡ x = omega arith in
    ⊎_elim
    (λ p. let v : 10 * n + d ≡ d = omega arith in rw (p.0, v) (rw is at (first d (omega arith) (omega arith))))
    (λ m. rw is at (next m d (omega arith)))

-- the digits w read up to the place i, with the number n
pub record ReadUpTo (w : List ℕ) (i n : ℕ) : Type 0 where
  pub inside : i ≤ length w
  pub small : n ≤ longest
  pub so_far : SoFar (take i w) n
  pub goes_on : after 0 w ≡ after n (drop i w)

pub begin : (w : List ℕ) → ReadUpTo w 0 0
begin w = record { inside = omega arith; small = omega arith; so_far = inl (refl, refl); goes_on = refl }

-- w has no such digits
abbrev None : List ℕ → Type 0
None w = (m : ℕ) → Digits w m → ⊥

module _ {w : List ℕ} {i n : ℕ} (r : ReadUpTo w i n) where
  pub finished : 0 < length w → length w ≤ i → Digits w n × ((m : ℕ) → Digits w m → m ≡ n)
  finished some end =
      let whole : take i w ≡ w = take_all i w end in
      let nothing : take i w ≡ [] → ⊥ = λ none. omega (arith, ap length (sym whole ∙ none)) in
      let numeral : Numeral w n = ⊎_elim (λ p. absurd (nothing p.0)) (λ q. rw whole at q) r.so_far in
      ((numeral, r.small), λ m h. (facts h.0).value ∙ sym (facts numeral).value)

  module _ (more : i < length w) where
    pub no_digit : (Digit (get_or w i 0) → ⊥) → None w
    no_digit not m h = not ((facts h.0).digits i more)

    value_on : after 0 w ≡ after (behind n (get_or w i 0)) (drop (i + 1) w)
    unfolding after
    value_on = r.goes_on ∙ rw (add-one, drop-cons w i 0 more)

    pub too_large : longest < behind n (get_or w i 0) → None w
    too_large large m h = omega (arith, (facts h.0).value, value_on, after_grows (behind n (get_or w i 0)) (drop (i + 1) w))

    module _ (d : Digit (get_or w i 0)) where
      pub zero_first : behind n (get_or w i 0) ≡ 0 → None w
      zero_first e m h =
          let zero : get_or w i 0 ≡ code "0" = omega arith in
          let front : take i w ≡ [] → i ≡ 0 = λ none. sym (length-take-le i w r.inside) ∙ ap length none in
          ⊎_elim (λ p. (facts h.0).no_zero (rw (front p.0) at zero)) (λ q. omega (arith, (facts q).positive)) r.so_far

      pub onward : (behind n (get_or w i 0) ≡ 0 → ⊥) → behind n (get_or w i 0) ≤ longest → ReadUpTo w (i + 1) (behind n (get_or w i 0))
      onward some short = record {
        inside = omega arith;
        small = short;
        so_far = inr (rw (add-one, take-suc w i 0) (one_digit (get_or w i 0) d some r.so_far));
        goes_on = value_on;
      }
