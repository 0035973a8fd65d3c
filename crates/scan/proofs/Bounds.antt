-- The scan sum of n bytes is at most n(n − 1), halved; of a star-opened body at most (n − 1)(n − 2), halved, which a star and braces reach.
use Rattle.std.specs.Prelude.{◌^◌}
use Rattle.laws.proofs.Prelude.{◌≡◌, refl, ap, ◌∙◌, Bool, true, false, cond, false≢true, and-eq-true_iff, List, [], ◌∷◌, ℕ, zero, suc, ◌+◌, ◌-◌, ◌*◌, ◌≤◌}
use Rattle.laws.proofs.Prelude.{◌<◌, code, arith, eqb, length, drop, length-drop, replicate, length-replicate, eqb-true}
use native.Mathlib.Nat.{mul-suc, suc-mul, mul-le-mul}
use borrow.Author.Tests.{eqb-false}
use Rattle.text.specs.Bytes.{begins}
use Rattle.scan.specs.Scan.{scan_length, scan_sum, star_opened, longest}
use Rattle.scan.specs.Dearest.{star_and_braces, Dearest}
use Rattle.std.proofs.lemmas.List.{take_rest}
use Rattle.scan.proofs.Steps.{ends, within, other, brace, no_brace, at_end, back_brace, back_other}

-- one byte more adds 2n to n(n − 1)
grows : (n : ℕ) → suc n * (suc n - 1) ≡ n * (n - 1) + 2 * n
grows zero = refl
grows (suc k) =
    let e : suc k - 1 ≡ k = omega arith in
    let f : suc (suc k) - 1 ≡ suc k = omega arith in
    rw (e, f) (omega (arith, suc-mul (suc k) (suc k), mul-suc (suc k) k))

sum_bound : (s : List ℕ) → 2 * scan_sum s ≤ length s * (length s - 1)
unfolding scan_sum
sum_bound [] = omega arith
sum_bound (x ∷ s) = go (eqb x (code "{")) (sum_bound s)
  where
    go : (b : Bool) → 2 * scan_sum s ≤ length s * (length s - 1) → 2 * (cond b (scan_length s) 0 + scan_sum s) ≤ suc (length s) * (suc (length s) - 1)
    go true h = omega (arith, within s, grows (length s))
    go false h = omega (arith, grows (length s))

-- so it is a small number
pub small : (s : List ℕ) → length s ≤ longest → scan_sum s ≤ longest * longest
small s h =
    let less : length s - 1 ≤ longest = omega arith in
    let below : length s * (length s - 1) ≤ longest * longest = mul-le-mul h less in
    omega (arith, sum_bound s)

-- also what is left of a body, and one more scan over it
pub room : (s : List ℕ) (i : ℕ) → length s ≤ longest → scan_sum (drop i s) + scan_length (drop i s) < 2 ^ 64
room s i h = omega (arith, within (drop i s), small (drop i s) (omega (arith, length-drop i s)), length-drop i s)

pub ruleset sums = (at_end, take_rest, back_brace, back_other, room)

-- the star adds nothing
starred : (s : List ℕ) → scan_sum (code "*" ∷ s) ≡ scan_sum s
starred s = no_brace (code "*") s (eqb-false (code "*") (code "{") refl)

pub opened_bound : (body : List ℕ) → star_opened body ≡ true → 2 * scan_sum body ≤ (length body - 1) * (length body - 2)
unfolding begins
opened_bound [] e = absurd (false≢true e)
opened_bound (x ∷ s) e =
    let star : x ≡ code "*" = eqb-true x (code "*") ((and-eq-true_iff (eqb x (code "*")) true).0 e).0 in
    let m : suc (length s) - 1 ≡ length s = omega arith in
    let n : suc (length s) - 2 ≡ length s - 1 = omega arith in
    rw (star, starred s, m, n) (sum_bound s)

-- a star and braces reach it
braces_length : (n : ℕ) → scan_length (replicate n (code "{")) ≡ n
unfolding begins
braces_length zero = ends
braces_length (suc n) = other (code "{") (replicate n (code "{")) (eqb-false (code "{") (code "}") refl) refl ∙ ap suc (braces_length n)

braces_sum : (n : ℕ) → 2 * scan_sum (replicate n (code "{")) ≡ n * (n - 1)
unfolding scan_sum
braces_sum zero = refl
braces_sum (suc n) = omega (arith, brace (code "{") (replicate n (code "{")) refl, braces_length n, braces_sum n, grows n)

pub star_and_braces_lem : (n : ℕ) → 1 ≤ n → Dearest n (star_and_braces n)
unfolding begins
star_and_braces_lem n h =
    let e : n - 1 - 1 ≡ n - 2 = omega arith in
    let reached : 2 * scan_sum (star_and_braces n) ≡ (n - 1) * (n - 2) = rw (starred (replicate (n - 1) (code "{")), ← e) (braces_sum (n - 1)) in
    record {
      opened = refl;
      bytes = omega (arith, length-replicate (n - 1) (code "{"));
      reaches = reached;
      most = λ other opened long.
          let bound : 2 * scan_sum other ≤ (n - 1) * (n - 2) = rw long at (opened_bound other opened) in
          omega arith;
    }
