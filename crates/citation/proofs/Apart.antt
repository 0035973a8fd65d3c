-- Two ranges that print alike are one.
use Rattle.laws.proofs.Prelude.{◌≡◌, refl, ap, sym, ◌∙◌, Bool, true, false, cond, List, [], ◌∷◌, ◌++◌, ℕ, zero, suc, ◌+◌, ◌-◌, ◌*◌, ◌/◌, ◌%◌, ◌≤◌, ◌<◌}
use Rattle.laws.proofs.Prelude.{code, arith, ltb, ltb-true}
use Prim.Native.Nat.{◌^◌}
use native.Mathlib.Nat.{pow-suc}
use Rattle.laws.{specs.Codec.All, proofs.Lists.all_append}
use Rattle.text.specs.declared.position.Position.{Position}
use Rattle.report.specs.ModuleInfo.{PositionRange}
use Rattle.citation.specs.Citation.{digits, decimal, cite_position, cite_range}
use Rattle.citation.specs.code.Printable.{Printable}
use Rattle.citation.proofs.Recounts.{same_position}

-- ---- decimals

-- the number that digits say, behind those of n
abbrev value : ℕ → List ℕ → ℕ
value n [] = n
value n (d ∷ ds) = value (n * 10 + (d - 0x30)) ds

value_last : (n : ℕ) (ds : List ℕ) (d : ℕ) → value n (ds ++ (d ∷ [])) ≡ value n ds * 10 + (d - 0x30)
value_last n [] d = refl
value_last n (e ∷ ds) d = value_last (n * 10 + (e - 0x30)) ds d

digits_value : (k n : ℕ) → n < 10 ^ k → value 0 (digits k n) ≡ n
unfolding digits
digits_value zero n h = omega arith
digits_value (suc k) n h = by_size (ltb n 10) refl (digits_value k (n / 10) (omega (arith, pow-suc 10 k)))
  where
    by_size : (b : Bool) → ltb n 10 ≡ b → value 0 (digits k (n / 10)) ≡ n / 10
        → value 0 (cond b ((0x30 + n) ∷ []) (digits k (n / 10) ++ ((0x30 + n % 10) ∷ []))) ≡ n
    by_size true e front = omega arith
    by_size false e front = rw (value_last, front) (omega arith)

pub decimal_one : (n m : ℕ) → n < 10 ^ 20 → m < 10 ^ 20 → decimal n ≡ decimal m → n ≡ m
decimal_one n m a b e = sym (digits_value 20 n a) ∙ ap (value 0) e ∙ digits_value 20 m b

digits_all : (P : ℕ → Type 0) → ((d : ℕ) → 0x30 ≤ d → d ≤ 0x39 → P d) → (k n : ℕ) → All P (digits k n)
unfolding digits
digits_all P h zero n = tt
digits_all P h (suc k) n = by_size (ltb n 10) refl (digits_all P h k (n / 10))
  where
    by_size : (b : Bool) → ltb n 10 ≡ b → All P (digits k (n / 10)) → All P (cond b ((0x30 + n) ∷ []) (digits k (n / 10) ++ ((0x30 + n % 10) ∷ [])))
    by_size true e front = (h (0x30 + n) (omega arith) (omega (arith, ltb-true n 10 e)), tt)
    by_size false e front = all_append P (digits k (n / 10)) ((0x30 + n % 10) ∷ []) front (h (0x30 + n % 10) (omega arith) (omega arith), tt)

-- ---- positions and ranges

abbrev Without : ℕ → List ℕ → Type 0
Without mark = All (λ d. d ≡ mark → ⊥)

-- two texts are parted alike at the first mark
parted : (mark : ℕ) (a b x y : List ℕ) → Without mark a → Without mark b → a ++ (mark ∷ x) ≡ b ++ (mark ∷ y) → (a ≡ b) × (x ≡ y)
parted mark [] [] x y u v e = (refl, cc)
parted mark [] (d ∷ b) x y u v e = absurd (v.0 (cc))
parted mark (c ∷ a) [] x y u v e = absurd (u.0 (cc))
parted mark (c ∷ a) (d ∷ b) x y u v e =
    let first : c ≡ d = cc in
    let (p, q) = parted mark a b x y u.1 v.1 (cc) in
    (rw (first, p), q)

pub position_one : {p q : Position} → Printable p → Printable q → cite_position p ≡ cite_position q → p ≡ q
unfolding cite_position
position_one {p} {q} a b e =
    let none : (n : ℕ) → Without (code ":") (decimal n) = digits_all (λ d. d ≡ code ":" → ⊥) (λ d l h i. omega arith) 20 in
    let (x, y) = parted (code ":") _ _ _ _ (none (p.line + 1)) (none (q.line + 1)) e in
    let i = decimal_one (p.line + 1) (q.line + 1) (omega (arith, a.line)) (omega (arith, b.line)) x in
    let j = decimal_one (p.column + 1) (q.column + 1) (omega (arith, a.column)) (omega (arith, b.column)) y in
    same_position (omega arith) (omega arith)

no_dash : (p : Position) → Without (code "-") (cite_position p)
unfolding cite_position
no_dash p =
    let none : (n : ℕ) → Without (code "-") (decimal n) = digits_all (λ d. d ≡ code "-" → ⊥) (λ d l h i. omega arith) 20 in
    all_append _ (decimal (p.line + 1)) (code ":" ∷ decimal (p.column + 1)) (none (p.line + 1)) (λ i. omega arith, none (p.column + 1))

pub same_range : {r q : PositionRange} → r.start ≡ q.start → r.end ≡ q.end → r ≡ q
same_range {r} {q} i j =
    let same : ◌≡◌ {A = PositionRange} (record { start = r.start; end = r.end }) (record { start = q.start; end = q.end }) = rw (i, j) in
    same

pub range_one : {r q : PositionRange} → Printable r.start × Printable r.end → Printable q.start × Printable q.end → cite_range r ≡ cite_range q →
    r ≡ q
unfolding cite_range
range_one {r} {q} a b e =
    let (x, y) = parted (code "-") _ _ _ _ (no_dash r.start) (no_dash q.start) e in
    same_range (position_one a.0 b.0 x) (position_one a.1 b.1 y)
