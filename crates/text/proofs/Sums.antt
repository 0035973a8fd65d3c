-- The position past some bytes, by how many of them end a line and how many begin a character.
use Rattle.laws.proofs.Prelude.{◌≡◌, refl, sym, ap, ◌∙◌, Bool, true, false, cond, List, [], ◌∷◌, ℕ, suc, zero-le, suc-le-suc, ◌+◌, ◌-◌, ◌≤◌, ◌<◌, arith}
use Rattle.laws.proofs.Prelude.{add-one, eqb, length, get_or, take, drop, length-drop, length-take, take_all, get_or-drop, lt-leb, eq-eqb, ne_eqb}
use lib.Seq.{take-suc, take-add, get_or-take}
use Rattle.std.specs.Prelude.{count_by}
use Rattle.std.proofs.lemmas.List.Sums.{sum_by-cons}
use Rattle.text.specs.{declared.position.Position.Position, Ranges.within, Utf8.continuation}
use Rattle.text.specs.Position.{characters, step, walk}
use Rattle.text.proofs.Positions.{walk_append}
use Rattle.text.specs.code.Totals.{begins_one}

-- the bytes that a test counts
module _ (p : ℕ → Bool) where
  one_more : (b : ℕ) (t : List ℕ) → count_by p (b ∷ t) ≡ cond (p b) 1 0 + count_by p t
  one_more b t = sum_by-cons (λ y. cond (p y) 1 0) b t

  count_all : (t : List ℕ) → ((k : ℕ) → k < length t → p (get_or t k 0) ≡ true) → count_by p t ≡ length t
  count_all [] h = refl
  count_all (b ∷ t) h =
      let first : p b ≡ true = h 0 (suc-le-suc zero-le) in
      let rest : count_by p t ≡ length t = count_all t (λ k l. h (suc k) (suc-le-suc l)) in
      one_more b t ∙ rw (first, rest) (omega arith)

-- each byte of ASCII begins a character
begins_ascii : (b : ℕ) → b < 128 → begins_one b ≡ true
begins_ascii b h = rw (lt-leb 128 b h)

pub begun_ascii : (s : List ℕ) (k n : ℕ) → n ≤ length s → k ≤ n → ((i : ℕ) → i < n → get_or s i 0 < 128) → n - k ≡ count_by begins_one (take (n - k) (drop k s))
begun_ascii s k n l g h =
    let t = take (n - k) (drop k s) in
    let w : length t ≡ n - k = omega (arith, length-take (n - k) (drop k s), length-drop k s) in
    sym (
    count_all begins_one t (λ i b.
    rw (get_or-take (n - k) (drop k s) i 0 (rw w at b), get_or-drop) (begins_ascii _ (h (k + i) (omega arith))))
    ∙ w
    )

-- the line and the column past a byte, and past a text
step_line : (p : Position) (b : ℕ) → (step characters p b).line ≡ p.line + cond (eqb b 0x0A) 1 0
unfolding step
step_line p b = go (eqb b 0x0A)
  where
    go : (t : Bool)
        → (cond {A = Position} t (record { line = p.line + 1; column = 0 })
        (record { line = p.line; column = p.column + cond (within continuation b) 0 1 })).line
        ≡ p.line + cond t 1 0
    go true = refl
    go false = omega arith

step_column : (p : Position) (b : ℕ) → (b ≡ 0x0A → ⊥) → (step characters p b).column ≡ p.column + cond (begins_one b) 1 0
unfolding step
step_column p b h = rw (ne_eqb b 0x0A h) (go (within continuation b))
  where
    go : (t : Bool) → p.column + cond t 0 1 ≡ p.column + cond (cond t false true) 1 0
    go true = refl
    go false = refl

step_ends : (p : Position) (b : ℕ) → b ≡ 0x0A → (step characters p b).column ≡ 0
unfolding step
step_ends p b h = rw (eq-eqb b 0x0A h)

pub walk_line : (p : Position) (t : List ℕ) → (walk characters p t).line ≡ p.line + count_by (λ b. eqb b 0x0A) t
unfolding walk
walk_line p [] = omega arith
walk_line p (b ∷ t) = omega (arith, walk_line (step characters p b) t, step_line p b, one_more (λ b. eqb b 0x0A) b t)

walk_column : (p : Position) (t : List ℕ) → ((k : ℕ) → k < length t → get_or t k 0 ≡ 0x0A → ⊥) → (walk characters p t).column ≡ p.column + count_by begins_one t
unfolding walk
walk_column p [] h = omega arith
walk_column p (b ∷ t) h =
    omega (arith, walk_column (step characters p b) t (λ k l. h (suc k) (omega arith)), step_column p b (h 0 (omega arith)), one_more begins_one b t)

-- an LF at the end of a text
pub ended_column : (p : Position) (s : List ℕ) (m : ℕ) → m < length s → get_or s m 0 ≡ 0x0A → (walk characters p (take (m + 1) s)).column ≡ 0
unfolding walk
ended_column p s m l h = rw (add-one, take-suc s m 0 l, walk_append) (step_ends _ _ h)

-- from the last LF of n bytes on, each byte that begins a character is a column
pub block_column : (p : Position) (s : List ℕ) (last n : ℕ) → n ≤ length s → last ≤ n → ((k : ℕ) → last ≤ k → k < n → get_or s k 0 ≡ 0x0A → ⊥)
    → (walk characters p (take n s)).column ≡ (walk characters p (take last s)).column + count_by begins_one (take (n - last) (drop last s))
block_column p s last n l g h =
    let d : n ≡ last + (n - last) = omega arith in
    let e : walk characters p (take n s) ≡ walk characters (walk characters p (take last s)) (take (n - last) (drop last s)) =
    ap (λ (m : ℕ). walk characters p (take m s)) d ∙ rw (take-add, walk_append) in
    rw e (walk_column _ _ (λ k b q. h (last + k) (omega arith) (omega (arith, long k b)) (rw (moved k (omega (arith, long k b))) at q)))
  where
    long : (k : ℕ) → k < length (take (n - last) (drop last s)) → k < n - last
    long k b = omega (arith, length-take (n - last) (drop last s), b)

    moved : (k : ℕ) → k < n - last → get_or (take (n - last) (drop last s)) k 0 ≡ get_or s (last + k) 0
    moved k b = rw (get_or-take (n - last) (drop last s) k 0 b, get_or-drop)

pub same_place : (q : Position) {l c : ℕ} → l ≡ q.line → c ≡ q.column → record { line = l; column = c } ≡ q
same_place q e f = rw (e, f)

-- the position past a block, by its lines, the place past its last LF and what begins behind it
module _ (p : Position) (s : List ℕ) (block : length s ≡ 64) (last : ℕ) (within : last ≤ 64)
    (none : (k : ℕ) → last ≤ k → k < 64 → get_or s k 0 ≡ 0x0A → ⊥) where
  past_last : (walk characters p s).column ≡ (walk characters p (take last s)).column + count_by begins_one (take (64 - last) (drop last s))
  past_last =
      ap (λ (t : List ℕ). (walk characters p t).column) (sym (take_all 64 s (omega arith)))
      ∙ block_column p s last 64 (omega arith) within none

  pub block_unbroken : last ≡ 0 → (walk characters p s).column ≡ p.column + count_by begins_one (take (64 - last) (drop last s))
  unfolding walk
  block_unbroken z =
      let e : (walk characters p (take last s)).column ≡ p.column = rw z in
      omega (arith, past_last)

  pub block_broken : (last ≡ 0 → ⊥) → ((m : ℕ) → last ≡ m + 1 → get_or s m 0 ≡ 0x0A)
      → (walk characters p s).column ≡ count_by begins_one (take (64 - last) (drop last s))
  block_broken z f =
      let d : last ≡ last - 1 + 1 = omega arith in
      let e : (walk characters p (take last s)).column ≡ 0 =
      ap (λ (m : ℕ). (walk characters p (take m s)).column) d ∙ ended_column p s (last - 1) (omega arith) (f (last - 1) d) in
      omega (arith, past_last)
