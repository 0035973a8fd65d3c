-- Writing into a buffer part by part: a byte has room or not, parts one after the other are written as one, and no byte changes nothing.
use Rattle.laws.proofs.Prelude.{◌≡◌, refl, sym, ◌∙◌, Bool, true, false, cond, List, [], ◌∷◌, ◌++◌, append_assoc, append-nil, ℕ, suc, ◌+◌, ◌≤◌, ◌<◌}
use Rattle.laws.proofs.Prelude.{add-one, arith}
use Rattle.laws.proofs.Prelude.{Option, leb, length, get_or, take, drop, drop-cons, drop_of_length-le, set, length-append, length-take, length-set}
use Rattle.laws.proofs.Prelude.{length-take-le, take_all, leb-false}
use Rattle.laws.proofs.Prelude.{le-leb, lt-leb}
use Rattle.std.specs.Prelude.{None, Some}
use native.Mathlib.Nat.{add_assoc}
use lib.Seq.{take-suc-set}
use Rattle.report.specs.declared.writer.Writer.{Writer}
use Rattle.report.specs.Buffer.{Buffer, holds, full, wrote, buffer_as, Written, written_as, more, Wrote, Keeps}

pub wrote_append : (w : Buffer) (a b : List ℕ) → wrote w (a ++ b) ≡ wrote (wrote w a) b
unfolding wrote
wrote_append (full size) a b = refl
wrote_append (holds size xs) a b = by_room (leb (length xs + length a) size) refl
  where
    by_room : (t : Bool) → leb (length xs + length a) size ≡ t → wrote (holds size xs) (a ++ b) ≡ wrote (wrote (holds size xs) a) b
    by_room true e = rw (e, length-append a b, length-append xs a, add_assoc, append_assoc)
    by_room false e =
        let over : size < length xs + (length a + length b) = omega (arith, leb-false (length xs + length a) size e) in
        rw (e, length-append a b, lt-leb (length xs + (length a + length b)) size over)

pub wrote_nil : (out : List ℕ) (p : Option ℕ) → wrote (buffer_as out p) [] ≡ buffer_as out p
unfolding wrote
wrote_nil out None = refl
wrote_nil out (Some p) =
    let room : length (take p out) + 0 ≤ length out = omega (arith, length-take p out) in
    rw (le-leb (length (take p out) + 0) (length out) room, append-nil)

module _ (out : List ℕ) (at : ℕ) where
  pub put_room : (b : ℕ) → at < length out → buffer_as (set out at b) (Some (at + 1)) ≡ wrote (buffer_as out (Some at)) (b ∷ [])
  unfolding wrote
  put_room b h =
      rw (length-take-le at out (omega arith), le-leb (at + 1) (length out) (omega arith), length-set, add-one, take-suc-set out at b h)

  pub put_none : (b : ℕ) → length out ≤ at → full (length out) ≡ wrote (buffer_as out (Some at)) (b ∷ [])
  unfolding wrote
  put_none b h = rw (take_all at out h, lt-leb (length out + 1) (length out) (omega arith))

-- nothing is written once the buffer is full
pub full_stays : (out bs : List ℕ) → full (length out) ≡ wrote (buffer_as out None) bs
unfolding wrote
full_stays out bs = refl

-- a writer at another place, or with another buffer under the same loan
pub wrote_here : (before after : Writer) (bs : List ℕ) →
    after.out.ghost_name ≡ before.out.ghost_name → buffer_as after.out.now after.at ≡ wrote (buffer_as before.out.now before.at) bs → Wrote before after bs
unfolding written_as more
wrote_here before after bs e h = λ i. record { loan = e i; buffer = h i }

-- what a writer has written, part by part
pub more_append : (w : Written) (a b : List ℕ) → more w (a ++ b) ≡ more (more w a) b
unfolding more
more_append w a b = λ i. record { loan = w.loan; buffer = wrote_append w.buffer a b i }

pub more_cons : (w : Written) (b : ℕ) (bs : List ℕ) → more w (b ∷ bs) ≡ more (more w (b ∷ [])) bs
more_cons w b bs = more_append w (b ∷ []) bs

pub more_nil : (w : Writer) → more (written_as w) [] ≡ written_as w
unfolding written_as more
more_nil w = λ i. record { loan = w.out.ghost_name; buffer = wrote_nil w.out.now w.at i }

pub wrote_none : (w : Writer) → Wrote w w []
wrote_none w = sym (more_nil w)

-- what is left of some bytes is written by the next of them and what is left then
pub bytes_on : (w : Written) (s : List ℕ) (i : ℕ) → i < length s → more w (drop i s) ≡ more (more w (get_or s i 0 ∷ [])) (drop (i + 1) s)
bytes_on w s i l = rw (drop-cons s i 0 l, add-one) (more_cons w (get_or s i 0) (drop (suc i) s))

pub bytes_end : (w : Writer) (s : List ℕ) (i : ℕ) → length s ≤ i → more (written_as w) (drop i s) ≡ written_as w
bytes_end w s i l = rw (drop_of_length-le s l) (more_nil w)

-- a byte written where there is room or none
pub ruleset room = (wrote_here, wrote_none, put_room, put_none, full_stays)

-- what is written part by part
pub ruleset parts = (more_append, more_cons, more_nil)

-- how many bytes a buffer has
size_of : Buffer → ℕ
size_of (holds n xs) = n
size_of (full n) = n

size_of_wrote : (b : Buffer) (bs : List ℕ) → size_of (wrote b bs) ≡ size_of b
unfolding wrote size_of
size_of_wrote (full n) bs = refl
size_of_wrote (holds n xs) bs = by_room (leb (length xs + length bs) n)
  where
    by_room : (t : Bool) → size_of (cond t (holds n (xs ++ bs)) (full n)) ≡ n
    by_room true = refl
    by_room false = refl

size_of_lent : (out : List ℕ) (at : Option ℕ) → size_of (buffer_as out at) ≡ length out
unfolding size_of
size_of_lent out None = refl
size_of_lent out (Some at) = refl

-- what is written leaves the buffer the same, and as long
pub wrote_keeps : (before after : Writer) (bs : List ℕ) → Wrote before after bs → Keeps before after
unfolding written_as more
wrote_keeps before after bs h = record {
  loan = λ i. (h i).loan;
  size =
      sym (size_of_lent after.out.now after.at)
      ∙ (λ i. size_of (h i).buffer)
      ∙ size_of_wrote (buffer_as before.out.now before.at) bs
      ∙ size_of_lent before.out.now before.at;
}

-- the bytes of what was written
pub wrote_buffer : (before after : Writer) (bs : List ℕ) → Wrote before after bs →
    buffer_as after.out.now after.at ≡ wrote (buffer_as before.out.now before.at) bs
unfolding written_as more
wrote_buffer before after bs h = λ i. (h i).buffer

pub keeps_same : (w : Writer) → Keeps w w
keeps_same w = record { loan = refl; size = refl }

pub keeps_then : {a b c : Writer} → Keeps a b → Keeps b c → Keeps a c
keeps_then h k = record { loan = k.loan ∙ h.loan; size = k.size ∙ h.size }
