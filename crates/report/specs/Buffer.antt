-- A lent buffer that is written from the front, and stops where it is full.
use Rattle.std.specs.Prelude.{◌≡◌, cond, List, ◌++◌, ℕ, ◌+◌, leb, length, take, None, Option, Some}
use Rattle.std.specs.Borrow.{GName}
use Rattle.report.specs.declared.writer.Writer.{Writer}

-- how many bytes a buffer has, and those that begin it, what is behind them being left free; or some byte found no room, and all its bytes are left free
pub data Buffer : Type 0 where
  holds : ℕ → List ℕ → Buffer
  full : ℕ → Buffer

-- the bytes written behind what stands there, if there is room for all of them
unfoldable pub wrote : Buffer → List ℕ → Buffer
wrote (holds size xs) bs = cond (leb (length xs + length bs) size) (holds size (xs ++ bs)) (full size)
wrote (full size) bs = full size

-- what a buffer with a place in it stands for, or without one once it is full
abbrev pub buffer_as : List ℕ → Option ℕ → Buffer
buffer_as out (Some at) = holds (length out) (take at out)
buffer_as out None = full (length out)

-- the bytes of it before the place, or all
abbrev pub standing : List ℕ → Option ℕ → List ℕ
standing out (Some at) = take at out
standing out None = out

-- what a writer has written: into which buffer, by the name of its loan, and what stands there
pub record Written : Type 0 where
  pub loan : GName
  pub buffer : Buffer

unfoldable pub written_as : Writer → Written
written_as w = record { loan = w.out.ghost_name; buffer = buffer_as w.out.now w.at }

-- the same with more bytes behind
unfoldable pub more : Written → List ℕ → Written
more w bs = record { loan = w.loan; buffer = wrote w.buffer bs }

-- a writer before and after bytes are written
abbrev pub Wrote : Writer → Writer → List ℕ → Type 0
Wrote before after bs = written_as after ≡ more (written_as before) bs

-- a writer before and after what is left free: the buffer is the same, and as long
pub record Keeps (before after : Writer) : Type 0 where
  pub loan : after.out.ghost_name ≡ before.out.ghost_name
  pub size : length after.out.now ≡ length before.out.now
