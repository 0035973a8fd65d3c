-- What a parser answers, as monch's `ParseResult`: a value and the bytes that are left, or a backtrace.
use Rattle.std.specs.Prelude.{None, Option, Some}
use Rattle.jsdoc.specs.Grammar.{Bytes}

pub data Parsed (A : Type 0) : Type 0 where
  ok : A → Bytes → Parsed A
  backtrace : Parsed A

abbrev pub Parser : Type 0 → Type 0
Parser A = Bytes → Parsed A

-- f of the value and of what is left, or d at a backtrace
abbrev pub on_parsed : {A B : Type 0} → Parsed A → (A → Bytes → B) → B → B
on_parsed (ok a t) f d = f a t
on_parsed backtrace f d = d

infixl 20 ◌>>=◌
-- one parser, and then another that may use its value
abbrev pub ◌>>=◌ : {A B : Type 0} → Parser A → (A → Parser B) → Parser B
◌>>=◌ p f s = on_parsed (p s) f backtrace

infixl 20 ◌>>◌
abbrev pub ◌>>◌ : {A B : Type 0} → Parser A → Parser B → Parser B
◌>>◌ p g s = on_parsed (p s) (λ a. g) backtrace

-- nothing is read, and this is the value
abbrev pub return : {A : Type 0} → A → Parser A
return a s = ok a s

-- nothing is read, and what is left is the value
abbrev pub here : Parser Bytes
here s = ok s s

-- the first, or the second where the first does not read
abbrev pub or : {A : Type 0} → Parser A → Parser A → Parser A
or p g s = on_parsed (p s) ok (g s)

-- the value alone
abbrev pub value : {A : Type 0} → Parsed A → Option A
value (ok a t) = Some a
value backtrace = None
