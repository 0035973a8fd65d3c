-- What the answers of the code say of the bytes that they were read from.
use Rattle.std.specs.Prelude.{◌≡◌, cond, [], ◌∷◌, ℕ, ◌≤◌, ◌<◌, eqb, length}
use Rattle.std.specs.Prelude.{None, Option, Some, option_map}
use Rattle.std.specs.Borrow.{Bor}
use Rattle.laws.specs.Codec.{IfThere}
use Rattle.jsdoc.specs.Grammar.{Bytes}
use Rattle.jsdoc.specs.Parsed.{Parsed, ok, backtrace, value}
use Rattle.jsdoc.specs.Reader.{Hit, hit, sought, parse_jsdoc_dynamic_import}
use Rattle.jsdoc.specs.declared.answers.JsDocImport.{JsDocImport}
use Rattle.jsdoc.specs.declared.answers.Searched.{Searched}

-- what is read where the value stands for a value, and what is left
abbrev pub parsed_as : {A B : Type 0} → (A → B) → Option (A × Bor Bytes) → Parsed B
parsed_as view None = backtrace
parsed_as view (Some p) = ok (view p.0) p.1.now

abbrev pub value_as : {A : Type 0} → Option (A × Bor Bytes) → Parsed A
value_as = parsed_as (λ v. v)

abbrev pub text_as : Option (Bor Bytes × Bor Bytes) → Parsed Bytes
text_as = parsed_as (λ x. x.now)

-- what is left where nothing else is answered
abbrev pub rest_as : Option (Bor Bytes) → Parsed (Unit {0})
rest_as None = backtrace
rest_as (Some t) = ok tt t.now

abbrev pub hit_as : Option JsDocImport → Option Hit
hit_as = option_map (λ i. hit i.start.now i.end.now i.mode)

-- s from the first m on
unfoldable pub from_first : ℕ → Bytes → Option Bytes
from_first m [] = None
from_first m (x ∷ s) = cond (eqb x m) (Some (x ∷ s)) (from_first m s)

-- the place of an import lies in a body of n bytes
abbrev pub Room : ℕ → Option JsDocImport → Type 0
Room n = IfThere (λ import. (0 < length import.start.now) × (length import.start.now ≤ n))

-- the reading of a brace, and where the search for its `import` ended
pub record Scans (s : Bytes) (r : Searched) : Type 0 where
  pub import : hit_as r.found ≡ value (parse_jsdoc_dynamic_import s)
  pub end : r.end.now ≡ sought s
