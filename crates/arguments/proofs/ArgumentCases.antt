-- Arguments in a source that is an empty string, as the definitions compute.
use Rattle.std.specs.Prelude.{Some, None}
use Rattle.laws.proofs.Prelude.{◌≡◌, refl, List, [], ◌∷◌, ◌++◌, map, ℕ, length}
use Rattle.laws.specs.Decoded.{Decoded, ok, on_ok}
use Rattle.laws.specs.Ascii.{ascii}
use Rattle.text.specs.{Bytes.begins, Lossy.replacing, Position.is_boundary}
use Rattle.text.specs.Utf8.{admits, length_by, char_length, formed}
use Rattle.wire.specs.Fields.{byte, below, flag, bytes}
use Rattle.wire.specs.Number.{last_group, groups, number}
use Rattle.wire.specs.{Text.count, Text.text, Optional.optional}
use Rattle.sheet.specs.{Limits.depth_limit, Comments.enclosed, Quotation.looks_quoted}
use Rattle.sheet.specs.Fields.{position, end_from, span}
use Rattle.sheet.specs.Nodes.{many, tag, piece, nodes, text_behind, string_fields, name_fields, template_fields, binary_fields, fields, node}
use Rattle.report.specs.ModuleInfo.{DynamicArgument, expr, string, template}
use Rattle.arguments.specs.Argument.{chain, argument_of}

-- a tag with an empty span, and the fields
abbrev at : ℕ → List ℕ → List ℕ
at t fields = t ∷ 0 ∷ 0 ∷ fields

-- a text with its length
abbrev long : List ℕ → List ℕ
long x = length x ∷ x

-- a String at the one quotation of the source
abbrev quoted : List ℕ → List ℕ
quoted x = 1 ∷ 0 ∷ 2 ∷ long x

-- the Strings "a" and "c", and the Name b
abbrev a : List ℕ
a = quoted (ascii "a")

abbrev b : List ℕ
b = at 2 (long (ascii "b"))

abbrev c : List ℕ
c = quoted (ascii "c")

-- a plus, and a minus
abbrev plus : List ℕ → List ℕ → List ℕ
plus l r = at 4 (1 ∷ l ++ r)

abbrev minus : List ℕ → List ℕ → List ℕ
minus l r = at 4 (0 ∷ l ++ r)

-- a cooked piece
abbrev cooked : List ℕ → List ℕ
cooked x = 1 ∷ long x

abbrev cases : List (List ℕ × Decoded DynamicArgument)
cases =
    (a, ok (string (ascii "a")) [])
    ∷ (b, ok expr [])
    ∷ (at 3 (0 ∷ cooked (ascii "a")), ok (string (ascii "a")) [])
    ∷ (at 3 (0 ∷ cooked []), ok (string []) [])
    ∷ (at 3 (1 ∷ cooked [] ++ cooked (ascii "c") ++ b), ok (template (None ∷ Some (ascii "c") ∷ [])) [])
    ∷ (at 3 (1 ∷ cooked (ascii "a") ++ cooked [] ++ b), ok (template (Some (ascii "a") ∷ None ∷ [])) [])
    ∷ (plus (plus a b) c, ok (template (Some (ascii "a") ∷ None ∷ Some (ascii "c") ∷ [])) [])
    ∷ (plus a (plus b c), ok (template (Some (ascii "a") ∷ None ∷ [])) [])
    ∷ (plus b c, ok expr [])
    ∷ (plus (minus a b) c, ok expr [])
    ∷ (minus (plus a b) c, ok expr [])
    ∷ []

as_stated : map (λ x. (x.0, on_ok argument_of (node (ascii "\"\"") depth_limit x.0))) cases ≡ cases
unfolding byte below flag bytes last_group groups number count text admits length_by char_length formed replacing begins enclosed looks_quoted is_boundary
    position end_from span many tag optional piece nodes text_behind string_fields
    name_fields template_fields binary_fields fields node chain argument_of
as_stated = refl
