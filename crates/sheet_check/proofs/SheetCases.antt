-- Sheets with the first refusal that each meets, as the definitions compute.
use Rattle.laws.proofs.Prelude.{◌≡◌, refl, List, [], ◌∷◌, ◌++◌, map, ℕ, length}
use Rattle.laws.{specs.Ascii.ascii, proofs.Decoding.refusal}
use Rattle.text.specs.{Bytes.begins, Bytes.same, Position.is_boundary}
use Rattle.text.specs.Utf8.{admits, length_by, char_length, formed}
use Rattle.wire.specs.Fields.{byte, below, numbered, flag, bytes}
use Rattle.wire.specs.{Number.last_group, Number.number, Text.count, Text.text, Optional.optional}
use Rattle.sheet.specs.Fields.{position, end_from, span}
use Rattle.sheet.specs.Comments.{enclosed, marked, comment, group, covered, chained}
use Rattle.sheet.specs.{Quotation.looks_quoted, Program.program}
use Rattle.sheet.specs.Nodes.{many, tag, text_behind, quoted, piece, nodes, argument_item, arguments, keyed_item, property_item, properties, attributes}
use Rattle.sheet.specs.Nodes.{other_fields, string_fields, name_fields, template_fields, binary_fields, object_fields, call_rest, call_fields, import_fields}
use Rattle.sheet.specs.Nodes.{named_export_fields, export_all_fields, import_type_fields, type_rest, import_equals_fields, module_fields, fields, node}
use Rattle.sheet.specs.Nodes.{attributes_object}
use Rattle.sheet.specs.Sheet.{sheet, decode_sheet, accept}

-- document 01's example: JavaScript, one comment, which is all of the source
abbrev source : List ℕ
source = ascii "/** {import(\"./a.ts\").A} */"

abbrev front : List ℕ
front = 0 ∷ length source ∷ source ++ (1 ∷ 1 ∷ 0 ∷ 27 ∷ [])

-- it leads position 27
abbrev leading : List ℕ
leading = 1 ∷ 0 ∷ 27 ∷ 0 ∷ 1 ∷ []

-- no script, from 0 to an end, no shebang, no first item
abbrev program_to : ℕ → List ℕ
program_to end = 0 ∷ 0 ∷ end ∷ 0 ∷ 0 ∷ []

abbrev empty : List ℕ
empty = 0 ∷ 0 ∷ 27 ∷ 0 ∷ []

-- an import of a template without holes whose piece is not cooked
abbrev uncooked : List ℕ
uncooked = 6 ∷ 0 ∷ 27 ∷ 0 ∷ 1 ∷ 0 ∷ 0 ∷ 27 ∷ 3 ∷ 0 ∷ 27 ∷ 0 ∷ 0 ∷ 0 ∷ []

abbrev sheet_of : List ℕ → List ℕ
sheet_of root = front ++ leading ++ program_to 27 ++ root

-- a sheet, and the number of its first refusal, 0 for none
abbrev cases : List (List ℕ × ℕ)
cases =
    (sheet_of empty, 0)
    ∷ ([], 2)
    ∷ (0 ∷ [], 2)
    ∷ (11 ∷ [], 3)  -- an unknown media byte, though the sheet is cut off behind it
    ∷ (0 ∷ 0x81 ∷ 0x80 ∷ 0x02 ∷ [], 4)  -- a source of 32,769 bytes, though they are cut off
    ∷ (0 ∷ 1 ∷ 0xFF ∷ [], 5)
    ∷ (front ++ leading ++ program_to 28, 6)
    ∷ (front ++ (0 ∷ []), 7)  -- a comment in no group, though the sheet is cut off behind it
    ∷ (sheet_of (empty ++ (0 ∷ [])), 8)
    ∷ (sheet_of uncooked, 9)
    ∷ (sheet_of (1 ∷ 12 ∷ 20 ∷ 0 ∷ []), 0)  -- a String at the quotation of the source
    ∷ (sheet_of (1 ∷ 13 ∷ 21 ∷ []), 13)  -- one byte further, though the sheet is cut off behind it
    ∷ (sheet_of (uncooked ++ (0 ∷ [])), 8)  -- bytes behind the root, and an uncooked template in it
    ∷ []

as_stated : map (λ c. refusal (accept c.0)) cases ≡ map (λ c. c.1) cases
unfolding byte below numbered flag bytes last_group Rattle.wire.specs.Number.groups number count text admits length_by char_length formed begins same
    is_boundary position end_from span enclosed looks_quoted marked comment group covered chained program many tag text_behind quoted optional piece nodes
    argument_item arguments keyed_item property_item properties attributes other_fields string_fields name_fields template_fields binary_fields object_fields
    call_rest call_fields import_fields named_export_fields export_all_fields import_type_fields type_rest import_equals_fields module_fields fields node
    attributes_object sheet decode_sheet accept
as_stated = refl
