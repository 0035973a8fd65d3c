-- Document 01's example decodes, and encodes to itself, as the definitions compute.
use Rattle.laws.proofs.Prelude.{◌≡◌, refl, List, [], ◌∷◌, ◌++◌, flat_map, ℕ}
use Rattle.laws.specs.{Decoded.ok, Decoded.on_ok, Ascii.ascii}
use Rattle.text.specs.{Bytes.begins, Position.is_boundary}
use Rattle.text.specs.Utf8.{admits, length_by, char_length, formed}
use Rattle.wire.specs.Fields.{byte, below, numbered, flag, bytes}
use Rattle.wire.specs.Number.{last_group, groups, number, encode_groups, encode_number}
use Rattle.wire.specs.Text.{count, text, encode_text}
use Rattle.wire.specs.Optional.{optional, encode_optional}
use Rattle.sheet.specs.Fields.{position, end_from, span}
use Rattle.sheet.specs.Comments.{enclosed, marked, chained, comment, group, covered}
use Rattle.sheet.specs.{Program.program, Sheet.sheet, Sheet.decode_sheet}
use Rattle.sheet.specs.Nodes.{many, tag, nodes, other_fields, fields, node}
use Rattle.sheet_codec.specs.Encode.{encode_node, encode_nodes, encode_sheet}

-- a JavaScript source of one comment, which leads position 27; no item; an empty Other as root
abbrev example : List ℕ
example =
    (0 ∷ 27 ∷ ascii "/** {import(\"./a.ts\").A} */")
    ++ ((1 ∷ 1 ∷ 0 ∷ 27 ∷ [])
    ++ ((1 ∷ 0 ∷ 27 ∷ 0 ∷ 1 ∷ [])
    ++ ((0 ∷ 0 ∷ 27 ∷ 0 ∷ 0 ∷ [])
    ++ (0 ∷ 0 ∷ 27 ∷ 0 ∷ []))))

itself : on_ok encode_sheet (decode_sheet example) ≡ ok example []
unfolding begins admits length_by char_length formed byte below numbered flag bytes last_group groups number encode_groups encode_number count text encode_text
    is_boundary position end_from span enclosed marked chained comment group covered flat_map optional encode_optional program many tag nodes other_fields
    fields node sheet decode_sheet encode_node encode_nodes encode_sheet
itself = refl
