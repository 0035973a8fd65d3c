-- Nodes of a source that is an empty string with what is found in them, or the number of their refusal, as the definitions compute.
use Rattle.laws.proofs.Prelude.{◌≡◌, refl, Bool, true, false, List, [], ◌∷◌, ◌++◌, map, ℕ, length}
use Rattle.laws.specs.Decoded.{Decoded, ok, no, on_ok}
use Rattle.laws.specs.Ascii.{ascii}
use Rattle.text.specs.{Bytes.begins, Bytes.same, Position.is_boundary}
use Rattle.text.specs.Utf8.{admits, length_by, char_length, formed}
use Rattle.wire.specs.Fields.{byte, below, numbered, flag, bytes}
use Rattle.wire.specs.Number.{last_group, groups, number}
use Rattle.wire.specs.{Text.count, Text.text, Optional.optional}
use Rattle.sheet.specs.Fields.{position, end_from, span}
use Rattle.sheet.specs.{Comments.enclosed, Quotation.looks_quoted}
use Rattle.sheet.specs.Nodes.{many, tag, text_behind, quoted, piece, nodes, argument_item, arguments, keyed_item, property_item, properties, attributes}
use Rattle.sheet.specs.Nodes.{other_fields, string_fields, name_fields, template_fields, binary_fields, object_fields, call_rest, call_fields, import_fields}
use Rattle.sheet.specs.Nodes.{named_export_fields, export_all_fields, import_type_fields, type_rest, import_equals_fields, module_fields, fields, node}
use Rattle.sheet.specs.Nodes.{attributes_object}
use Rattle.sheet_nodes.specs.code.Tallies.{NodeTally, node_tally}

-- the one quotation of the source is all of it
abbrev source : List ℕ
source = ascii "\"\""

-- a tag with an empty span, and the fields
abbrev at : ℕ → List ℕ → List ℕ
at t fields = t ∷ 0 ∷ 0 ∷ fields

abbrev other : List ℕ
other = at 0 (0 ∷ [])

abbrev string : List ℕ
string = 1 ∷ 0 ∷ 2 ∷ 0 ∷ []

-- an Other with one child
abbrev holding : List ℕ → List ℕ
holding child = at 0 (1 ∷ child)

abbrev name : List ℕ → List ℕ
name x = at 2 (length x ∷ x)

-- a template without holes whose piece is not cooked
abbrev uncooked_template : List ℕ
uncooked_template = at 3 (0 ∷ 0 ∷ [])

-- a call by what stands for its callee, with one argument, spread or not
abbrev call_of : List ℕ → ℕ → List ℕ
call_of callee dots = at 6 (callee ++ (1 ∷ at dots uncooked_template) ++ (0 ∷ []))

abbrev found : ℕ → Bool → Decoded NodeTally
found n b = ok (record { entries = n; uncooked = b; also = record { require = false; template = false } }) []

-- levels left, bytes, and what they give
abbrev Case : Type 0
Case = ℕ × List ℕ × Decoded NodeTally

-- the smallest node of each tag
abbrev smallest : List Case
smallest =
    (1, other, found 0 false)
    ∷ (1, string, found 0 false)
    ∷ (1, name [], found 0 false)
    ∷ (1, uncooked_template, ok (record { entries = 0; uncooked = false; also = record { require = false; template = true } }) [])
    ∷ (2, at 4 (0 ∷ other ++ other), found 0 false)
    ∷ (1, at 5 (0 ∷ []), found 0 false)
    ∷ (1, at 6 (0 ∷ 0 ∷ 0 ∷ []), found 0 false)
    ∷ (2, at 7 (0 ∷ 0 ∷ 0 ∷ string ++ (0 ∷ [])), found 1 false)
    ∷ (1, at 8 (0 ∷ 0 ∷ []), found 0 false)
    ∷ (2, at 9 (0 ∷ string ++ (0 ∷ [])), found 1 false)
    ∷ (2, at 10 (string ++ (0 ∷ 0 ∷ [])), found 1 false)
    ∷ (1, at 11 (0 ∷ []), found 0 false)
    ∷ (1, at 12 (0 ∷ 0 ∷ []), found 0 false)
    ∷ []

abbrev refusals : List Case
refusals =
    (2, holding (holding other), no 4)  -- a level too deep
    ∷ (0, other, no 4)
    ∷ (0, 13 ∷ [], no 3)  -- the tag is judged before the depth
    ∷ (0, [], no 2)
    ∷ (2, at 9 (0 ∷ name []), no 3)  -- a Name where a String is asked for
    ∷ (1, at 9 (0 ∷ string), no 4)  -- a String is a node of its own
    ∷ (2, at 7 (0 ∷ 0 ∷ 0 ∷ string ++ (1 ∷ other)), no 3)  -- an Other where an Object is asked for
    ∷ (64, at 5 (65 ∷ []), no 4)
    ∷ (64, at 5 (64 ∷ []), no 2)
    ∷ (1, at 1 [], no 13)  -- no mark, though the String is cut off behind its end
    ∷ (1, 1 ∷ 0 ∷ 1 ∷ [], no 13)  -- one mark
    ∷ (1, 1 ∷ 0 ∷ 3 ∷ [], no 6)
    ∷ (2, at 9 (0 ∷ 1 ∷ 0 ∷ 1 ∷ []), no 13)  -- one that another node holds
    ∷ []

-- a template with an uncooked piece for the first argument
abbrev templates : List Case
templates =
    (64, call_of (0 ∷ []) 0, found 1 true)
    ∷ (64, call_of (0 ∷ []) 1, found 1 true)
    ∷ (64, call_of (3 ∷ name (ascii "require")) 0, found 1 true)
    ∷ (64, call_of (3 ∷ name (ascii "required")) 0, found 0 false)
    ∷ (64, holding (call_of (1 ∷ []) 0), found 1 true)
    ∷ []

abbrev cases : List Case
cases = smallest ++ refusals ++ templates

abbrev computed : Case → Case
computed (levels, s, r) = (levels, s, on_ok node_tally (node source levels s))

as_stated : map computed cases ≡ cases
unfolding byte below numbered flag bytes last_group groups number count text admits length_by char_length formed begins enclosed looks_quoted same is_boundary
    position end_from span many tag text_behind quoted optional piece nodes argument_item arguments keyed_item property_item properties attributes other_fields
    string_fields name_fields template_fields binary_fields object_fields call_rest call_fields import_fields named_export_fields export_all_fields
    import_type_fields type_rest import_equals_fields module_fields fields node attributes_object
as_stated = refl
