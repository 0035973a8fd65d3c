-- Document 01's example: the bytes of its sheet, and the answer to them, as the definitions compute.
use Rattle.laws.proofs.Prelude.{◌≡◌, refl, List, [], ◌∷◌, ◌++◌, flat_map, ℕ, ◌-◌, ◌≤◌, le-leb}
use Rattle.laws.specs.Ascii.{ascii}
use Rattle.text.specs.Utf8.{admits, length_by, char_length, code_by, char_at, formed}
use Rattle.text.specs.{Ranges.in_ranges, Bytes.begins}
use Rattle.text.specs.Class.{outside, ranges, member, class_at, run}
use Rattle.text.specs.Position.{step, walk, position_of, is_boundary}
use Rattle.wire.specs.Fields.{byte, below, numbered, flag, bytes}
use Rattle.wire.specs.Number.{last_group, number, encode_groups, encode_number}
use Rattle.wire.specs.Text.{count, text, encode_text}
use Rattle.wire.specs.Optional.{encode_optional, optional}
use Rattle.jsdoc.specs.Reader.{skip, skip_whitespace, word, up_to, is_mark, parse_quote, second_param_start, parse_second_param_obj_with_leading_comma}
use Rattle.jsdoc.specs.Reader.{close_call, parse_tail, seek, parse_call, parse_jsdoc_dynamic_import, parse_jsdoc_import_decl}
use Rattle.jsdoc.specs.Listing.{listing}
use Rattle.sheet.specs.Fields.{position, end_from, span}
use Rattle.sheet.specs.Comments.{enclosed, marked, comment, group, covered, chained}
use Rattle.sheet.specs.{Program.program, Judge.judge}
use Rattle.sheet.specs.Nodes.{many, nodes, other_fields, fields, node}
use Rattle.sheet.specs.Lookups.{group_at, head_group, body_span}
use Rattle.sheet.specs.Sheet.{sheet, decode_sheet, accept}
use Rattle.report.specs.Encode.{encode_list, encode_position, encode_range, encode_specifier, encode_jsdoc, encode}
use Rattle.report.specs.Answer.{zeros, fitted}
use Rattle.pragmas.specs.Readings.{first_of, last_of, all_of}
use Rattle.pragmas.specs.Pragmas.{head_comments, end_comments, references_in, first_by, last_by}
use Rattle.jsdoc_list.specs.Imports.{ticked_by, ticked_by_all, import_at, imports_from, jsdoc_imports}
use Rattle.dep.specs.Collect.{collector}
use Rattle.module_info.specs.Information.{module_info, answer_of}

abbrev example : List ℕ
example =
    0 ∷ 27 ∷ ascii "/** {import(\"./a.ts\").A} */"  -- JavaScript, and the source
    ++ (1 ∷ 1 ∷ 0 ∷ 27  -- comments: one, a block from 0 to 27
    ∷ 1 ∷ 0 ∷ 27 ∷ 0 ∷ 1  -- groups: one, leading position 27, with that comment
    ∷ 0 ∷ 0 ∷ 27 ∷ 0 ∷ 0  -- no script, from 0 to 27, no shebang, no item
    ∷ 0 ∷ 0 ∷ 27 ∷ 0 ∷ [])  -- an empty Other from 0 to 27

abbrev report : List ℕ
report =
    0 ∷ 0 ∷ 0 ∷ 0 ∷ 0 ∷ 0  -- no script, no dependency, no reference, no self types, no JSX source, no JSX source types
    ∷ 1 ∷ 1 ∷ 6 ∷ ascii "./a.ts"  -- JSDoc entries: one
    ++ (0 ∷ 12 ∷ 0 ∷ 20 ∷ 0  -- its range, no mode
    ∷ 0 ∷ [])  -- no source map

computed : (size : ℕ) → answer_of example size ≡ fitted size report
unfolding admits length_by char_length code_by char_at formed in_ranges outside ranges member class_at run begins step walk position_of byte below numbered flag
    bytes last_group Rattle.wire.specs.Number.groups number encode_groups encode_number count text encode_text skip skip_whitespace
    Rattle.jsdoc.specs.Reader.tag word up_to is_mark parse_quote second_param_start parse_second_param_obj_with_leading_comma close_call parse_tail seek
    parse_call parse_jsdoc_dynamic_import parse_jsdoc_import_decl listing is_boundary position end_from span enclosed marked comment group covered chained
    optional program many Rattle.sheet.specs.Nodes.tag nodes other_fields fields node group_at head_group body_span sheet decode_sheet accept judge
    encode_optional flat_map encode_list encode_position encode_range encode_specifier encode_jsdoc encode first_of last_of all_of head_comments end_comments
    references_in first_by last_by ticked_by ticked_by_all import_at imports_from jsdoc_imports collector module_info answer_of
computed size = refl

-- in any buffer that can hold it: number 0, the report's length and bytes, and zeros behind them
as_stated : (size : ℕ) → 21 ≤ size → answer_of example size ≡ record { number = 0; written = 21; buffer = report ++ zeros (size - 21) }
unfolding fitted
as_stated size h = rw (computed size, le-leb 21 size h)
