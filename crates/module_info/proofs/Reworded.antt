-- A true revision, as the definitions compute: one letter of a comment is another, and so is the entry from it; the entry from the next comment stays.
use Rattle.std.specs.Prelude.{None}
use Rattle.laws.proofs.Prelude.{◌≡◌, refl, false, inl, inr, List, [], ◌∷◌, ◌++◌, ℕ, code, arith}
use Rattle.laws.specs.{Decoded.ok, Ascii.ascii}
use Rattle.text.specs.Utf8.{admits, length_by, char_length, code_by, char_at, formed}
use Rattle.text.specs.{Ranges.in_ranges, Bytes.begins}
use Rattle.text.specs.Class.{outside, ranges, member, class_at, run}
use Rattle.text.specs.Position.{step, walk, position_of, is_boundary}
use Rattle.wire.specs.Fields.{byte, below, numbered, flag, bytes}
use Rattle.wire.specs.{Number.last_group, Number.number, Text.count, Text.text, Optional.optional}
use Rattle.jsdoc.specs.Reader.{skip, skip_whitespace, word, up_to, is_mark, parse_quote, second_param_start, parse_second_param_obj_with_leading_comma}
use Rattle.jsdoc.specs.Reader.{close_call, parse_tail, seek, parse_call, parse_jsdoc_dynamic_import, parse_jsdoc_import_decl}
use Rattle.jsdoc.specs.Listing.{listing}
use Rattle.sheet.specs.declared.names.{MediaType.TheVariants.JavaScript, CommentKind.TheVariants.Block, Side.TheVariants.Leading}
use Rattle.sheet.specs.{Tree.other, Tree.none, Program.program, Lookups.body_span, Recorded.recorded, Revision.Revision}
use Rattle.sheet.specs.Fields.{position, end_from, span}
use Rattle.sheet.specs.Comments.{enclosed, marked, comment, group, covered, chained}
use Rattle.sheet.specs.Nodes.{many, nodes, other_fields, fields, node}
use Rattle.sheet.specs.Sheet.{Sheet, sheet, decode_sheet, accept}
use Rattle.sheet_codec.proofs.Sheets.{accepts_exactly}
use Rattle.report.specs.ModuleInfo.{JsDocImportInfo}
use Rattle.jsdoc_list.specs.Imports.{ticked_by, ticked_by_all, import_at, imports_from, jsdoc_imports}
use Rattle.module_info.specs.{Information.module_info, Unchanged.Unchanged}
use Rattle.module_info.proofs.Revised.{unchanged}

-- two comments; the first asks for a module that is called by a letter
abbrev source_by : ℕ → List ℕ
source_by letter = ascii "/** {import(\"./" ++ (letter ∷ ascii ".ts\").A} *//** {import(\"./b.ts\").B} */")

abbrev sheet_by : ℕ → Sheet
sheet_by letter = record {
  media = JavaScript;
  source = source_by letter;
  comments = record { kind = Block; span = record { start = 0; end = 27 } } ∷ record { kind = Block; span = record { start = 27; end = 54 } } ∷ [];
  groups = record { side = Leading; position = 54; first = 0; count = 2 } ∷ [];
  program = record { script = false; span = record { start = 0; end = 54 }; shebang = false; first = None };
  root = other (record { start = 0; end = 54 }) none;
}

abbrev bytes_by : ℕ → List ℕ
bytes_by letter =
    0 ∷ 54 ∷ source_by letter  -- JavaScript, and the source
    ++ (2 ∷ 1 ∷ 0 ∷ 27 ∷ 1 ∷ 27 ∷ 54  -- comments: two blocks
    ∷ 1 ∷ 0 ∷ 54 ∷ 0 ∷ 2  -- groups: one, leading position 54, with both
    ∷ 0 ∷ 0 ∷ 54 ∷ 0 ∷ 0  -- no script, from 0 to 54, no shebang, no item
    ∷ 0 ∷ 0 ∷ 54 ∷ 0 ∷ [])  -- an empty Other from 0 to 54

accepted_a : accept (bytes_by (code "a")) ≡ ok (sheet_by (code "a")) []
unfolding admits length_by char_length code_by char_at formed in_ranges begins byte below numbered flag bytes last_group Rattle.wire.specs.Number.groups number
    count text is_boundary position end_from span enclosed marked comment group covered chained optional program many Rattle.sheet.specs.Nodes.tag nodes
    other_fields fields node sheet decode_sheet accept
accepted_a = refl

accepted_c : accept (bytes_by (code "c")) ≡ ok (sheet_by (code "c")) []
unfolding admits length_by char_length code_by char_at formed in_ranges begins byte below numbered flag bytes last_group Rattle.wire.specs.Number.groups number
    count text is_boundary position end_from span enclosed marked comment group covered chained optional program many Rattle.sheet.specs.Nodes.tag nodes
    other_fields fields node sheet decode_sheet accept
accepted_c = refl

revision : Revision (sheet_by (code "a")) (sheet_by (code "c")) 0
unfolding body_span recorded step walk position_of
revision = record {
  there = omega arith;
  media = refl;
  comments = refl;
  groups = refl;
  program = refl;
  root = refl;
  front = refl;
  behind = refl;
  size = refl;
  in_characters = refl;
  in_units = refl;
  apart = (
    inl (omega arith),
    (
      inr (omega arith),
      (inr (omega arith), (inr (omega arith), (inr (omega arith), (inl (omega arith), (inr (omega arith), (inl (omega arith), (inr (omega arith), tt))))))),
    ),
  );
}

-- so all that does not come from the first comment is the same
reworded : Unchanged (sheet_by (code "a")) (sheet_by (code "c")) 0
reworded =
    unchanged revision ((accepts_exactly (bytes_by (code "a")) (sheet_by (code "a"))).0 accepted_a).encodes.within.fields
    ((accepts_exactly (bytes_by (code "c")) (sheet_by (code "c"))).0 accepted_c).encodes.within.fields

-- an entry without a mode on the first line
abbrev entry : List ℕ → ℕ → ℕ → JsDocImportInfo
entry text from to = record {
  specifier = record { text = text; range = record { start = record { line = 0; column = from }; end = record { line = 0; column = to } } };
  mode = None;
}

-- and what comes from it is not
from_a : (module_info (sheet_by (code "a"))).jsdoc_imports ≡ entry (ascii "./a.ts") 12 20 ∷ entry (ascii "./b.ts") 39 47 ∷ []
unfolding admits length_by char_length code_by char_at in_ranges outside ranges member class_at run begins step walk position_of skip skip_whitespace
    Rattle.jsdoc.specs.Reader.tag word up_to is_mark parse_quote second_param_start parse_second_param_obj_with_leading_comma close_call parse_tail seek
    parse_call parse_jsdoc_dynamic_import parse_jsdoc_import_decl listing body_span ticked_by ticked_by_all import_at imports_from jsdoc_imports module_info
from_a = refl

from_c : (module_info (sheet_by (code "c"))).jsdoc_imports ≡ entry (ascii "./c.ts") 12 20 ∷ entry (ascii "./b.ts") 39 47 ∷ []
unfolding admits length_by char_length code_by char_at in_ranges outside ranges member class_at run begins step walk position_of skip skip_whitespace
    Rattle.jsdoc.specs.Reader.tag word up_to is_mark parse_quote second_param_start parse_second_param_obj_with_leading_comma close_call parse_tail seek
    parse_call parse_jsdoc_dynamic_import parse_jsdoc_import_decl listing body_span ticked_by ticked_by_all import_at imports_from jsdoc_imports module_info
from_c = refl
