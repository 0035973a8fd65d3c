-- What no bytes get, and the information of the smallest sheet.
use Rattle.std.specs.Prelude.{None}
use Rattle.laws.proofs.Prelude.{◌≡◌, refl, false, [], flat_map, ℕ, arith}
use Rattle.laws.specs.Decoded.{ok}
use Rattle.text.specs.{Utf8.formed, Position.is_boundary}
use Rattle.wire.specs.Fields.{byte, below, numbered, flag, bytes}
use Rattle.wire.specs.Number.{last_group, number, encode_groups, encode_number}
use Rattle.wire.specs.{Text.count, Text.text, Optional.encode_optional, Optional.optional}
use Rattle.sheet.specs.{declared.fields.Span.Span, declared.names.MediaType.TheVariants.JavaScript, Comments.covered, Comments.chained, Program.program}
use Rattle.sheet.specs.Fields.{position, end_from, span}
use Rattle.sheet.specs.{Tree.other, Tree.none, Lookups.group_at, Lookups.head_group}
use Rattle.sheet.specs.Nodes.{many, nodes, other_fields, fields, node}
use Rattle.sheet.specs.Sheet.{Sheet, sheet, decode_sheet, accept}
use Rattle.sheet_codec.proofs.Sheets.{accepts_exactly}
use Rattle.report.{specs.Encode.encode_list, specs.Encode.encode, specs.Valid.Valid, proofs.ReadBack.report_back}
use Rattle.report.specs.Answer.{Answer, zeros, fitted}
use Rattle.pragmas.specs.Readings.{first_of, last_of, all_of}
use Rattle.pragmas.specs.Pragmas.{head_comments, end_comments, references_in, first_by, last_by}
use Rattle.jsdoc_list.specs.Imports.{ticked_by_all, imports_from, jsdoc_imports}
use Rattle.dep.specs.Collect.{collector}
use Rattle.module_info.specs.{Information.module_info, Information.default_info, Empty.EmptyRight}

-- the sheet of thirteen zero bytes
abbrev smallest : Sheet
smallest =
    let start : Span = record { start = 0; end = 0 } in
    record {
      media = JavaScript;
      source = [];
      comments = [];
      groups = [];
      program = record { script = false; span = start; shebang = false; first = None };
      root = other start none;
    }

accepted : accept (zeros 13) ≡ ok smallest []
unfolding formed byte below numbered flag bytes last_group Rattle.wire.specs.Number.groups number count text is_boundary position end_from span covered chained
    optional program many Rattle.sheet.specs.Nodes.tag nodes other_fields fields node sheet decode_sheet accept
accepted = refl

its_information : module_info smallest ≡ default_info
unfolding group_at head_group flat_map first_of last_of all_of head_comments end_comments references_in first_by last_by ticked_by_all imports_from
    jsdoc_imports collector module_info
its_information = refl

-- flag, count, count, flag, flag, flag, count, flag
pub default_bytes : encode default_info ≡ zeros 8
unfolding flat_map encode_groups encode_number encode_optional encode_list encode
default_bytes = refl

fits : Valid default_info
fits = record {
  dependencies = (omega arith, tt);
  ts_references = (omega arith, tt);
  self_types_specifier = tt;
  jsx_import_source = tt;
  jsx_import_source_types = tt;
  jsdoc_imports = (omega arith, tt);
  source_map_url = tt;
}

pub empty_right : {size : ℕ} {answer : Answer} → answer ≡ fitted size (encode default_info) → EmptyRight size answer
empty_right e = record {
  answered = rw default_bytes at e;
  bytes = default_bytes;
  report = record {
    fits = fits;
    back = report_back.back default_info fits;
    texts = record {
      dependencies = tt;
      ts_references = tt;
      self_types_specifier = tt;
      jsx_import_source = tt;
      jsx_import_source_types = tt;
      jsdoc_imports = tt;
      source_map_url = tt;
    };
  };
  smallest = (smallest, (accepts_exactly (zeros 13) smallest).0 accepted, its_information);
}
