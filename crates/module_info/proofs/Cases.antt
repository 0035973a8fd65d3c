-- The proved cases of document 01: what the report says of a comment with each body, as the definitions compute.
use Rattle.std.specs.Prelude.{Some, None}
use Rattle.laws.proofs.Prelude.{◌≡◌, refl, false, List, [], ◌∷◌, ◌++◌, map, flat_map, Option, ℕ, ◌+◌, length}
use Prim.Native.String.{String}
use Rattle.laws.specs.Ascii.{ascii}
use Rattle.text.specs.{Ranges.in_ranges, Alphabetic.alphabetic, Bytes.begins, Bytes.same}
use Rattle.text.specs.Utf8.{admits, length_by, char_length, code_by, char_at}
use Rattle.text.specs.Class.{outside, ranges, member, class_at, run}
use Rattle.text.specs.Position.{step, walk, position_of}
use Rattle.analysis.specs.declared.mode.TypeScriptTypesResolutionMode.TheVariants.{Import, Require}
use Rattle.analysis.specs.Mode.{Mode, mode_of}
use Rattle.analysis.specs.Letters.{fold_case, letter_at, word_at}
use Rattle.analysis.specs.Row.{ends, all, first, places, find}
use Rattle.analysis.specs.Place.{place_of}
use Rattle.jsdoc.specs.Reader.{skip, skip_whitespace, whitespace, tag, word, up_to, is_mark, parse_quote, past_ident, parse_ident, parse_key, attribute_mode}
use Rattle.jsdoc.specs.Reader.{parse_attribute, comma, separated_list_by, separated_list, parse_import_attribute_block_for_resolution_mode}
use Rattle.jsdoc.specs.Reader.{second_param_start, parse_second_param_obj_with_leading_comma, close_call, parse_tail, seek, parse_call}
use Rattle.jsdoc.specs.Reader.{parse_jsdoc_dynamic_import, skip_named_imports, skip_default_import, skip_namespace_import, skip_clause, parse_attributes}
use Rattle.jsdoc.specs.Reader.{parse_from, parse_jsdoc_import_decl}
use Rattle.jsdoc.specs.Listing.{listing}
use Rattle.sheet.specs.declared.{fields.Span.Span, groups.Group.Group, names.CommentKind.CommentKind, names.MediaType.TheVariants.Jsx, names.Side.Side}
use Rattle.sheet.specs.declared.names.CommentKind.TheVariants.{Line, Block, HtmlOpen, HtmlClose}
use Rattle.sheet.specs.{declared.names.Side.TheVariants.Leading, declared.names.Side.TheVariants.Trailing, Comments.opening, Comments.closing}
use Rattle.sheet.specs.Lookups.{group_at, head_group, body_span}
use Rattle.sheet.specs.{Tree.other, Tree.none, Sheet.Sheet}
use Rattle.report.specs.ModuleInfo.{SpecifierWithRange, TypeScriptReference, path, JsDocImportInfo}
use Rattle.report.specs.ModuleInfo as info
use Rattle.pragmas.specs.Readings.{place_in, specifier_in, read_by, first_of, last_of, all_of}
use Rattle.pragmas.specs.Pragmas.{head_comments, end_comments, mode_in, reference, references_in, first_by, last_by, ts_or_deno_types, types_in, types_at}
use Rattle.jsdoc_list.specs.Imports.{ticked_by, ticked_by_all, import_at, imports_from, jsdoc_imports}
use Rattle.module_info.specs.Information.{module_info}

-- a text, from one column of the first line to another
abbrev specifier : String → ℕ → ℕ → SpecifierWithRange
specifier text from to = record { text = ascii text; range = record { start = record { line = 0; column = from }; end = record { line = 0; column = to } } }

abbrev import : String → ℕ → ℕ → Mode → JsDocImportInfo
import text from to mode = record { specifier = specifier text from to; mode = mode }

-- a body, and what it gives to the JSDoc imports, to the types of an entry behind it, to the references, to the self types, to the JSX source, to the
-- source map
data Case : Type 0 where
  jsdoc : String → List JsDocImportInfo → Case
  types : String → Option SpecifierWithRange → Case
  references : String → List TypeScriptReference → Case
  self_types : String → Option SpecifierWithRange → Case
  jsx_source : String → Option SpecifierWithRange → Case
  source_map : String → Option SpecifierWithRange → Case

table : List Case
table =
    jsdoc "* {import(\"\")}" (import "" 12 14 None ∷ [])
    ∷ jsdoc "* {important import(\"a\")}" []
    ∷ jsdoc "* {{import('a')}}" (import "a" 13 16 None ∷ [])
    ∷ jsdoc "* {import(\"a\", {with: {\"resolution-mode\": \"import\"}})}" (import "a" 12 15 (Some Import) ∷ [])
    ∷ jsdoc "* {import(\"a\", {with: {resolution-mode: \"import\"}})}" []
    ∷ jsdoc "* @import A, {B} from \"a\"" []
    ∷ jsdoc "* @import {A}from\"a\"" (import "a" 19 22 None ∷ [])
    ∷ jsdoc "* @import A from \"a\" with {" (import "a" 19 22 None ∷ [])
    ∷ types "@deno-types=\"a" (Some (specifier "\"a" 14 16))
    ∷ types "@ts-types=\"\"" None
    ∷ references "/<reference path=\"a\">" []
    ∷ source_map "# sourcemappingurl = a b" (Some (specifier "a" 23 24))
    -- beside these, a reference that is read
    ∷ references "/ <reference path=\"a\" />" (path (specifier "a" 20 23) ∷ [])
    -- with both a path and types: the types, even where they are empty, and the mode
    ∷ references "/ <reference path=\"a\" types=\"b\" />" (info.types (specifier "b" 30 33) None ∷ [])
    ∷ references "/ <reference types=\"\" path=\"a\" resolution-mode=\"require\" />" (info.types (specifier "" 21 23)
    (Some Require) ∷ [])
    ∷ jsx_source "* @jsxImportSource a" (Some (specifier "a" 21 22))
    ∷ []

-- in an HTML-like comment whose body starts at that column: what a line comment gives is given, a JSX source and a JSDoc import stay unlisted
html : ℕ → List Case
html n =
    references "/ <reference path=\"a\" />" (path (specifier "a" (n + 18) (n + 21)) ∷ [])
    ∷ self_types "@ts-self-types=\"a\"" (Some (specifier "a" (n + 15) (n + 18)))
    ∷ types "@ts-types=\"a\"" (Some (specifier "a" (n + 10) (n + 13)))
    ∷ source_map "# sourceMappingURL=a" (Some (specifier "a" (n + 19) (n + 20)))
    ∷ jsx_source "* @jsxImportSource a" None
    ∷ jsdoc "* {import(\"a\")}" []
    ∷ []

abbrev group : Side → ℕ → Group
group side at = record { side = side; position = at; first = 0; count = 1 }

-- JSX whose source is one comment with that body, in the leading group at the program's start and in both groups at its end; no item, an empty
-- Other as root
sheet_of : CommentKind → String → Sheet
sheet_of kind body =
    let source : List ℕ = opening kind ++ (ascii body ++ closing kind) in
    let span : Span = record { start = 0; end = length source } in
    record {
      media = Jsx;
      source = source;
      comments = record { kind = kind; span = span } ∷ [];
      groups = group Leading 0 ∷ group Leading (length source) ∷ group Trailing (length source) ∷ [];
      program = record { script = false; span = span; shebang = false; first = None };
      root = other span none;
    }

-- the case of a body by the information of its sheet, where the comment is of that kind
abbrev computed_in : CommentKind → Case → Case
computed_in kind (jsdoc body l) = jsdoc body (module_info (sheet_of kind body)).jsdoc_imports
computed_in kind (types body x) = types body (types_at (sheet_of kind body) (length (sheet_of kind body).source))
computed_in kind (references body l) = references body (module_info (sheet_of kind body)).ts_references
computed_in kind (self_types body x) = self_types body (module_info (sheet_of kind body)).self_types_specifier
computed_in kind (jsx_source body x) = jsx_source body (module_info (sheet_of kind body)).jsx_import_source
computed_in kind (source_map body x) = source_map body (module_info (sheet_of kind body)).source_map_url

-- JSDoc and the JSX source in a block comment, the others in a line comment
abbrev computed : Case → Case
computed (jsdoc body l) = computed_in Block (jsdoc body l)
computed (types body x) = computed_in Line (types body x)
computed (references body l) = computed_in Line (references body l)
computed (self_types body x) = computed_in Line (self_types body x)
computed (jsx_source body x) = computed_in Block (jsx_source body x)
computed (source_map body x) = computed_in Line (source_map body x)

as_stated : map computed table ≡ table
unfolding table sheet_of flat_map in_ranges admits length_by char_length code_by char_at alphabetic outside ranges member class_at run begins same step walk
    position_of mode_of fold_case letter_at word_at ends all first places find place_of skip skip_whitespace whitespace tag word up_to is_mark parse_quote
    past_ident parse_ident parse_key attribute_mode parse_attribute comma separated_list_by separated_list parse_import_attribute_block_for_resolution_mode
    second_param_start parse_second_param_obj_with_leading_comma close_call parse_tail seek parse_call parse_jsdoc_dynamic_import skip_named_imports
    skip_default_import skip_namespace_import skip_clause parse_attributes parse_from parse_jsdoc_import_decl listing group_at head_group body_span place_in
    specifier_in read_by first_of last_of all_of head_comments end_comments mode_in reference references_in first_by last_by ts_or_deno_types types_in ticked_by
    ticked_by_all import_at imports_from jsdoc_imports module_info
as_stated = refl

html_as_stated : (map (computed_in HtmlOpen) (html 4) ≡ html 4) × (map (computed_in HtmlClose) (html 3) ≡ html 3)
unfolding html sheet_of flat_map in_ranges admits length_by char_length code_by char_at alphabetic outside ranges member class_at run begins same step walk
    position_of mode_of fold_case letter_at word_at ends all first places find place_of skip skip_whitespace whitespace tag word up_to is_mark parse_quote
    past_ident parse_ident parse_key attribute_mode parse_attribute comma separated_list_by separated_list parse_import_attribute_block_for_resolution_mode
    second_param_start parse_second_param_obj_with_leading_comma close_call parse_tail seek parse_call parse_jsdoc_dynamic_import skip_named_imports
    skip_default_import skip_namespace_import skip_clause parse_attributes parse_from parse_jsdoc_import_decl listing group_at head_group body_span place_in
    specifier_in read_by first_of last_of all_of head_comments end_comments mode_in reference references_in first_by last_by ts_or_deno_types types_in ticked_by
    ticked_by_all import_at imports_from jsdoc_imports module_info
html_as_stated = (refl, refl)
