-- Worked bodies of the ten patterns beside 01's, which stand in module_info. Each is its bytes before the captured text, that text, and the bytes behind it.
use Rattle.std.specs.Prelude.{Option, Some, None}
use Rattle.laws.proofs.Prelude.{◌≡◌, refl, true, false, List, [], ◌∷◌, ◌++◌, map, flat_map, ℕ, ◌+◌, length}
use Rattle.laws.specs.Ascii.{ascii}
use Rattle.text.specs.{Ranges.in_ranges, Encode.encode}
use Rattle.text.specs.Utf8.{admits, length_by, char_length, code_by, char_at}
use Rattle.text.specs.Class.{ranges, outside, member, class_at}
use Rattle.analysis.specs.declared.Capture.{Capture}
use Rattle.analysis.specs.Letters.{fold_case, letter_at, word_at}
use Rattle.analysis.specs.Row.{Row, ends, all, no_capture, first, places, find}
use Rattle.analysis.specs.Patterns.{triple_slash_row, path_row, types_row, resolution_mode_row, jsx_import_source_row, jsx_import_source_types_row}
use Rattle.analysis.specs.Patterns.{source_mapping_url_row, ts_self_types_row, ts_types_row, deno_types_row}

-- what a pattern captures between marks, and without; what it matches, with nothing to capture, and what it does not match
data Case : Type 0 where
  marked : Row → List ℕ → List ℕ → List ℕ → Case
  plain : Row → List ℕ → List ℕ → List ℕ → Case
  matched : Row → List ℕ → Case
  missed : Row → List ℕ → Case

row : Case → Row
row (marked r before text behind) = r
row (plain r before text behind) = r
row (matched r s) = r
row (missed r s) = r

body : Case → List ℕ
body (marked r before text behind) = before ++ text ++ behind
body (plain r before text behind) = before ++ text ++ behind
body (matched r s) = s
body (missed r s) = s

answer : Case → Option Capture
answer (marked r before text behind) = Some (record { quoted = true; from = length before; to = length before + length text })
answer (plain r before text behind) = Some (record { quoted = false; from = length before; to = length before + length text })
answer (matched r s) = Some no_capture
answer (missed r s) = None

-- U+017F is an s; U+0085, U+2003 and U+3000 are white space
table : List Case
table =
    matched triple_slash_row (ascii "/ <reference path=\"a\" />")
    ∷ matched triple_slash_row (ascii "/" ++ encode 0x2003 ++ ascii "<REFERENCE" ++ encode 0x85 ++ ascii "/>")
    ∷ matched triple_slash_row (ascii "/<reference\n/>")
    ∷ missed triple_slash_row (ascii "/<reference path=\"a\"\n/>")
    ∷ missed triple_slash_row (ascii "/<reference/>")
    ∷ missed triple_slash_row (ascii " /<reference />")
    ∷ marked path_row (ascii "/ <reference path='") (ascii "a.ts") (ascii "\" />")
    ∷ marked path_row (ascii "/ <reference path=\"") [] (ascii "\" path=\"b\" />")
    ∷ marked path_row
    (ascii " xpath=\"a\"" ++ encode 0x2003 ++ ascii "PATH" ++ encode 0x3000 ++ ascii "=" ++ encode 0x85 ++ ascii "\"") (encode 0xE9) (ascii "\"")
    ∷ missed path_row (ascii "path=\"a\"")
    ∷ missed path_row (ascii " path=\"a")
    ∷ marked types_row (ascii "/ <reference type" ++ encode 0x17F ++ ascii " = \"") (ascii "./a.d.ts") (ascii "\" />")
    ∷ missed types_row (ascii " typed=\"a\"")
    ∷ marked resolution_mode_row (ascii "/ <reference types=\"a\" re" ++ encode 0x17F ++ ascii "olution-mode='") (ascii "require") (ascii "' />")
    ∷ missed resolution_mode_row (ascii " resolution_mode=\"import\"")
    ∷ plain jsx_import_source_row (ascii "* @jsxImportSource ") (ascii "preact") (ascii " x")
    ∷ plain jsx_import_source_row (ascii "@j" ++ encode 0x17F ++ ascii "ximportsource" ++ encode 0x3000) (encode 0xE9 ++ ascii "x") (encode 0x2003 ++ ascii "y")
    ∷ missed jsx_import_source_row (ascii "* @jsxImportSourceTypes preact")
    ∷ missed jsx_import_source_row (ascii "* @jsxImportSource ")
    ∷ plain jsx_import_source_types_row (ascii "*\n * @jsxImportSourceTypes\t") (ascii "preact/types") (ascii "\n ")
    ∷ missed jsx_import_source_types_row (ascii "* @jsxImportSource Types preact")
    ∷ plain source_mapping_url_row (ascii "@" ++ encode 0x2003 ++ encode 0x17F ++ ascii "ourceMappingURL=") (encode 0xE9 ++ ascii ".map") (encode 0x3000)
    ∷ missed source_mapping_url_row (ascii " # sourceMappingURL=a")
    ∷ missed source_mapping_url_row (ascii "# sourceMappingURL= ")
    ∷ marked ts_self_types_row (ascii " @ts-self-types=\"") (ascii "./a.d.ts") (ascii "\"")
    ∷ missed ts_self_types_row (ascii "@ts-self-types=./a.d.ts")
    ∷ marked ts_types_row (encode 0x85 ++ ascii "@TS-TYPES = '") (ascii "a b") (ascii "\" x")
    ∷ missed ts_types_row (ascii "@ts-types=\"'a'")
    ∷ missed ts_types_row (ascii "* @ts-types=\"a\"")
    ∷ marked deno_types_row (ascii "@deno-types = \"") (ascii "./a.d.ts") (ascii "'x")
    ∷ plain deno_types_row (ascii "@deno-types=") (ascii "./a.d.ts") (ascii " \"b\"")
    ∷ plain deno_types_row (ascii "@deno-types=") (ascii "\"\"") []
    ∷ plain deno_types_row (ascii "@deno-types=") (ascii "\"") (ascii " a")
    ∷ missed deno_types_row (ascii "@deno-types= ")
    ∷ []

worked : map (λ t. find (row t) (body t)) table ≡ map answer table
unfolding table row body answer encode in_ranges admits length_by char_length code_by char_at ranges outside member class_at fold_case letter_at word_at
    flat_map ends all first places find
worked = refl
