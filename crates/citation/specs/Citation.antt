-- The lines that `cite` prints, as document 01 writes them: `refused N`, or `module K` and K lines.
use Rattle.std.specs.Prelude.{Bool, cond, ◌||◌, ℕ, zero, suc, ◌+◌, ◌/◌, ◌%◌, eqb, ltb, length, get_or, drop}
use mathlib.Core.List.{List, [], ◌∷◌, ◌++◌, flat_map}
use Rattle.std.specs.Prelude.{None, Option, Some}
use Prim.Native.Char.{code}
use Rattle.laws.specs.Ascii.{ascii}
use Rattle.text.specs.declared.position.Position.{Position}
use Rattle.report.specs.ModuleInfo.{PositionRange, SpecifierWithRange, TypeScriptReference, path, types, JsDocImportInfo, DynamicArgument, expr}
use Rattle.report.specs.ModuleInfo.{string, template, DependencyDescriptor, static, dynamic, ModuleInfo}
use Rattle.citation.specs.Columns.{recounted_range}

-- the decimal digits of a number, of at most so many places
unfoldable pub digits : ℕ → ℕ → List ℕ
digits zero n = []
digits (suc places) n = cond (ltb n 10) ((0x30 + n) ∷ []) (digits places (n / 10) ++ ((0x30 + n % 10) ∷ []))

-- a number below 10 to the 20th in decimal
abbrev pub decimal : ℕ → List ℕ
decimal n = digits 20 n

-- a hexadecimal digit, in upper case
abbrev pub hex_digit : ℕ → ℕ
hex_digit n = cond (ltb n 10) (0x30 + n) (0x37 + n)

-- is the byte under 32, or 127, or the backslash?
abbrev pub is_escaped : ℕ → Bool
is_escaped b = ltb b 32 || eqb b 127 || eqb b 0x5C

-- such a byte as \xHH; any other as it is
unfoldable pub escaped : ℕ → List ℕ
escaped b = cond (is_escaped b) (0x5C ∷ code "x" ∷ hex_digit (b / 16) ∷ hex_digit (b % 16) ∷ []) (b ∷ [])

-- line:column, from 1
unfoldable pub cite_position : Position → List ℕ
cite_position p = decimal (p.line + 1) ++ (code ":" ∷ decimal (p.column + 1))

unfoldable pub cite_range : PositionRange → List ℕ
cite_range r = cite_position r.start ++ (code "-" ∷ cite_position r.end)

-- a line of a citation, with the report's range
pub record Line : Type 0 where
  pub letter : ℕ
  pub range : PositionRange
  pub text : List ℕ

-- letter, space, range, space, text; both columns count UTF-16 code units of the source
unfoldable pub printed : List ℕ → Line → List ℕ
printed source l = l.letter ∷ code " " ∷ (cite_range (recounted_range source l.range) ++ (code " " ∷ (flat_map escaped l.text ++ (0x0A ∷ []))))

abbrev pub cite_specifier : ℕ → SpecifierWithRange → List Line
cite_specifier letter s = record { letter = letter; range = s.range; text = s.text } ∷ []

-- a line if the thing is there
abbrev pub cite_optional : ℕ → Option SpecifierWithRange → List Line
cite_optional letter None = []
cite_optional letter (Some s) = cite_specifier letter s

-- `?` where there is no single text
abbrev pub argument_text : DynamicArgument → List ℕ
argument_text expr = ascii "?"
argument_text (string x) = x
argument_text (template l) = ascii "?"

abbrev pub cite_argument : ℕ → DynamicArgument → PositionRange → List Line
cite_argument letter x r = record { letter = letter; range = r; text = argument_text x } ∷ []

-- its letter, and T for its types right after it
abbrev pub cite_dependency : ℕ → DependencyDescriptor → List Line
cite_dependency letter (static d) = cite_specifier letter d.specifier ++ cite_optional (code "T") d.types_specifier
cite_dependency letter (dynamic d) = cite_argument letter d.argument d.argument_range ++ cite_optional (code "T") d.types_specifier

-- D, or d where characters were replaced in its text: the number beside it says how many
abbrev pub dependency_letter : ℕ → ℕ
dependency_letter number = cond (eqb number 0) (code "D") (code "d")

abbrev pub cite_noted : ℕ → DependencyDescriptor → List Line
cite_noted number = cite_dependency (dependency_letter number)

-- items, each with the second of the two numbers in its turn, or 0
abbrev pub cite_each : {A : Type 0} → (ℕ → A → List Line) → List ℕ → List A → List Line
cite_each cite numbers [] = []
cite_each cite numbers (x ∷ l) = cite (get_or numbers 1 0) x ++ cite_each cite (drop 2 numbers) l

-- R
abbrev pub cite_reference : TypeScriptReference → List Line
cite_reference (path s) = cite_specifier (code "R") s
cite_reference (types s mode) = cite_specifier (code "R") s

-- J
abbrev pub cite_jsdoc : JsDocImportInfo → List Line
cite_jsdoc i = cite_specifier (code "J") i.specifier

-- the lines, in report order: D or d and T, R, S, X, Y, J, M; with the numbers beside the dependencies, two for each
unfoldable pub lines : List ℕ → ModuleInfo → List Line
lines numbers m =
    cite_each cite_noted numbers m.dependencies
    ++ (flat_map cite_reference m.ts_references
    ++ (cite_optional (code "S") m.self_types_specifier
    ++ (cite_optional (code "X") m.jsx_import_source
    ++ (cite_optional (code "Y") m.jsx_import_source_types
    ++ (flat_map cite_jsdoc m.jsdoc_imports
    ++ cite_optional (code "M") m.source_map_url)))))

-- a word and a number, on a line of their own
unfoldable pub title : List ℕ → ℕ → List ℕ
title word n = word ++ (decimal n ++ (0x0A ∷ []))

-- all that is printed for a report, over the source, with the numbers beside the dependencies
unfoldable pub citation : List ℕ → List ℕ → ModuleInfo → List ℕ
citation source numbers m = title (ascii "module ") (length (lines numbers m)) ++ flat_map (printed source) (lines numbers m)

-- all that is printed for a refusal
unfoldable pub refusal : ℕ → List ℕ
refusal number = title (ascii "refused ") number
