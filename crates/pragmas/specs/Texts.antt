-- Demand 3 for the texts of references and pragmas: each stands in the source at its reading's place, in two marks or bare, as its rule's row asks.
use Rattle.std.specs.Prelude.{Bool, true, false, ◌⊎◌, ℕ}
use mathlib.Core.List.{List, Memᴰ}
use Rattle.std.specs.Prelude.{Option}
use Rattle.laws.specs.Codec.{All, IfThere}
use Rattle.analysis.specs.declared.Capture.{Capture}
use Rattle.analysis.specs.Row.{Row}
use Rattle.analysis.specs.Patterns.{path_row, types_row, jsx_import_source_row, jsx_import_source_types_row, source_mapping_url_row, ts_self_types_row}
use Rattle.analysis.specs.Patterns.{ts_types_row, deno_types_row}
use Rattle.sheet.specs.declared.comments.Comment.{Comment}
use Rattle.sheet.specs.Sheet.{Sheet}
use Rattle.report.specs.ModuleInfo.{SpecifierWithRange, TypeScriptReference, path, types, DependencyDescriptor, static, dynamic, ModuleInfo}
use Rattle.report.specs.Stands.{Bare, InMarks, StandsAt}
use Rattle.pragmas.specs.Readings.{place_in}
use Rattle.pragmas.specs.Present.{Read}

-- how the text is written that a capture says is quoted or not
abbrev pub written_if : Bool → List ℕ → List ℕ → Type 0
written_if true = InMarks
written_if false = Bare

-- x is the reading of a row in some comment of the sheet, and stands at the place of what is captured there, written as the row asks
pub record Shown (row : Row) (asks : Capture → List ℕ → List ℕ → Type 0) (t : Sheet) (x : SpecifierWithRange) : Type 0 where
  pub comment : Comment
  pub among : Memᴰ comment t.comments
  pub read : Read row t.source comment x
  pub stands : StandsAt (asks read.capture) t.source x (place_in comment read.capture)

-- the row asks for two marks, for none, or, by its alternatives, for either
abbrev pub ShownInMarks : Row → Sheet → SpecifierWithRange → Type 0
ShownInMarks row = Shown row (λ k. InMarks)

abbrev pub ShownBare : Row → Sheet → SpecifierWithRange → Type 0
ShownBare row = Shown row (λ k. Bare)

abbrev pub ShownEither : Row → Sheet → SpecifierWithRange → Type 0
ShownEither row = Shown row (λ k. written_if k.quoted)

abbrev pub ReferenceShown : Sheet → TypeScriptReference → Type 0
ReferenceShown t (path x) = ShownInMarks path_row t x
ReferenceShown t (types x mode) = ShownInMarks types_row t x

abbrev pub TypesShown : Sheet → SpecifierWithRange → Type 0
TypesShown t x = ShownInMarks ts_types_row t x ⊎ ShownEither deno_types_row t x

abbrev pub types_of : DependencyDescriptor → Option SpecifierWithRange
types_of (static d) = d.types_specifier
types_of (dynamic d) = d.types_specifier

-- so does each types specifier, reference and pragma that the module information m has
pub record Texts (t : Sheet) (m : ModuleInfo) : Type 0 where
  pub types : All (λ d. IfThere (TypesShown t) (types_of d)) m.dependencies
  pub references : All (ReferenceShown t) m.ts_references
  pub self_types : IfThere (ShownInMarks ts_self_types_row t) m.self_types_specifier
  pub jsx_import_source : IfThere (ShownBare jsx_import_source_row t) m.jsx_import_source
  pub jsx_import_source_types : IfThere (ShownBare jsx_import_source_types_row t) m.jsx_import_source_types
  pub source_map_url : IfThere (ShownBare source_mapping_url_row t) m.source_map_url
