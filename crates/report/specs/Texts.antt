-- The texts of a report: what is reported of a text of WTF-8, and what holds of each text.
use Rattle.std.specs.Prelude.{List, map, ℕ}
use Rattle.laws.specs.Codec.{All, IfThere}
use Rattle.text.specs.declared.utf8.Encoding.TheVariants.{Utf8, Wtf8}
use Rattle.text.specs.WellFormed.{TextOf}
use Rattle.text.specs.Lossy.{reported}
use Rattle.report.specs.ModuleInfo.{SpecifierWithRange, TypeScriptReference, path, types, JsDocImportInfo, KeyValue, ImportAttributes, none}
use Rattle.report.specs.ModuleInfo.{unknown, known, DynamicArgument, expr, string, template, DependencyDescriptor, static, dynamic, ModuleInfo}

-- y is what is reported of the text x of WTF-8: its code points, with U+FFFD for each surrogate, in UTF-8
pub record Reports (x y : List ℕ) : Type 0 where
  pub points : List ℕ
  pub read : TextOf Wtf8 points x
  pub given : TextOf Utf8 (map reported points) y

module _ (P : List ℕ → Type 0) where
  abbrev pub SpecifierText : SpecifierWithRange → Type 0
  SpecifierText s = P s.text

  abbrev pub ReferenceText : TypeScriptReference → Type 0
  ReferenceText (path s) = SpecifierText s
  ReferenceText (types s mode) = SpecifierText s

  abbrev pub JsDocText : JsDocImportInfo → Type 0
  JsDocText i = SpecifierText i.specifier

  -- a key, and its value if that is a text
  abbrev pub PairTexts : KeyValue → Type 0
  PairTexts a = P a.key × IfThere P a.value

  abbrev pub AttributeTexts : ImportAttributes → Type 0
  AttributeTexts none = Unit {0}
  AttributeTexts unknown = Unit {0}
  AttributeTexts (known l) = All PairTexts l

  abbrev pub ArgumentTexts : DynamicArgument → Type 0
  ArgumentTexts expr = Unit {0}
  ArgumentTexts (string x) = P x
  ArgumentTexts (template l) = All (IfThere P) l

  -- its types, its specifier or argument, its attributes
  abbrev pub DependencyTexts : DependencyDescriptor → Type 0
  DependencyTexts (static d) = IfThere SpecifierText d.types_specifier × (SpecifierText d.specifier × AttributeTexts d.import_attributes)
  DependencyTexts (dynamic d) = IfThere SpecifierText d.types_specifier × (ArgumentTexts d.argument × AttributeTexts d.import_attributes)

  pub record EachText (m : ModuleInfo) : Type 0 where
    pub dependencies : All DependencyTexts m.dependencies
    pub ts_references : All ReferenceText m.ts_references
    pub self_types_specifier : IfThere SpecifierText m.self_types_specifier
    pub jsx_import_source : IfThere SpecifierText m.jsx_import_source
    pub jsx_import_source_types : IfThere SpecifierText m.jsx_import_source_types
    pub jsdoc_imports : All JsDocText m.jsdoc_imports
    pub source_map_url : IfThere SpecifierText m.source_map_url
