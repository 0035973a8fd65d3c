-- Document 01's report: the bytes of a module's information.
use mathlib.Core.List.{List, [], ◌∷◌, ◌++◌, flat_map}
use Rattle.std.specs.Prelude.{ℕ, length}
use Rattle.text.specs.declared.position.Position.{Position}
use Rattle.wire.specs.Fields.{encode_flag}
use Rattle.wire.specs.Number.{encode_number}
use Rattle.wire.specs.Text.{encode_text}
use Rattle.wire.specs.Optional.{encode_optional}
use Rattle.analysis.specs.Mode.{mode_number}
use Rattle.report.specs.Names.{static_number, dynamic_number}
use Rattle.report.specs.ModuleInfo.{PositionRange, SpecifierWithRange, TypeScriptReference, path, types, JsDocImportInfo, KeyValue}
use Rattle.report.specs.ModuleInfo.{ImportAttributes, none, unknown, known, DynamicArgument, expr, string, template, StaticDependencyDescriptor}
use Rattle.report.specs.ModuleInfo.{DynamicDependencyDescriptor, DependencyDescriptor, static, dynamic, ModuleInfo}

-- a count, then each
unfoldable pub encode_list : {A : Type 0} → (A → List ℕ) → List A → List ℕ
encode_list f l = encode_number (length l) ++ flat_map f l

-- line, column
unfoldable pub encode_position : Position → List ℕ
encode_position p = encode_number p.line ++ encode_number p.column

unfoldable pub encode_range : PositionRange → List ℕ
encode_range r = encode_position r.start ++ encode_position r.end

unfoldable pub encode_specifier : SpecifierWithRange → List ℕ
encode_specifier s = encode_text s.text ++ encode_range s.range

-- byte 0 path, 1 types; of types the mode
unfoldable pub encode_reference : TypeScriptReference → List ℕ
encode_reference (path s) = 0 ∷ encode_specifier s
encode_reference (types s mode) = 1 ∷ (encode_specifier s ++ (mode_number mode ∷ []))

-- byte 1, specifier, mode
unfoldable pub encode_jsdoc : JsDocImportInfo → List ℕ
encode_jsdoc i = 1 ∷ (encode_specifier i.specifier ++ (mode_number i.mode ∷ []))

-- key, 0 unknown or 1 text
unfoldable pub encode_key_value : KeyValue → List ℕ
encode_key_value a = encode_text a.key ++ encode_optional encode_text a.value

-- 0 None, 1 Unknown, 2 count and pairs
unfoldable pub encode_attributes : ImportAttributes → List ℕ
encode_attributes none = 0 ∷ []
encode_attributes unknown = 1 ∷ []
encode_attributes (known l) = 2 ∷ encode_list encode_key_value l

-- 0 Expr, or 1 text, or 2 count and parts
unfoldable pub encode_argument : DynamicArgument → List ℕ
encode_argument expr = 0 ∷ []
encode_argument (string x) = 1 ∷ encode_text x
encode_argument (template l) = 2 ∷ encode_list (encode_optional encode_text) l

-- kind byte, optional types specifier, specifier, side effect flag, attributes
unfoldable pub encode_static : StaticDependencyDescriptor → List ℕ
encode_static d =
    static_number d.kind
    ∷ (encode_optional encode_specifier d.types_specifier
    ++ (encode_specifier d.specifier
    ++ (encode_flag d.side_effect
    ++ encode_attributes d.import_attributes)))

-- kind byte, optional types specifier, argument, its range, attributes
unfoldable pub encode_dynamic : DynamicDependencyDescriptor → List ℕ
encode_dynamic d =
    dynamic_number d.kind
    ∷ (encode_optional encode_specifier d.types_specifier
    ++ (encode_argument d.argument
    ++ (encode_range d.argument_range
    ++ encode_attributes d.import_attributes)))

unfoldable pub encode_dependency : DependencyDescriptor → List ℕ
encode_dependency (static d) = encode_static d
encode_dependency (dynamic d) = encode_dynamic d

unfoldable pub encode : ModuleInfo → List ℕ
encode m =
    encode_flag m.is_script
    ++ (encode_list encode_dependency m.dependencies
    ++ (encode_list encode_reference m.ts_references
    ++ (encode_optional encode_specifier m.self_types_specifier
    ++ (encode_optional encode_specifier m.jsx_import_source
    ++ (encode_optional encode_specifier m.jsx_import_source_types
    ++ (encode_list encode_jsdoc m.jsdoc_imports
    ++ encode_optional encode_specifier m.source_map_url))))))
