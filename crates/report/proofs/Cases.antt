-- Reports byte by byte, as document 01 states them: what the definitions encode and decode.
use Rattle.std.specs.Prelude.{Some, None}
use Rattle.laws.proofs.Prelude.{◌≡◌, refl, true, false, List, [], ◌∷◌, map, flat_map, ℕ}
use Rattle.laws.specs.{Decoded.ok, Ascii.ascii}
use Rattle.wire.specs.Fields.{byte, below, numbered, flag, bytes}
use Rattle.wire.specs.Number.{last_group, groups, number, encode_groups, encode_number}
use Rattle.wire.specs.{Text.encode_text, Optional.encode_optional, Optional.optional}
use Rattle.analysis.specs.declared.mode.TypeScriptTypesResolutionMode.TheVariants.{Import, Require}
use Rattle.report.specs.declared.names.StaticDependencyKind.TheVariants as statics
use Rattle.report.specs.declared.names.DynamicDependencyKind.TheVariants as dynamics
use Rattle.report.specs.ModuleInfo.{PositionRange, SpecifierWithRange, path, types, none, unknown, known, expr, string, template, static, dynamic}
use Rattle.report.specs.ModuleInfo.{ModuleInfo}
use Rattle.report.specs.Encode.{encode_list, encode_position, encode_range, encode_specifier, encode_reference, encode_jsdoc, encode_key_value}
use Rattle.report.specs.Encode.{encode_attributes, encode_argument, encode_static, encode_dynamic, encode_dependency, encode}
use Rattle.report.specs.Decode.{times, list, text, position, range, specifier, reference, jsdoc, key_value, attributes, argument, rest, dependency, report}

-- the range from one column of a line to another, and a text there
abbrev within : ℕ → ℕ → ℕ → PositionRange
within line from to = record { start = record { line = line; column = from }; end = record { line = line; column = to } }

abbrev placed : List ℕ → ℕ → ℕ → ℕ → SpecifierWithRange
placed x line from to = record { text = x; range = within line from to }

abbrev nothing : ModuleInfo
nothing = record {
  is_script = false;
  dependencies = [];
  ts_references = [];
  self_types_specifier = None;
  jsx_import_source = None;
  jsx_import_source_types = None;
  jsdoc_imports = [];
  source_map_url = None;
}

-- the source `/** {import("./a.ts").A} */`
abbrev example : ModuleInfo
example = record {
  is_script = false;
  dependencies = [];
  ts_references = [];
  self_types_specifier = None;
  jsx_import_source = None;
  jsx_import_source_types = None;
  jsdoc_imports = record { specifier = placed (ascii "./a.ts") 0 12 20; mode = None } ∷ [];
  source_map_url = None;
}

-- each kind of field
abbrev everything : ModuleInfo
everything = record {
  is_script = true;
  dependencies =
      static (record {
        kind = statics.Import;
        types_specifier = Some (placed (ascii "t") 0 1 4);
        specifier = placed (ascii "a") 1 7 10;
        side_effect = true;
        import_attributes = known (record { key = ascii "k"; value = None } ∷ record { key = ascii "type"; value = Some (ascii "json") } ∷ []);
      })
      ∷ dynamic (record {
        kind = dynamics.Require;
        types_specifier = None;
        argument = template (Some (ascii "./") ∷ None ∷ []);
        argument_range = within 2 8 200;
        import_attributes = unknown;
      })
      ∷ dynamic (record {
        kind = dynamics.Import;
        types_specifier = None;
        argument = string (ascii "b");
        argument_range = within 3 7 10;
        import_attributes = none;
      })
      ∷ dynamic (record { kind = dynamics.ImportDefer; types_specifier = None; argument = expr; argument_range = within 4 13 14; import_attributes = none })
      ∷ [];
  ts_references = path (placed (ascii "c") 5 21 24) ∷ types (placed (ascii "d") 6 22 25) (Some Require) ∷ [];
  self_types_specifier = Some (placed (ascii "e") 7 17 20);
  jsx_import_source = Some (placed (ascii "f") 8 20 21);
  jsx_import_source_types = Some (placed (ascii "g") 9 25 26);
  jsdoc_imports = record { specifier = placed (ascii "h") 10 12 15; mode = Some Import } ∷ [];
  source_map_url = Some (placed (ascii "i") 11 21 22);
}

abbrev cases : List (ModuleInfo × List ℕ)
cases =
    (nothing, 0 ∷ 0 ∷ 0 ∷ 0 ∷ 0 ∷ 0 ∷ 0 ∷ 0 ∷ [])
    ∷ (
      example,
      0  -- no script
          ∷ 0  -- dependencies
          ∷ 0  -- references
          ∷ 0  -- no self types
          ∷ 0  -- no JSX source
          ∷ 0  -- no JSX source types
          ∷ 1  -- JSDoc entries
          ∷ 1  -- JSDoc
          ∷ 6 ∷ 0x2E ∷ 0x2F ∷ 0x61 ∷ 0x2E ∷ 0x74 ∷ 0x73  -- its text
          ∷ 0 ∷ 12 ∷ 0 ∷ 20  -- its range
          ∷ 0  -- no mode
          ∷ 0  -- no source map
          ∷ [],
    )
    ∷ (
      everything,
      1  -- a script
          ∷ 4  -- dependencies
          ∷ 0 ∷ 1 ∷ 1 ∷ 0x74 ∷ 0 ∷ 1 ∷ 0 ∷ 4  -- Import, with types
          ∷ 1 ∷ 0x61 ∷ 1 ∷ 7 ∷ 1 ∷ 10 ∷ 1  -- its specifier, for its side effect
          ∷ 2 ∷ 2  -- its attributes
          ∷ 1 ∷ 0x6B ∷ 0  -- unknown
          ∷ 4 ∷ 0x74 ∷ 0x79 ∷ 0x70 ∷ 0x65 ∷ 1 ∷ 4 ∷ 0x6A ∷ 0x73 ∷ 0x6F ∷ 0x6E  -- a text
          ∷ 12 ∷ 0 ∷ 2 ∷ 2 ∷ 1 ∷ 2 ∷ 0x2E ∷ 0x2F ∷ 0  -- Require, a template: a text, an expression
          ∷ 2 ∷ 8 ∷ 2 ∷ 0xC8 ∷ 0x01 ∷ 1  -- its range, unknown attributes
          ∷ 9 ∷ 0 ∷ 1 ∷ 1 ∷ 0x62 ∷ 3 ∷ 7 ∷ 3 ∷ 10 ∷ 0  -- Import, a text
          ∷ 10 ∷ 0 ∷ 0 ∷ 4 ∷ 13 ∷ 4 ∷ 14 ∷ 0  -- ImportDefer, an expression
          ∷ 2  -- references
          ∷ 0 ∷ 1 ∷ 0x63 ∷ 5 ∷ 21 ∷ 5 ∷ 24  -- path
          ∷ 1 ∷ 1 ∷ 0x64 ∷ 6 ∷ 22 ∷ 6 ∷ 25 ∷ 2  -- types, mode require
          ∷ 1 ∷ 1 ∷ 0x65 ∷ 7 ∷ 17 ∷ 7 ∷ 20  -- self types
          ∷ 1 ∷ 1 ∷ 0x66 ∷ 8 ∷ 20 ∷ 8 ∷ 21  -- JSX source
          ∷ 1 ∷ 1 ∷ 0x67 ∷ 9 ∷ 25 ∷ 9 ∷ 26  -- JSX source types
          ∷ 1 ∷ 1 ∷ 1 ∷ 0x68 ∷ 10 ∷ 12 ∷ 10 ∷ 15 ∷ 1  -- JSDoc entries: one, mode import
          ∷ 1 ∷ 1 ∷ 0x69 ∷ 11 ∷ 21 ∷ 11 ∷ 22  -- source map
          ∷ [],
    )
    ∷ []

as_stated : (map (λ c. (c.0, encode c.0)) cases ≡ cases) × (map (λ c. report c.1) cases ≡ map (λ c. ok c.0 []) cases)
unfolding byte below numbered flag bytes last_group groups number encode_groups encode_number encode_text flat_map encode_optional encode_list encode_position
    encode_range encode_specifier
    encode_reference encode_jsdoc encode_key_value encode_attributes encode_argument encode_static encode_dynamic encode_dependency encode optional times list
    text position range
    specifier reference jsdoc key_value attributes argument rest dependency report
as_stated = (refl, refl)
