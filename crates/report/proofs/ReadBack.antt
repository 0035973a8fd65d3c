-- A valid module's information is read back from its report, so that no two have one report.
use Rattle.std.specs.Prelude.{Some, None}
use Rattle.laws.proofs.Prelude.{◌≡◌, refl, true, false, List, [], ◌∷◌, ◌++◌, append_assoc, flat_map, ℕ, length}
use Rattle.laws.specs.{Decoded.ok, Decoded.Decoder, Codec.IfThere, Codec.All}
use Rattle.wire.{specs.Fields.byte, specs.Text.encode_text, specs.Optional.encode_optional, specs.Optional.optional, proofs.NumberCodec.number_codec}
use Rattle.wire.proofs.{TextCodec.flag_codec, TextCodec.bytes_codec, Numbered.numbered_codec}
use Rattle.report.specs.declared.names.DependencyKind.TheVariants.{Static, Dynamic}
use Rattle.report.specs.ModuleInfo.{path, types, none, unknown, known, expr, string, template, StaticDependencyDescriptor}
use Rattle.report.specs.ModuleInfo.{DynamicDependencyDescriptor, static, dynamic}
use Rattle.report.specs.Encode.{encode_list, encode_position, encode_range, encode_specifier, encode_reference, encode_jsdoc, encode_key_value}
use Rattle.report.specs.Encode.{encode_attributes, encode_argument, encode_static, encode_dynamic, encode_dependency, encode}
use Rattle.report.specs.Decode.{times, list, text, position, range, specifier, reference, jsdoc, key_value, attributes, argument, rest, dependency, report}
use Rattle.report.specs.Valid.{Short, ValidPosition, ValidRange, ValidSpecifier, ValidReference, ValidJsDoc, ValidKeyValue, ValidAttributes}
use Rattle.report.specs.Valid.{ValidArgument, ValidStatic, ValidDynamic, ValidDependency, Valid}
use Rattle.report.proofs.{KindNumbers.dependency_numbers, Modes.mode_numbers}

-- each valid value is decoded from its bytes, whatever follows them
pub record ReadBack {A : Type 0} (decode : Decoder A) (encode : A → List ℕ) (Valid : A → Type 0) : Type 0 where
  pub back : (a : A) → Valid a → (t : List ℕ) → decode (encode a ++ t) ≡ ok a t

module _ {A : Type 0} {d : Decoder A} {f : A → List ℕ} {P : A → Type 0} (element : ReadBack d f P) where
  optional_back : ReadBack (optional d) (encode_optional f) (IfThere P)
  unfolding optional encode_optional
  optional_back = record {
    back = elim [
      | None ↦ λ v t. rw (flag_codec.complete false tt)
      | Some a ↦ λ v t. rw (flag_codec.complete true tt (f a ++ t), element.back a v t)
    ];
  }

  times_back : (l : List A) → All P l → (t : List ℕ) → times d (length l) (flat_map f l ++ t) ≡ ok l t
  unfolding times flat_map
  times_back [] v t = refl
  times_back (a ∷ l) v t = rw (append_assoc (f a) (flat_map f l) t, element.back a v.0 (flat_map f l ++ t), times_back l v.1 t)

  list_back : ReadBack (list d) (encode_list f) (λ l. Short l × All P l)
  unfolding list encode_list
  list_back = record { back = λ l v t. rw (append_assoc, number_codec.complete (length l) v.0, times_back l v.1 t) }

text_back : ReadBack text encode_text Short
unfolding text encode_text
text_back = record { back = λ x v t. rw (append_assoc, number_codec.complete (length x) v, (bytes_codec (length x)).complete x refl) }

position_back : ReadBack position encode_position ValidPosition
unfolding position encode_position
position_back = record { back = λ p v t. rw (append_assoc, number_codec.complete p.line v.line, number_codec.complete p.column v.column) }

range_back : ReadBack range encode_range ValidRange
unfolding range encode_range
range_back = record { back = λ r v t. rw (append_assoc, position_back.back r.start v.start, position_back.back r.end v.end) }

specifier_back : ReadBack specifier encode_specifier ValidSpecifier
unfolding specifier encode_specifier
specifier_back = record { back = λ s v t. rw (append_assoc, text_back.back s.text v.text, range_back.back s.range v.range) }

reference_back : ReadBack reference encode_reference ValidReference
unfolding reference encode_reference
reference_back = record {
  back = elim [
    | path s ↦ λ v t. rw (flag_codec.complete false tt, specifier_back.back s v)
    | types s mode ↦ λ v t. rw (append_assoc, flag_codec.complete true tt, specifier_back.back s v, (numbered_codec mode_numbers).complete mode tt)
  ];
}

jsdoc_back : ReadBack jsdoc encode_jsdoc ValidJsDoc
unfolding jsdoc encode_jsdoc
jsdoc_back = record {
  back = λ i v t. rw (append_assoc, flag_codec.complete true tt, specifier_back.back i.specifier v, (numbered_codec mode_numbers).complete i.mode tt);
}

key_value_back : ReadBack key_value encode_key_value ValidKeyValue
unfolding key_value encode_key_value
key_value_back = record { back = λ a v t. rw (append_assoc, text_back.back a.key v.key, (optional_back text_back).back a.value v.value) }

attributes_back : ReadBack attributes encode_attributes ValidAttributes
unfolding attributes encode_attributes byte
attributes_back = record {
  back = elim [ none ↦ λ v t. refl | unknown ↦ λ v t. refl | known l ↦ λ v t. rw ((list_back key_value_back).back l v) ];
}

argument_back : ReadBack argument encode_argument ValidArgument
unfolding argument encode_argument byte
argument_back = record {
  back = elim [
    | expr ↦ λ v t. refl
    | string x ↦ λ v t. rw (text_back.back x v)
    | template l ↦ λ v t. rw ((list_back (optional_back text_back)).back l v)
  ];
}

static_back : (d : StaticDependencyDescriptor) → ValidStatic d → (t : List ℕ) → dependency (encode_static d ++ t) ≡ ok (static d) t
unfolding dependency rest encode_static
static_back d v t =
    simp append_assoc
    (rw (
      (numbered_codec dependency_numbers).complete (Static d.kind) tt,
      (optional_back specifier_back).back d.types_specifier v.types_specifier,
      specifier_back.back d.specifier v.specifier,
      flag_codec.complete d.side_effect tt,
      attributes_back.back d.import_attributes v.import_attributes,
    ))

dynamic_back : (d : DynamicDependencyDescriptor) → ValidDynamic d → (t : List ℕ) → dependency (encode_dynamic d ++ t) ≡ ok (dynamic d) t
unfolding dependency rest encode_dynamic
dynamic_back d v t =
    simp append_assoc
    (rw (
      (numbered_codec dependency_numbers).complete (Dynamic d.kind) tt,
      (optional_back specifier_back).back d.types_specifier v.types_specifier,
      argument_back.back d.argument v.argument,
      range_back.back d.argument_range v.argument_range,
      attributes_back.back d.import_attributes v.import_attributes,
    ))

dependency_back : ReadBack dependency encode_dependency ValidDependency
unfolding encode_dependency
dependency_back = record { back = elim [ static d ↦ static_back d | dynamic d ↦ dynamic_back d ] }

pub report_back : ReadBack report encode Valid
unfolding report encode
report_back = record {
  back = λ m v t. simp append_assoc
      (rw (
        flag_codec.complete m.is_script tt,
        (list_back dependency_back).back m.dependencies v.dependencies,
        (list_back reference_back).back m.ts_references v.ts_references,
        (optional_back specifier_back).back m.self_types_specifier v.self_types_specifier,
        (optional_back specifier_back).back m.jsx_import_source v.jsx_import_source,
        (optional_back specifier_back).back m.jsx_import_source_types v.jsx_import_source_types,
        (list_back jsdoc_back).back m.jsdoc_imports v.jsdoc_imports,
        (optional_back specifier_back).back m.source_map_url v.source_map_url,
      ));
}
