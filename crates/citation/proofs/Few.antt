-- A report has at least eight bytes for each of its dependencies.
use Rattle.std.specs.Prelude.{Some, None}
use Rattle.laws.proofs.Prelude.{List, [], ◌∷◌, flat_map, Option, ◌*◌, ◌≤◌, ◌<◌, arith, length, length-append}
use Rattle.wire.{specs.Text.encode_text, specs.Optional.encode_optional, proofs.Lengths.number_long}
use Rattle.report.specs.ModuleInfo.{SpecifierWithRange, ImportAttributes, none, unknown, known, DynamicArgument, expr, string, template}
use Rattle.report.specs.ModuleInfo.{DependencyDescriptor, static, dynamic, ModuleInfo}
use Rattle.report.specs.Encode.{encode_list, encode_specifier, encode_attributes, encode_argument, encode_static, encode_dynamic, encode_dependency, encode}
use Rattle.citation.proofs.Lengths.{range_long}

optional_long : (o : Option SpecifierWithRange) → 0 < length (encode_optional encode_specifier o)
unfolding encode_optional
optional_long None = omega arith
optional_long (Some s) = omega arith

attributes_long : (a : ImportAttributes) → 0 < length (encode_attributes a)
unfolding encode_attributes
attributes_long none = omega arith
attributes_long unknown = omega arith
attributes_long (known l) = omega arith

argument_long : (a : DynamicArgument) → 0 < length (encode_argument a)
unfolding encode_argument
argument_long expr = omega arith
argument_long (string x) = omega arith
argument_long (template l) = omega arith

dependency_long : (d : DependencyDescriptor) → 8 ≤ length (encode_dependency d)
unfolding encode_dependency encode_static encode_dynamic encode_specifier encode_text
dependency_long (static d) =
    simp length-append (omega (
      arith,
      optional_long d.types_specifier,
      number_long (length d.specifier.text),
      range_long d.specifier.range,
      attributes_long d.import_attributes,
    ))
dependency_long (dynamic d) =
    simp length-append
    (omega (arith, optional_long d.types_specifier, argument_long d.argument, range_long d.argument_range, attributes_long d.import_attributes))

all_long : (l : List DependencyDescriptor) → 8 * length l ≤ length (flat_map encode_dependency l)
unfolding flat_map
all_long [] = omega arith
all_long (d ∷ l) = simp length-append (omega (arith, dependency_long d, all_long l))

pub few_dependencies : (m : ModuleInfo) → 8 * length m.dependencies ≤ length (encode m)
unfolding encode encode_list
few_dependencies m = simp length-append (omega (arith, all_long m.dependencies))
