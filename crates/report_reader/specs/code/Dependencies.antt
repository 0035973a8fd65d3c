-- What the code reads of a dependency: of a static one its kind and its specifier's text, of a dynamic one nothing.
use Rattle.std.specs.Prelude.{◌≡◌, List, ◌++◌, ℕ}
use Rattle.std.specs.Prelude.{None, Option, Some, option_map}
use Rattle.std.specs.Borrow.{Bor}
use Rattle.report.specs.declared.names.StaticDependencyKind.{StaticDependencyKind}
use Rattle.report.specs.ModuleInfo.{DependencyDescriptor, static, dynamic}
use Rattle.report.specs.Encode.{encode_dependency}
use Rattle.report.specs.Valid.{ValidDependency}
use Rattle.report_reader.specs.declared.dependencies.StaticRead.{StaticRead}

-- a kind and a text
pub record Named : Type 0 where
  pub kind : StaticDependencyKind
  pub text : List ℕ

abbrev pub named_in : DependencyDescriptor → Option Named
named_in (static d) = Some (record { kind = d.kind; text = d.specifier.text })
named_in (dynamic d) = None

abbrev pub named_as : StaticRead → Named
named_as r = record { kind = r.kind; text = r.specifier.now }

-- if the bytes of a valid dependency stand at the front of some bytes, these are read, and the bytes behind it are found
abbrev pub ReadsDependency : List ℕ → Option StaticRead × Bor (List ℕ) → Type 0
ReadsDependency s r =
    (d : DependencyDescriptor) → ValidDependency d → (t : List ℕ) → s ≡ encode_dependency d ++ t
    → (option_map named_as r.0 ≡ named_in d) × (r.1.now ≡ t)
