-- Which entries of a module are judged, and what they ask for.
use Rattle.std.specs.Prelude.{◌≡◌, Bool, true, false, ◌⊎◌, List, ◌++◌, ℕ}
use Rattle.laws.specs.Ascii.{ascii}
use Rattle.report.specs.declared.names.StaticDependencyKind.{StaticDependencyKind}
use Rattle.report.specs.declared.names.StaticDependencyKind.TheVariants as statics
use Rattle.report.specs.ModuleInfo.{StaticDependencyDescriptor, DependencyDescriptor, static}

-- ImportType, ExportType and MaybeTsModuleAugmentation are left out
abbrev pub LeftOut : StaticDependencyKind → Type 0
LeftOut kind = (kind ≡ statics.ImportType) ⊎ ((kind ≡ statics.ExportType) ⊎ (kind ≡ statics.MaybeTsModuleAugmentation))

-- the text starts with `./`, `../` or `/`
abbrev pub Relative : List ℕ → Type 0
Relative x = (rest : List ℕ) × ((x ≡ ascii "./" ++ rest) ⊎ ((x ≡ ascii "../" ++ rest) ⊎ (x ≡ ascii "/" ++ rest)))

-- the entry is judged: it is static, of a kind that is not left out, and its specifier x starts so
pub record Asks (entry : DependencyDescriptor) (x : List ℕ) : Type 0 where
  pub descriptor : StaticDependencyDescriptor
  pub is_static : entry ≡ static descriptor
  pub judged : LeftOut descriptor.kind → ⊥
  pub specifier : descriptor.specifier.text ≡ x
  pub relative : Relative x

-- the same as tests: is a kind left out?
abbrev pub left_out : StaticDependencyKind → Bool
left_out statics.Import = false
left_out statics.ImportDefer = false
left_out statics.ImportSource = false
left_out statics.ImportType = true
left_out statics.ImportEquals = false
left_out statics.Export = false
left_out statics.ExportType = true
left_out statics.ExportEquals = false
left_out statics.MaybeTsModuleAugmentation = true
