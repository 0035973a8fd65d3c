-- The kind of a dependency, read by its number.
use Rattle.laws.proofs.Prelude.{◌≡◌, ap, ◌∙◌, ℕ, ◌<◌, arith}
use Rattle.wire.specs.Fields.{value_of}
use Rattle.report.specs.declared.names.{StaticDependencyKind.StaticDependencyKind, DynamicDependencyKind.DynamicDependencyKind, DependencyKind.DependencyKind}
use Rattle.report.specs.declared.names.DependencyKind.TheVariants.{Static, Dynamic}
use Rattle.report.{specs.Names.dependency_number, specs.Names.dependency_kinds, proofs.KindNumbers.dependency_numbers}

-- its number is a byte below 128
pub small : (kind : DependencyKind) → dependency_number kind < 128
small kind = omega (arith, dependency_numbers.few kind)

-- the kind that a number gives is the one that has it
pub told : {n : ℕ} {given : DependencyKind} → given ≡ value_of dependency_kinds n → (kind : DependencyKind) → n ≡ dependency_number kind → given ≡ kind
told e kind is = e ∙ ap (value_of dependency_kinds) is ∙ dependency_numbers.back kind

-- no kind is both static and dynamic
pub apart : {a : StaticDependencyKind} {b : DynamicDependencyKind} → Static a ≡ Dynamic b → ⊥
apart e = let z : ◌≡◌ {A = ℕ} 0 1 = cc in omega arith

-- a static kind is itself
pub static_told : {a b : StaticDependencyKind} → Static a ≡ Static b → a ≡ b
static_told e = cc
