-- The dependencies of a tree beside the visits that give them: one to one, and in their order.
use Rattle.std.specs.Prelude.{◌≡◌, true, false, List, [], ◌∷◌, ℕ}
use Rattle.std.specs.Prelude.{None, Some}
use Rattle.sheet.specs.Tree.{Quoted, no_arguments, argument}
use Rattle.sheet.specs.Shape.{Shape, text, named, pieces, operation, properties, anything, shape}
use Rattle.sheet.specs.Walk.{Visit, called, imported, exported, typed, required, declared, start_of}
use Rattle.sheet.specs.Walked.{gives}
use Rattle.sheet.specs.Sheet.{Sheet}
use Rattle.report.specs.ModuleInfo.{SpecifierWithRange, ImportAttributes, none, DynamicArgument, string, DependencyDescriptor, static, dynamic}
use Rattle.report.specs.Texts.{Reports}
use Rattle.report.specs.Stands.{InQuotation, StandsAt}
use Rattle.attributes.specs.Right.{StaticOf, TypeOf, DynamicOf}
use Rattle.pragmas.specs.Pragmas.{types_at}
use Rattle.pragmas.specs.Present.{TypesPresent}
use Rattle.pragmas.specs.Texts.{types_of}
use Rattle.dep.specs.Collect.{entry_of}

-- each visit that gives an entry has one, which is so to the visit; no other has one
pub data InTurn {A : Type 0} (P : Visit → A → Type 0) : List Visit → List A → Type 0 where
  nothing : InTurn P [] []
  entry : {v : Visit} {vs : List Visit} {d : A} {l : List A} → gives v ≡ true → P v d → InTurn P vs l → InTurn P (v ∷ vs) (d ∷ l)
  passed : {v : Visit} {vs : List Visit} {l : List A} → gives v ≡ false → InTurn P vs l → InTurn P (v ∷ vs) l

abbrev pub attributes_of : DependencyDescriptor → ImportAttributes
attributes_of (static d) = d.import_attributes
attributes_of (dynamic d) = d.import_attributes

-- the attributes of an entry, by its node's Object or its call's second argument; a call without arguments gives no entry
abbrev pub Attributed : Visit → ImportAttributes → Type 0
Attributed (called sp e no_arguments) = λ a. Unit {0}
Attributed (called sp e (argument dots at n xs)) = DynamicOf xs
Attributed (imported sp type_only phase side_effect x o) = StaticOf o
Attributed (exported sp type_only x o) = StaticOf o
Attributed (typed sp x o) = TypeOf o
Attributed (required sp type_only export x) = λ a. a ≡ none
Attributed (declared sp x) = λ a. a ≡ none

-- a static entry, by its node's String: the text, and the source at the range is that String, a quotation
pub record SpecifierOf (source : List ℕ) (x : Quoted) (specifier : SpecifierWithRange) : Type 0 where
  pub text : Reports x.text specifier.text
  pub stands : StandsAt InQuotation source specifier x.span

abbrev pub Specifies : List ℕ → Quoted → DependencyDescriptor → Type 0
Specifies source x (static d) = SpecifierOf source x d.specifier
Specifies source x (dynamic d) = ⊥

-- the text of a dynamic entry, by a String that is its call's first argument
abbrev pub Argues : Shape → DynamicArgument → Type 0
Argues (text x) a = (y : List ℕ) × (a ≡ string y) × Reports x y
Argues (named x) a = Unit {0}
Argues (pieces ps) a = Unit {0}
Argues (operation plus l r) a = Unit {0}
Argues (properties ps) a = Unit {0}
Argues anything a = Unit {0}

abbrev pub ArguedBy : Shape → DependencyDescriptor → Type 0
ArguedBy v (static d) = ⊥
ArguedBy v (dynamic d) = Argues v d.argument

-- the text of an entry, over a source
abbrev pub Worded : List ℕ → Visit → DependencyDescriptor → Type 0
Worded source (called sp e no_arguments) = λ d. Unit {0}
Worded source (called sp e (argument dots at n xs)) = ArguedBy (shape n)
Worded source (imported sp type_only phase side_effect x o) = Specifies source x
Worded source (exported sp type_only x o) = Specifies source x
Worded source (typed sp x o) = Specifies source x
Worded source (required sp type_only export x) = Specifies source x
Worded source (declared sp None) = λ d. Unit {0}
Worded source (declared sp (Some x)) = Specifies source x

-- a dependency is the entry of a visit, with the types that the comments before its node give, its attributes, its text and a static one's place
pub record EntryOf (t : Sheet) (v : Visit) (d : DependencyDescriptor) : Type 0 where
  pub entry : entry_of t.source (types_at t) v ≡ d ∷ []
  pub types : TypesPresent t (start_of v) (types_of d)
  pub attributes : Attributed v (attributes_of d)
  pub worded : Worded t.source v d
