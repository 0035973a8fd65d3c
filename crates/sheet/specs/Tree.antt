-- The syntax tree of a sheet, as document 01 lists its nodes. What the parser found beyond it is flattened into children.
use Rattle.std.specs.Prelude.{Bool, List, ℕ, Option}
use Rattle.sheet.specs.declared.fields.Span.{Span}
use Rattle.sheet.specs.declared.names.ImportPhase.{ImportPhase}

-- a String node that another node holds: its span, marks included, and its text
pub record Quoted : Type 0 where
  pub span : Span
  pub text : List ℕ

-- a template's pieces of text, each cooked or not
abbrev pub Pieces : Type 0
Pieces = List (Option (List ℕ))

mutual
  -- the nodes by their thirteen tags; 6, 8 and 11 have two forms
  pub data Node : Type 0 where
    other : Span → Nodes → Node  -- 0
    string : Span → List ℕ → Node  -- 1
    name : Span → List ℕ → Node  -- 2
    template : Span → Pieces → Nodes → Node  -- 3
    binary : Span → Bool → Node → Node → Node  -- 4: is it a plus?
    object : Span → Properties → Node  -- 5
    import_call : Span → ImportPhase → Arguments → Nodes → Node  -- 6, of an import: arguments, further children
    call : Span → Node → Arguments → Nodes → Node  -- 6, of an expression
    import_decl : Span → Bool → ImportPhase → Bool → Quoted → Attributes → Node  -- 7: type-only, phase, side effect
    named_export : Span → Bool → Node  -- 8, without a String: type-only
    export_from : Span → Bool → Quoted → Attributes → Node  -- 8, with a String
    export_all : Span → Bool → Quoted → Attributes → Node  -- 9: type-only
    import_type : Span → Quoted → Nodes → Attributes → Node  -- 10
    import_equals : Span → Node  -- 11, not external
    import_require : Span → Bool → Bool → Quoted → Node  -- 11, external: type-only, export
    module_decl : Span → Option Quoted → Nodes → Node  -- 12

  pub data Nodes : Type 0 where
    none : Nodes
    more : Node → Nodes → Nodes

  -- the arguments of a call, each with its own span: is it spread?
  pub data Arguments : Type 0 where
    no_arguments : Arguments
    argument : Bool → Span → Node → Arguments → Arguments

  -- the properties of an Object, those with a key by its kind
  pub data Properties : Type 0 where
    no_properties : Properties
    spread : Node → Properties → Properties
    other_property : Node → Properties → Properties
    child_key : Node → Node → Properties → Properties
    string_key : List ℕ → Node → Properties → Properties
    name_key : List ℕ → Node → Properties → Properties

  -- an Object behind `with`, or none
  pub data Attributes : Type 0 where
    without : Attributes
    with_object : Span → Properties → Attributes
