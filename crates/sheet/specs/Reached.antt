-- Which nodes the walk reaches, without a walk: children in sheet order, an Object of 10 last, and nothing inside 7, 8, 9 and 11; and refusal 9 over them.
use Rattle.std.specs.Prelude.{◌≡◌, Bool, true, false, cond, None, Option, Some}
use mathlib.Core.List.{List, [], ◌∷◌, ◌++◌, Memᴰ}
use Rattle.laws.specs.Ascii.{ascii}
use Rattle.sheet.specs.declared.fields.Span.{Span}
use Rattle.sheet.specs.declared.names.ImportPhase.{ImportPhase}
use Rattle.sheet.specs.Tree.{Pieces, Node, other, string, name, template, binary, object, import_call, call, import_decl, named_export, export_from}
use Rattle.sheet.specs.Tree.{export_all, import_type, import_equals, import_require, module_decl, Nodes, none, more, Arguments, no_arguments}
use Rattle.sheet.specs.Tree.{argument, Properties, no_properties, spread, other_property, child_key, string_key, name_key, Attributes, without}
use Rattle.sheet.specs.Tree.{with_object}
use Rattle.sheet.specs.Shape.{shape, named, pieces}
use Rattle.sheet.specs.Walk.{Visit, called, importing, expression, imported, exported, typed, required, declared}

abbrev pub nodes_in : Nodes → List Node
nodes_in none = []
nodes_in (more n ns) = n ∷ nodes_in ns

abbrev pub arguments_in : Arguments → List Node
arguments_in no_arguments = []
arguments_in (argument dots sp n xs) = n ∷ arguments_in xs

abbrev pub properties_in : Properties → List Node
properties_in no_properties = []
properties_in (spread n ps) = n ∷ properties_in ps
properties_in (other_property n ps) = n ∷ properties_in ps
properties_in (child_key k v ps) = k ∷ v ∷ properties_in ps
properties_in (string_key k v ps) = v ∷ properties_in ps
properties_in (name_key k v ps) = v ∷ properties_in ps

abbrev pub object_in : Attributes → List Node
object_in without = []
object_in (with_object sp ps) = object sp ps ∷ []

-- the children of a node that are walked, in sheet order
abbrev pub children : Node → List Node
children (other sp ns) = nodes_in ns
children (string sp x) = []
children (name sp x) = []
children (template sp ps ns) = nodes_in ns
children (binary sp plus l r) = l ∷ r ∷ []
children (object sp ps) = properties_in ps
children (import_call sp phase xs ns) = arguments_in xs ++ nodes_in ns
children (call sp e xs ns) = e ∷ (arguments_in xs ++ nodes_in ns)
children (import_decl sp type_only phase side_effect x a) = []
children (named_export sp type_only) = []
children (export_from sp type_only x a) = []
children (export_all sp type_only x a) = []
children (import_type sp x ns a) = nodes_in ns ++ object_in a
children (import_equals sp) = []
children (import_require sp type_only export x) = []
children (module_decl sp x ns) = nodes_in ns

-- the root is walked, and so is each child of a walked node
pub data Walked (root : Node) : Node → Type 0 where
  itself : Walked root root
  child : {n c : Node} → Walked root n → Memᴰ c (children n) → Walked root c

-- what a node gives of its own
abbrev pub own_visit : Node → Option Visit
own_visit (other sp ns) = None
own_visit (string sp x) = None
own_visit (name sp x) = None
own_visit (template sp ps ns) = None
own_visit (binary sp plus l r) = None
own_visit (object sp ps) = None
own_visit (import_call sp phase xs ns) = Some (called sp (importing phase) xs)
own_visit (call sp e xs ns) = Some (called sp (expression e) xs)
own_visit (import_decl sp type_only phase side_effect x a) = Some (imported sp type_only phase side_effect x a)
own_visit (named_export sp type_only) = None
own_visit (export_from sp type_only x a) = Some (exported sp type_only x a)
own_visit (export_all sp type_only x a) = Some (exported sp type_only x a)
own_visit (import_type sp x ns a) = Some (typed sp x a)
own_visit (import_equals sp) = None
own_visit (import_require sp type_only export x) = Some (required sp type_only export x)
own_visit (module_decl sp x ns) = Some (declared sp x)

-- a call is visited behind its children, any other node before them
abbrev pub is_call : Visit → Bool
is_call (called sp e xs) = true
is_call (imported sp type_only phase side_effect x a) = false
is_call (exported sp type_only x a) = false
is_call (typed sp x a) = false
is_call (required sp type_only export x) = false
is_call (declared sp x) = false

abbrev pub placed : Option Visit → List Visit → List Visit
placed None l = l
placed (Some v) l = cond (is_call v) (l ++ v ∷ []) (v ∷ l)

-- the first of the arguments is a template with an uncooked piece
pub data UncookedFirst : Arguments → Type 0 where
  uncooked_first : {dots : Bool} {at : Span} {n : Node} {xs : Arguments} (ps : Pieces) → shape n ≡ pieces ps → Memᴰ None ps
      → UncookedFirst (argument dots at n xs)

-- a call meets refusal 9: an import of any phase, or one whose expression is the Name `require`
pub data MeetsNine : Node → Type 0 where
  of_import : {sp : Span} {phase : ImportPhase} {xs : Arguments} {ns : Nodes} → UncookedFirst xs → MeetsNine (import_call sp phase xs ns)
  of_require : {sp : Span} {e : Node} {xs : Arguments} {ns : Nodes} → shape e ≡ named (ascii "require") → UncookedFirst xs → MeetsNine (call sp e xs ns)
