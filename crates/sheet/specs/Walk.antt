-- The walk over the tree, once for all that is found by it: children in sheet order, an Object of tag 10 last, and nothing inside 7, 8, 9 and 11.
-- A call is visited behind its children, an import type and a module declaration before them.
use Rattle.std.specs.Prelude.{Bool, List, [], ◌∷◌, ◌++◌, ℕ, Option}
use Rattle.sheet.specs.declared.fields.Span.{Span}
use Rattle.sheet.specs.declared.names.ImportPhase.{ImportPhase}
use Rattle.sheet.specs.Tree.{Quoted, Node, other, string, name, template, binary, object, import_call, call, import_decl, named_export, export_from}
use Rattle.sheet.specs.Tree.{export_all, import_type, import_equals, import_require, module_decl, Nodes, none, more, Arguments, no_arguments}
use Rattle.sheet.specs.Tree.{argument, Properties, no_properties, spread, other_property, child_key, string_key, name_key, Attributes, without}
use Rattle.sheet.specs.Tree.{with_object}

-- what a call calls
pub data Callee : Type 0 where
  importing : ImportPhase → Callee
  expression : Node → Callee

-- what a node that is visited has of its own; each begins with the node's span
pub data Visit : Type 0 where
  called : Span → Callee → Arguments → Visit
  imported : Span → Bool → ImportPhase → Bool → Quoted → Attributes → Visit
  exported : Span → Bool → Quoted → Attributes → Visit
  typed : Span → Quoted → Attributes → Visit
  required : Span → Bool → Bool → Quoted → Visit
  declared : Span → Option Quoted → Visit

-- where the node starts
abbrev pub start_of : Visit → ℕ
start_of (called sp e xs) = sp.start
start_of (imported sp type_only phase side_effect x a) = sp.start
start_of (exported sp type_only x a) = sp.start
start_of (typed sp x a) = sp.start
start_of (required sp type_only export x) = sp.start
start_of (declared sp x) = sp.start

-- what is made of nothing, of one part and a later one, and of a visit
pub record Collector (M : Type 0) : Type 0 where
  pub nothing : M
  pub both : M → M → M
  pub own : Visit → M

module _ {M : Type 0} (c : Collector M) where
  abbrev mutual
    pub walk : Node → M
    walk (other sp ns) = walk_all ns
    walk (string sp x) = c.nothing
    walk (name sp x) = c.nothing
    walk (template sp ps ns) = walk_all ns
    walk (binary sp plus l r) = c.both (walk l) (walk r)
    walk (object sp ps) = walk_in ps
    walk (import_call sp phase xs ns) = c.both (walk_of xs) (c.both (walk_all ns) (c.own (called sp (importing phase) xs)))
    walk (call sp e xs ns) = c.both (walk e) (c.both (walk_of xs) (c.both (walk_all ns) (c.own (called sp (expression e) xs))))
    walk (import_decl sp type_only phase side_effect x a) = c.own (imported sp type_only phase side_effect x a)
    walk (named_export sp type_only) = c.nothing
    walk (export_from sp type_only x a) = c.own (exported sp type_only x a)
    walk (export_all sp type_only x a) = c.own (exported sp type_only x a)
    walk (import_type sp x ns a) = c.both (c.own (typed sp x a)) (c.both (walk_all ns) (walk_with a))
    walk (import_equals sp) = c.nothing
    walk (import_require sp type_only export x) = c.own (required sp type_only export x)
    walk (module_decl sp x ns) = c.both (c.own (declared sp x)) (walk_all ns)

    pub walk_all : Nodes → M
    walk_all none = c.nothing
    walk_all (more n ns) = c.both (walk n) (walk_all ns)

    pub walk_of : Arguments → M
    walk_of no_arguments = c.nothing
    walk_of (argument dots sp n xs) = c.both (walk n) (walk_of xs)

    pub walk_in : Properties → M
    walk_in no_properties = c.nothing
    walk_in (spread n ps) = c.both (walk n) (walk_in ps)
    walk_in (other_property n ps) = c.both (walk n) (walk_in ps)
    walk_in (child_key k v ps) = c.both (walk k) (c.both (walk v) (walk_in ps))
    walk_in (string_key k v ps) = c.both (walk v) (walk_in ps)
    walk_in (name_key k v ps) = c.both (walk v) (walk_in ps)

    pub walk_with : Attributes → M
    walk_with without = c.nothing
    walk_with (with_object sp ps) = walk_in ps

-- the visits themselves, in order
abbrev pub visiting : Collector (List Visit)
visiting = record { nothing = []; both = ◌++◌; own = λ v. v ∷ [] }

abbrev pub visits : Node → List Visit
visits = walk visiting

-- what a collector makes of visits, one after the other
abbrev pub total : {M : Type 0} → Collector M → List Visit → M
total c [] = c.nothing
total c (v ∷ vs) = c.both (c.own v) (total c vs)
