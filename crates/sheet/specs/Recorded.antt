-- The positions that a sheet records: those of its comments, groups and program, and every start and end in its tree.
use Rattle.std.specs.Prelude.{List, [], ◌∷◌, ◌++◌, map, ℕ, None, Option, Some}
use Rattle.sheet.specs.declared.fields.Span.{Span}
use Rattle.sheet.specs.Tree.{Node, other, string, name, template, binary, object, import_call, call, import_decl, named_export, export_from}
use Rattle.sheet.specs.Tree.{export_all, import_type, import_equals, import_require, module_decl, Nodes, none, more, Arguments, no_arguments}
use Rattle.sheet.specs.Tree.{argument, Properties, no_properties, spread, other_property, child_key, string_key, name_key, Attributes, without}
use Rattle.sheet.specs.Tree.{with_object}
use Rattle.sheet.specs.Strings.{string_held}
use Rattle.sheet.specs.Program.{Program}
use Rattle.sheet.specs.Sheet.{Sheet}

abbrev mutual
  -- the spans of a tree, in sheet order: of each node, of each String that one holds, and of each argument
  pub spans : Node → List Span
  spans (other sp ns) = sp ∷ spans_all ns
  spans (string sp x) = sp ∷ []
  spans (name sp x) = sp ∷ []
  spans (template sp ps ns) = sp ∷ spans_all ns
  spans (binary sp plus l r) = sp ∷ (spans l ++ spans r)
  spans (object sp ps) = sp ∷ spans_in ps
  spans (import_call sp phase xs ns) = sp ∷ (spans_of xs ++ spans_all ns)
  spans (call sp e xs ns) = sp ∷ (spans e ++ (spans_of xs ++ spans_all ns))
  spans (import_decl sp type_only phase side_effect x a) = sp ∷ x.span ∷ spans_with a
  spans (named_export sp type_only) = sp ∷ []
  spans (export_from sp type_only x a) = sp ∷ x.span ∷ spans_with a
  spans (export_all sp type_only x a) = sp ∷ x.span ∷ spans_with a
  spans (import_type sp x ns a) = sp ∷ x.span ∷ (spans_all ns ++ spans_with a)
  spans (import_equals sp) = sp ∷ []
  spans (import_require sp type_only export x) = sp ∷ x.span ∷ []
  spans (module_decl sp x ns) = sp ∷ (string_held x ++ spans_all ns)

  pub spans_all : Nodes → List Span
  spans_all none = []
  spans_all (more n ns) = spans n ++ spans_all ns

  pub spans_of : Arguments → List Span
  spans_of no_arguments = []
  spans_of (argument dots sp n xs) = sp ∷ (spans n ++ spans_of xs)

  pub spans_in : Properties → List Span
  spans_in no_properties = []
  spans_in (spread n ps) = spans n ++ spans_in ps
  spans_in (other_property n ps) = spans n ++ spans_in ps
  spans_in (child_key k v ps) = spans k ++ (spans v ++ spans_in ps)
  spans_in (string_key k v ps) = spans v ++ spans_in ps
  spans_in (name_key k v ps) = spans v ++ spans_in ps

  pub spans_with : Attributes → List Span
  spans_with without = []
  spans_with (with_object sp ps) = sp ∷ spans_in ps

-- the starts and ends of spans
abbrev pub starts_and_ends : List Span → List ℕ
starts_and_ends [] = []
starts_and_ends (sp ∷ sps) = sp.start ∷ sp.end ∷ starts_and_ends sps

-- the start of the first item, if there is one
abbrev pub first_item : Option ℕ → List ℕ
first_item None = []
first_item (Some at) = at ∷ []

abbrev pub of_program : Program → List ℕ
of_program p = p.span.start ∷ p.span.end ∷ first_item p.first

-- all of a sheet, in its order
unfoldable pub recorded : Sheet → List ℕ
recorded t =
    starts_and_ends (map (λ c. c.span) t.comments)
    ++ (map (λ g. g.position) t.groups
    ++ (of_program t.program
    ++ starts_and_ends (spans t.root)))
