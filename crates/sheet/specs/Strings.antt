-- The Strings of a tree, in sheet order: the nodes of tag 1, and those that nodes of tags 7 to 12 hold, walked or not.
use Rattle.std.specs.Prelude.{List, [], ◌∷◌, ◌++◌, None, Option, Some}
use Rattle.sheet.specs.declared.fields.Span.{Span}
use Rattle.sheet.specs.Tree.{Quoted, Node, other, string, name, template, binary, object, import_call, call, import_decl, named_export, export_from}
use Rattle.sheet.specs.Tree.{export_all, import_type, import_equals, import_require, module_decl, Nodes, none, more, Arguments, no_arguments}
use Rattle.sheet.specs.Tree.{argument, Properties, no_properties, spread, other_property, child_key, string_key, name_key, Attributes, without}
use Rattle.sheet.specs.Tree.{with_object}

abbrev pub string_held : Option Quoted → List Span
string_held None = []
string_held (Some x) = x.span ∷ []

abbrev mutual
  -- their spans
  pub strings : Node → List Span
  strings (other sp ns) = strings_all ns
  strings (string sp x) = sp ∷ []
  strings (name sp x) = []
  strings (template sp ps ns) = strings_all ns
  strings (binary sp plus l r) = strings l ++ strings r
  strings (object sp ps) = strings_in ps
  strings (import_call sp phase xs ns) = strings_of xs ++ strings_all ns
  strings (call sp e xs ns) = strings e ++ (strings_of xs ++ strings_all ns)
  strings (import_decl sp type_only phase side_effect x a) = x.span ∷ strings_with a
  strings (named_export sp type_only) = []
  strings (export_from sp type_only x a) = x.span ∷ strings_with a
  strings (export_all sp type_only x a) = x.span ∷ strings_with a
  strings (import_type sp x ns a) = x.span ∷ (strings_all ns ++ strings_with a)
  strings (import_equals sp) = []
  strings (import_require sp type_only export x) = x.span ∷ []
  strings (module_decl sp x ns) = string_held x ++ strings_all ns

  pub strings_all : Nodes → List Span
  strings_all none = []
  strings_all (more n ns) = strings n ++ strings_all ns

  pub strings_of : Arguments → List Span
  strings_of no_arguments = []
  strings_of (argument dots sp n xs) = strings n ++ strings_of xs

  -- a key that is a string text is no String
  pub strings_in : Properties → List Span
  strings_in no_properties = []
  strings_in (spread n ps) = strings n ++ strings_in ps
  strings_in (other_property n ps) = strings n ++ strings_in ps
  strings_in (child_key k v ps) = strings k ++ (strings v ++ strings_in ps)
  strings_in (string_key k v ps) = strings v ++ strings_in ps
  strings_in (name_key k v ps) = strings v ++ strings_in ps

  pub strings_with : Attributes → List Span
  strings_with without = []
  strings_with (with_object sp ps) = strings_in ps
