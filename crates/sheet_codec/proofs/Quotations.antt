-- Every String of a tree within the limits is a quotation, those that other nodes hold too.
use Rattle.std.specs.Prelude.{Some, None}
use Rattle.laws.proofs.Prelude.{List, ◌++◌, Option, ℕ}
use Rattle.laws.{specs.Codec.All, specs.Codec.IfThere, proofs.Lists.all_append}
use Rattle.sheet.specs.{declared.fields.Span.Span, Comments.slice, Quotation.Quotation}
use Rattle.sheet.specs.Tree.{Quoted, Node, other, string, name, template, binary, object, import_call, call, import_decl, named_export, export_from, export_all}
use Rattle.sheet.specs.Tree.{import_type, import_equals, import_require, module_decl, Nodes, none, more, Arguments, no_arguments, argument, Properties}
use Rattle.sheet.specs.Tree.{no_properties, spread, other_property, child_key, string_key, name_key, Attributes, without, with_object}
use Rattle.sheet.specs.Strings.{string_held, strings, strings_all, strings_of, strings_in, strings_with}
use Rattle.sheet_codec.specs.Limits.{QuotedFits, under, NodeFits, NodesFit, ArgumentsFit, PropertiesFit, AttributesFit}

module _ (source : List ℕ) where
  abbrev Each : List Span → Type 0
  Each = All (λ sp. Quotation (slice source sp))

  both : (l m : List Span) → Each l → Each m → Each (l ++ m)
  both = all_append (λ sp. Quotation (slice source sp))

  held : (k : ℕ) (x : Option Quoted) → IfThere (QuotedFits source k) x → Each (string_held x)
  held k None f = tt
  held k (Some x) f = (f.quotation, tt)

  mutual
    unfolding NodeFits NodesFit ArgumentsFit PropertiesFit AttributesFit

    pub strings_quoted : (k : ℕ) (n : Node) → NodeFits source n k → Each (strings n)
    strings_quoted k (other sp ns) f = all_quoted (under k) ns f.1.1
    strings_quoted k (string sp x) f = (f.quotation, tt)
    strings_quoted k (name sp x) f = tt
    strings_quoted k (template sp ps ns) f = all_quoted (under k) ns f.1.1.1
    strings_quoted k (binary sp plus l r) f = both (strings l) (strings r) (strings_quoted (under k) l f.1.0) (strings_quoted (under k) r f.1.1)
    strings_quoted k (object sp ps) f = in_quoted (under k) ps f.1.1
    strings_quoted k (import_call sp phase xs ns) f = both (strings_of xs) (strings_all ns) (of_quoted (under k) xs f.1.0.1)
        (all_quoted (under k) ns f.1.1.1)
    strings_quoted k (call sp e xs ns) f =
        both (strings e) (strings_of xs ++ strings_all ns) (strings_quoted (under k) e f.1.0)
        (both (strings_of xs) (strings_all ns) (of_quoted (under k) xs f.1.1.0.1) (all_quoted (under k) ns f.1.1.1.1))
    strings_quoted k (import_decl sp type_only phase side_effect x a) f = (f.1.0.quotation, with_quoted (under k) a f.1.1)
    strings_quoted k (named_export sp type_only) f = tt
    strings_quoted k (export_from sp type_only x a) f = (f.1.0.quotation, with_quoted (under k) a f.1.1)
    strings_quoted k (export_all sp type_only x a) f = (f.1.0.quotation, with_quoted (under k) a f.1.1)
    strings_quoted k (import_type sp x ns a) f =
        (f.1.0.quotation, both (strings_all ns) (strings_with a) (all_quoted (under k) ns f.1.1.1.0) (with_quoted (under k) a f.1.1.1.1))
    strings_quoted k (import_equals sp) f = tt
    strings_quoted k (import_require sp type_only export x) f = (f.1.quotation, tt)
    strings_quoted k (module_decl sp x ns) f = both (string_held x) (strings_all ns) (held (under k) x f.1.0) (all_quoted (under k) ns f.1.1.1)

    all_quoted : (k : ℕ) (ns : Nodes) → NodesFit source ns k → Each (strings_all ns)
    all_quoted k none f = tt
    all_quoted k (more n ns) f = both (strings n) (strings_all ns) (strings_quoted k n f.0) (all_quoted k ns f.1)

    of_quoted : (k : ℕ) (xs : Arguments) → ArgumentsFit source xs k → Each (strings_of xs)
    of_quoted k no_arguments f = tt
    of_quoted k (argument dots sp n xs) f = both (strings n) (strings_of xs) (strings_quoted k n f.0.1) (of_quoted k xs f.1)

    in_quoted : (k : ℕ) (ps : Properties) → PropertiesFit source ps k → Each (strings_in ps)
    in_quoted k no_properties f = tt
    in_quoted k (spread n ps) f = both (strings n) (strings_in ps) (strings_quoted k n f.0) (in_quoted k ps f.1)
    in_quoted k (other_property n ps) f = both (strings n) (strings_in ps) (strings_quoted k n f.0) (in_quoted k ps f.1)
    in_quoted k (child_key q v ps) f =
        both (strings q) (strings v ++ strings_in ps) (strings_quoted k q f.0.0)
        (both (strings v) (strings_in ps) (strings_quoted k v f.0.1) (in_quoted k ps f.1))
    in_quoted k (string_key q v ps) f = both (strings v) (strings_in ps) (strings_quoted k v f.0.1) (in_quoted k ps f.1)
    in_quoted k (name_key q v ps) f = both (strings v) (strings_in ps) (strings_quoted k v f.0.1) (in_quoted k ps f.1)

    with_quoted : (k : ℕ) (a : Attributes) → AttributesFit source a k → Each (strings_with a)
    with_quoted k without f = tt
    with_quoted k (with_object sp ps) f = in_quoted (under k) ps f.1.1
