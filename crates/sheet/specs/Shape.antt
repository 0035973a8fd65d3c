-- What an expression or a text is to the node that holds it.
use Rattle.std.specs.Prelude.{Bool, true, false, not, ◌||◌, List, [], ◌∷◌, ℕ, eqb, None, Some}
use Rattle.laws.specs.Ascii.{ascii}
use Rattle.text.specs.Bytes.{begins, same}
use Rattle.sheet.specs.Tree.{Pieces, Node, other, string, name, template, binary, object, import_call, call, import_decl, named_export, export_from}
use Rattle.sheet.specs.Tree.{export_all, import_type, import_equals, import_require, module_decl, Properties}

-- what an expression is to the node that holds it
pub data Shape : Type 0 where
  text : List ℕ → Shape  -- String
  named : List ℕ → Shape  -- Name
  pieces : Pieces → Shape  -- Template
  operation : Bool → Node → Node → Shape  -- Binary
  properties : Properties → Shape  -- Object
  anything : Shape

abbrev pub shape : Node → Shape
shape (other sp ns) = anything
shape (string sp x) = text x
shape (name sp x) = named x
shape (template sp ps ns) = pieces ps
shape (binary sp plus l r) = operation plus l r
shape (object sp ps) = properties ps
shape (import_call sp phase xs ns) = anything
shape (call sp e xs ns) = anything
shape (import_decl sp type_only phase side_effect x a) = anything
shape (named_export sp type_only) = anything
shape (export_from sp type_only x a) = anything
shape (export_all sp type_only x a) = anything
shape (import_type sp x ns a) = anything
shape (import_equals sp) = anything
shape (import_require sp type_only export x) = anything
shape (module_decl sp x ns) = anything

-- the Name `require`
abbrev pub is_require : Shape → Bool
is_require (text x) = false
is_require (named x) = same x (ascii "require")
is_require (pieces ps) = false
is_require (operation plus l r) = false
is_require (properties ps) = false
is_require anything = false

abbrev pub any_uncooked : Pieces → Bool
any_uncooked [] = false
any_uncooked (None ∷ ps) = true
any_uncooked (Some x ∷ ps) = any_uncooked ps

-- a template with an uncooked piece
abbrev pub is_uncooked : Shape → Bool
is_uncooked (text x) = false
is_uncooked (named x) = false
is_uncooked (pieces ps) = any_uncooked ps
is_uncooked (operation plus l r) = false
is_uncooked (properties ps) = false
is_uncooked anything = false

-- a text has the byte `*`
abbrev pub has_star : List ℕ → Bool
has_star [] = false
has_star (b ∷ x) = eqb b 0x2A || has_star x

-- a text starts with `./`, `../` or `/`
abbrev pub is_relative : List ℕ → Bool
is_relative x = begins (ascii "./") x || begins (ascii "../") x || begins (ascii "/") x

-- a module declaration's String gives an entry unless it is a wildcard that is not relative
abbrev pub is_augmentation : List ℕ → Bool
is_augmentation x = not (has_star x) || is_relative x
