-- The readers as functions; where src/ast/mod.rs or monch has a counterpart, named after it.
-- Grammar is the file to be believed: these give the value that the report computes, and the laws `brace_agrees` and `declaration_agrees` tie them to it.
use Rattle.std.specs.Prelude.{Bool, cond, ◌||◌, [], ◌∷◌, ℕ, zero, suc, ◌-◌, length, take, drop, eqb}
use Rattle.std.specs.Prelude.{None, Option, Some}
use Rattle.std.specs.Option.{option_or, option_flatten}
use Prim.Native.Char.{code}
use Rattle.laws.specs.Ascii.{ascii}
use Rattle.text.specs.declared.class.Class.{Class}
use Rattle.text.specs.declared.class.Class.TheVariants.{White, Alphabetic, NameRest}
use Rattle.text.specs.Bytes.{begins, same}
use Rattle.text.specs.Class.{class_at, run_length}
use Rattle.analysis.specs.Mode.{Mode, mode_of}
use Rattle.jsdoc.specs.Grammar.{Bytes}
use Rattle.jsdoc.specs.Parsed.{ok, backtrace, Parser, on_parsed, ◌>>=◌, ◌>>◌, return, here, or}

-- what is left behind the longest run of a class
unfoldable pub skip : Class → Bytes → Bytes
skip c s = drop (run_length c s) s

-- W*
unfoldable pub skip_whitespace : Parser (Unit {0})
skip_whitespace s = ok tt (skip White s)

-- W+
unfoldable pub whitespace : Parser (Unit {0})
whitespace s = cond (eqb (run_length White s) 0) backtrace (ok tt (skip White s))

unfoldable pub tag : Bytes → Parser (Unit {0})
tag w s = cond (begins w s) (ok tt (drop (length w) s)) backtrace

-- a word, then W*
unfoldable pub word : Bytes → Parser (Unit {0})
word w = tag w >> skip_whitespace

-- past the first m
unfoldable pub up_to : ℕ → Parser (Unit {0})
up_to m [] = backtrace
up_to m (x ∷ s) = cond (eqb x m) (ok tt s) (up_to m s)

-- the bytes of s before what is left of it
abbrev pub before : Bytes → Bytes → Bytes
before s t = take (length s - length t) s

unfoldable pub is_mark : ℕ → Bool
is_mark m = eqb m (code "\"") || eqb m (code "'")

unfoldable pub parse_quote : Parser Bytes
parse_quote [] = backtrace
parse_quote (m ∷ s) = cond (is_mark m) (on_parsed (up_to m s) (λ z t. ok (before s (m ∷ t)) t) backtrace) backtrace

-- what is left behind a name
unfoldable pub past_ident : Bytes → Bytes
past_ident s = skip NameRest (drop (class_at Alphabetic s) s)

unfoldable pub parse_ident : Parser Bytes
parse_ident s = cond (eqb (class_at Alphabetic s) 0) backtrace (ok (before s (past_ident s)) (past_ident s))

unfoldable pub parse_key : Parser Bytes
parse_key = or parse_quote parse_ident

-- the mode of the first attribute `resolution-mode`, if there is such an attribute
abbrev pub ModeNamed : Type 0
ModeNamed = Option Mode

abbrev pub unnamed : ModeNamed
unnamed = None

-- of one attribute
unfoldable pub attribute_mode : Bytes → Bytes → ModeNamed
attribute_mode k v = cond (same k (ascii "resolution-mode")) (Some (mode_of v)) unnamed

unfoldable pub parse_attribute : Parser ModeNamed
parse_attribute = do
  k ← parse_key
  skip_whitespace
  word (ascii ":")
  v ← parse_quote
  return (attribute_mode k v)

-- W* `,` W*
unfoldable pub comma : Parser (Unit {0})
comma = skip_whitespace >> word (ascii ",")

-- at most n attributes, where m is the first so far
unfoldable pub separated_list_by : ℕ → ModeNamed → Parser ModeNamed
separated_list_by zero m s = ok m s
separated_list_by (suc n) m s =
    on_parsed (parse_attribute s) (λ a t. on_parsed (comma t) (λ z. separated_list_by n (option_or m a)) (ok (option_or m a) t)) (ok m s)

unfoldable pub separated_list : ModeNamed → Parser ModeNamed
separated_list m s = separated_list_by (length s) m s

unfoldable pub parse_import_attribute_block_for_resolution_mode : Parser Mode
parse_import_attribute_block_for_resolution_mode = do
  word (ascii "{")
  m ← separated_list unnamed
  skip_whitespace
  tag (ascii "}")
  return (option_flatten m)

-- `, {with:`
unfoldable pub second_param_start : Parser (Unit {0})
second_param_start = do
  word (ascii ",")
  word (ascii "{")
  word (ascii "with")
  word (ascii ":")

-- `, {with: {..}}`
unfoldable pub parse_second_param_obj_with_leading_comma : Parser Mode
parse_second_param_obj_with_leading_comma = do
  second_param_start
  m ← parse_import_attribute_block_for_resolution_mode
  skip_whitespace
  word (ascii "}")
  return m

-- `)`, and then a closing brace
unfoldable pub close_call : Mode → Parser Mode
close_call m = do
  tag (ascii ")")
  up_to (code "}")
  return m

-- what follows the quote of a Brace reading
unfoldable pub parse_tail : Parser Mode
parse_tail = do
  skip_whitespace
  m ← or parse_second_param_obj_with_leading_comma (return None)
  close_call m

-- where the quote begins, where it ends, and the mode
pub data Hit : Type 0 where
  hit : Bytes → Bytes → Mode → Hit

-- the quote, and then the mode
abbrev pub specifier : Parser Mode → Parser Hit
specifier p = do
  q ← here
  parse_quote
  e ← here
  m ← p
  return (hit q e m)

-- where the search for `import` ends: at that word, at `}` or at the end
unfoldable pub seek : Bytes → Bytes
seek [] = []
seek (x ∷ s) = cond (eqb x (code "}")) (x ∷ s) (cond (begins (ascii "import") (x ∷ s)) (x ∷ s) (seek s))

-- `import(`, the quote, and what follows
unfoldable pub parse_call : Parser Hit
parse_call = do
  word (ascii "import")
  word (ascii "(")
  specifier parse_tail

unfoldable pub parse_jsdoc_dynamic_import : Parser Hit
parse_jsdoc_dynamic_import = do
  tag (ascii "{")
  s ← here
  λ z. parse_call (seek s)

-- where the search from a brace ends, if one begins s
unfoldable pub sought : Bytes → Bytes
sought s = on_parsed (tag (ascii "{") s) (λ z. seek) s

unfoldable pub skip_named_imports : Parser (Unit {0})
skip_named_imports = tag (ascii "{") >> up_to (code "}")

unfoldable pub skip_default_import : Parser (Unit {0})
skip_default_import = parse_ident >> whitespace

unfoldable pub skip_namespace_import : Parser (Unit {0})
skip_namespace_import = do
  word (ascii "*")
  tag (ascii "as")
  whitespace
  skip_default_import

unfoldable pub skip_clause : Parser (Unit {0})
skip_clause = or skip_named_imports (or skip_namespace_import skip_default_import)

-- `with {..}`
unfoldable pub parse_attributes : Parser Mode
parse_attributes = do
  skip_whitespace
  word (ascii "with")
  parse_import_attribute_block_for_resolution_mode

-- `from`, the quote, and `with {..}` if that reads
unfoldable pub parse_from : Parser Hit
parse_from = do
  skip_whitespace
  word (ascii "from")
  specifier (or parse_attributes (return None))

unfoldable pub parse_jsdoc_import_decl : Parser Hit
parse_jsdoc_import_decl = do
  tag (ascii "@import")
  whitespace
  skip_clause
  parse_from
