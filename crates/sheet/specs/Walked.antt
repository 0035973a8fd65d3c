-- What the walk over the tree finds: how many dependencies it lists, and whether a call meets refusal 9.
use Rattle.std.specs.Prelude.{Bool, true, false, ◌&&◌, ◌||◌, ℕ, ◌+◌, None, Option, Some}
use Rattle.text.specs.Truth.{one}
use Rattle.sheet.specs.Tree.{Quoted, Node, Arguments, no_arguments, argument}
use Rattle.sheet.specs.Shape.{shape, is_require, is_uncooked, is_augmentation}
use Rattle.sheet.specs.Walk.{Callee, importing, expression, Visit, called, imported, exported, typed, required, declared, Collector, walk}

-- there is an argument
abbrev pub any_argument : Arguments → Bool
any_argument no_arguments = false
any_argument (argument dots sp n xs) = true

-- the first argument is a template with an uncooked piece
abbrev pub first_uncooked : Arguments → Bool
first_uncooked no_arguments = false
first_uncooked (argument dots sp n xs) = is_uncooked (shape n)

-- a call that is listed: an import of any phase, or the Name `require`
abbrev pub listed : Callee → Bool
listed (importing phase) = true
listed (expression e) = is_require (shape e)

-- a module declaration with such a name gives an entry
abbrev pub declares : Option Quoted → Bool
declares None = false
declares (Some q) = is_augmentation q.text

-- a visit gives an entry
abbrev pub gives : Visit → Bool
gives (called sp e xs) = listed e && any_argument xs
gives (imported sp type_only phase side_effect x a) = true
gives (exported sp type_only x a) = true
gives (typed sp x a) = true
gives (required sp type_only export x) = true
gives (declared sp x) = declares x

-- a visit meets refusal 9: a listed call whose first argument is a template with an uncooked piece
abbrev pub refused : Visit → Bool
refused (called sp e xs) = listed e && first_uncooked xs
refused (imported sp type_only phase side_effect x a) = false
refused (exported sp type_only x a) = false
refused (typed sp x a) = false
refused (required sp type_only export x) = false
refused (declared sp x) = false

-- how many dependencies a node gives: the length of `collect` (crates/dep, law `counted`)
abbrev pub counting : Collector ℕ
counting = record { nothing = 0; both = ◌+◌; own = λ v. one (gives v) }

abbrev pub entries : Node → ℕ
entries = walk counting

-- whether a walked call, an import or one of the Name `require`, has a template with an uncooked piece for its first argument
abbrev pub judging : Collector Bool
judging = record { nothing = false; both = ◌||◌; own = refused }

abbrev pub uncooked : Node → Bool
uncooked = walk judging
