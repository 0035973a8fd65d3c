-- The spans that a visit reports are among those of its tree.
use Rattle.std.specs.Prelude.{Some, None}
use Rattle.laws.proofs.Prelude.{List, [], ◌∷◌, ◌++◌, Option, ℕ}
use Rattle.laws.{specs.Codec.All, specs.Codec.IfThere, proofs.Lists.all_append, proofs.Lists.all_parts}
use Rattle.sheet.specs.{declared.fields.Span.Span, Strings.string_held}
use Rattle.sheet.specs.Tree.{Quoted, Node, other, string, name, template, binary, object, import_call, call, import_decl, named_export, export_from}
use Rattle.sheet.specs.Tree.{export_all, import_type, import_equals, import_require, module_decl, Nodes, none, more, Arguments, no_arguments, argument}
use Rattle.sheet.specs.Tree.{Properties, no_properties, spread, other_property, child_key, string_key, name_key, Attributes, without, with_object}
use Rattle.sheet.specs.Recorded.{spans, spans_all, spans_of, spans_in, spans_with, starts_and_ends}
use Rattle.sheet.specs.Walk.{Callee, Visit, called, importing, expression, imported, exported, typed, required, declared, visiting, visits, walk_all}
use Rattle.sheet.specs.Walk.{walk_of, walk_in, walk_with}

-- what holds of starts and ends holds of both of each span
pub of_ends : (P : ℕ → Type 0) (sps : List Span) → All P (starts_and_ends sps) → All (λ sp. P sp.start × P sp.end) sps
of_ends P [] h = tt
of_ends P (sp ∷ sps) h = ((h.0, h.1.0), of_ends P sps h.1.1)

module _ (P : Span → Type 0) where
  -- of the first argument
  abbrev pub OfFirst : Arguments → Type 0
  OfFirst no_arguments = Unit {0}
  OfFirst (argument dots sp n xs) = P sp

  -- of the span that the entry of a visit reports: a String's, or the first argument's
  abbrev pub Reported : Visit → Type 0
  Reported (called sp e xs) = OfFirst xs
  Reported (imported sp type_only phase side_effect x a) = P x.span
  Reported (exported sp type_only x a) = P x.span
  Reported (typed sp x a) = P x.span
  Reported (required sp type_only export x) = P x.span
  Reported (declared sp x) = IfThere (λ (q : Quoted). P q.span) x

  abbrev Each : List Visit → Type 0
  Each = All Reported

  both : (l m : List Visit) → Each l → Each m → Each (l ++ m)
  both = all_append Reported

  first_reported : (xs : Arguments) → All P (spans_of xs) → OfFirst xs
  first_reported no_arguments h = tt
  first_reported (argument dots sp n xs) h = h.0

  held_reported : (x : Option Quoted) → All P (string_held x) → IfThere (λ (q : Quoted). P q.span) x
  held_reported None h = tt
  held_reported (Some x) h = h.0

  called_reported : (sp : Span) (e : Callee) (xs : Arguments) (ns : Nodes) → All P (spans_of xs) → Each (walk_of visiting xs) → Each (walk_all visiting ns)
      → Each (walk_of visiting xs ++ (walk_all visiting ns ++ (called sp e xs ∷ [])))
  called_reported sp e xs ns h x y =
      both (walk_of visiting xs) (walk_all visiting ns ++ (called sp e xs ∷ [])) x
      (both (walk_all visiting ns) (called sp e xs ∷ []) y (first_reported xs h, tt))

  mutual
    pub visits_reported : (n : Node) → All P (spans n) → Each (visits n)
    visits_reported (other sp ns) h = all_reported ns h.1
    visits_reported (string sp x) h = tt
    visits_reported (name sp x) h = tt
    visits_reported (template sp ps ns) h = all_reported ns h.1
    visits_reported (binary sp plus l r) h =
        let (x, y) = all_parts P (spans l) (spans r) h.1 in
        both (visits l) (visits r) (visits_reported l x) (visits_reported r y)
    visits_reported (object sp ps) h = in_reported ps h.1
    visits_reported (import_call sp phase xs ns) h =
        let (x, y) = all_parts P (spans_of xs) (spans_all ns) h.1 in
        called_reported sp (importing phase) xs ns x (of_reported xs x) (all_reported ns y)
    visits_reported (call sp e xs ns) h =
        let (z, behind) = all_parts P (spans e) (spans_of xs ++ spans_all ns) h.1 in
        let (x, y) = all_parts P (spans_of xs) (spans_all ns) behind in
        both (visits e) (walk_of visiting xs ++ (walk_all visiting ns ++ (called sp (expression e) xs ∷ []))) (visits_reported e z)
        (called_reported sp (expression e) xs ns x (of_reported xs x) (all_reported ns y))
    visits_reported (import_decl sp type_only phase side_effect x a) h = (h.1.0, tt)
    visits_reported (named_export sp type_only) h = tt
    visits_reported (export_from sp type_only x a) h = (h.1.0, tt)
    visits_reported (export_all sp type_only x a) h = (h.1.0, tt)
    visits_reported (import_type sp x ns a) h =
        let (y, z) = all_parts P (spans_all ns) (spans_with a) h.1.1 in
        (h.1.0, both (walk_all visiting ns) (walk_with visiting a) (all_reported ns y) (with_reported a z))
    visits_reported (import_equals sp) h = tt
    visits_reported (import_require sp type_only export x) h = (h.1.0, tt)
    visits_reported (module_decl sp x ns) h =
        let (y, z) = all_parts P (string_held x) (spans_all ns) h.1 in
        (held_reported x y, all_reported ns z)

    all_reported : (ns : Nodes) → All P (spans_all ns) → Each (walk_all visiting ns)
    all_reported none h = tt
    all_reported (more n ns) h =
        let (x, y) = all_parts P (spans n) (spans_all ns) h in
        both (visits n) (walk_all visiting ns) (visits_reported n x) (all_reported ns y)

    of_reported : (xs : Arguments) → All P (spans_of xs) → Each (walk_of visiting xs)
    of_reported no_arguments h = tt
    of_reported (argument dots sp n xs) h =
        let (x, y) = all_parts P (spans n) (spans_of xs) h.1 in
        both (visits n) (walk_of visiting xs) (visits_reported n x) (of_reported xs y)

    in_reported : (ps : Properties) → All P (spans_in ps) → Each (walk_in visiting ps)
    in_reported no_properties h = tt
    in_reported (spread n ps) h =
        let (x, y) = all_parts P (spans n) (spans_in ps) h in
        both (visits n) (walk_in visiting ps) (visits_reported n x) (in_reported ps y)
    in_reported (other_property n ps) h =
        let (x, y) = all_parts P (spans n) (spans_in ps) h in
        both (visits n) (walk_in visiting ps) (visits_reported n x) (in_reported ps y)
    in_reported (child_key k v ps) h =
        let (x, behind) = all_parts P (spans k) (spans v ++ spans_in ps) h in
        let (y, z) = all_parts P (spans v) (spans_in ps) behind in
        both (visits k) (visits v ++ walk_in visiting ps) (visits_reported k x) (both (visits v) (walk_in visiting ps) (visits_reported v y) (in_reported ps z))
    in_reported (string_key k v ps) h =
        let (x, y) = all_parts P (spans v) (spans_in ps) h in
        both (visits v) (walk_in visiting ps) (visits_reported v x) (in_reported ps y)
    in_reported (name_key k v ps) h =
        let (x, y) = all_parts P (spans v) (spans_in ps) h in
        both (visits v) (walk_in visiting ps) (visits_reported v x) (in_reported ps y)

    with_reported : (a : Attributes) → All P (spans_with a) → Each (walk_with visiting a)
    with_reported without h = tt
    with_reported (with_object sp ps) h = in_reported ps h.1
