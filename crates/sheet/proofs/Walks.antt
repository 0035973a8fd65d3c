-- What the walks of two collectors have to do with each other.
use Rattle.laws.proofs.Prelude.{◌≡◌, refl, sym, ap, ◌∙◌, List, [], ◌∷◌, ◌++◌}
use mathlib.Core.Bool.{or-false, or_assoc}
use Rattle.sheet.specs.Tree.{Node, other, string, name, template, binary, object, import_call, call, import_decl, named_export, export_from, export_all}
use Rattle.sheet.specs.Tree.{import_type, import_equals, import_require, module_decl, Nodes, none, more, Arguments, no_arguments, argument, Properties}
use Rattle.sheet.specs.Tree.{no_properties, spread, other_property, child_key, string_key, name_key, Attributes, without, with_object}
use Rattle.sheet.specs.Walk.{Visit, called, importing, expression, imported, exported, typed, required, declared, Collector, walk, walk_all, walk_of}
use Rattle.sheet.specs.Walk.{walk_in, walk_with, total, visiting, visits}
use Rattle.sheet.specs.Walked.{judging, uncooked}

-- a relation that two collectors keep: at nothing, at parts and at each visit
pub record Keep {M N : Type 0} (R : M → N → Type 0) (c : Collector M) (d : Collector N) : Type 0 where
  pub nothing : R c.nothing d.nothing
  pub both : {a b : M} {x y : N} → R a x → R b y → R (c.both a b) (d.both x y)
  pub own : (v : Visit) → R (c.own v) (d.own v)

-- relates what they make of a node
module _ {M N : Type 0} (R : M → N → Type 0) (c : Collector M) (d : Collector N) (h : Keep R c d) where
  mutual
    pub walks_related : (n : Node) → R (walk c n) (walk d n)
    walks_related (other sp ns) = all_related ns
    walks_related (string sp x) = h.nothing
    walks_related (name sp x) = h.nothing
    walks_related (template sp ps ns) = all_related ns
    walks_related (binary sp plus l r) = h.both (walks_related l) (walks_related r)
    walks_related (object sp ps) = in_related ps
    walks_related (import_call sp phase xs ns) = h.both (of_related xs) (h.both (all_related ns) (h.own (called sp (importing phase) xs)))
    walks_related (call sp e xs ns) = h.both (walks_related e) (h.both (of_related xs) (h.both (all_related ns) (h.own (called sp (expression e) xs))))
    walks_related (import_decl sp type_only phase side_effect x a) = h.own (imported sp type_only phase side_effect x a)
    walks_related (named_export sp type_only) = h.nothing
    walks_related (export_from sp type_only x a) = h.own (exported sp type_only x a)
    walks_related (export_all sp type_only x a) = h.own (exported sp type_only x a)
    walks_related (import_type sp x ns a) = h.both (h.own (typed sp x a)) (h.both (all_related ns) (with_related a))
    walks_related (import_equals sp) = h.nothing
    walks_related (import_require sp type_only export x) = h.own (required sp type_only export x)
    walks_related (module_decl sp x ns) = h.both (h.own (declared sp x)) (all_related ns)

    all_related : (ns : Nodes) → R (walk_all c ns) (walk_all d ns)
    all_related none = h.nothing
    all_related (more n ns) = h.both (walks_related n) (all_related ns)

    of_related : (xs : Arguments) → R (walk_of c xs) (walk_of d xs)
    of_related no_arguments = h.nothing
    of_related (argument dots sp n xs) = h.both (walks_related n) (of_related xs)

    in_related : (ps : Properties) → R (walk_in c ps) (walk_in d ps)
    in_related no_properties = h.nothing
    in_related (spread n ps) = h.both (walks_related n) (in_related ps)
    in_related (other_property n ps) = h.both (walks_related n) (in_related ps)
    in_related (child_key k v ps) = h.both (walks_related k) (h.both (walks_related v) (in_related ps))
    in_related (string_key k v ps) = h.both (walks_related v) (in_related ps)
    in_related (name_key k v ps) = h.both (walks_related v) (in_related ps)

    with_related : (a : Attributes) → R (walk_with c a) (walk_with d a)
    with_related without = h.nothing
    with_related (with_object sp ps) = in_related ps

-- a collector into a monoid makes of a node what it makes of the visits, one after the other
module _ {M : Type 0} (c : Collector M) (left : (m : M) → c.both c.nothing m ≡ m) (right : (m : M) → c.both m c.nothing ≡ m)
    (assoc : (l m n : M) → c.both (c.both l m) n ≡ c.both l (c.both m n)) where
  total_append : (vs ws : List Visit) → total c (vs ++ ws) ≡ c.both (total c vs) (total c ws)
  total_append [] ws = sym (left (total c ws))
  total_append (v ∷ vs) ws = ap (c.both (c.own v)) (total_append vs ws) ∙ sym (assoc (c.own v) (total c vs) (total c ws))

  total_keeps : Keep (λ m vs. m ≡ total c vs) c visiting
  total_keeps = record { nothing = refl; both = λ e f. rw (total_append, e, f); own = λ v. sym (right (c.own v)) }

  pub walk_total : (n : Node) → walk c n ≡ total c (visits n)
  walk_total = walks_related (λ m vs. m ≡ total c vs) c visiting total_keeps

pub uncooked_any : (n : Node) → uncooked n ≡ total judging (visits n)
uncooked_any = walk_total judging (λ b. refl) or-false or_assoc
