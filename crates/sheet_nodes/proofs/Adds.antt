-- How what is found adds up.
use Rattle.laws.proofs.Prelude.{◌≡◌, Bool, false, not, ◌&&◌, ◌||◌, or-true, ℕ, add-zero, zero-add}
use mathlib.Core.Bool.{and-false, or_assoc, or-false}
use native.Mathlib.Nat.{add_assoc}
use Rattle.sheet.specs.{declared.fields.Span.Span, Shape.shape, Shape.is_uncooked, Walk.walk_of}
use Rattle.sheet.specs.Tree.{Node, Arguments, no_arguments, argument}
use Rattle.sheet.specs.Walked.{any_argument, first_uncooked, counting, entries, judging, uncooked}
use Rattle.sheet_nodes.specs.declared.tally.Found.{Found}
use Rattle.sheet_nodes.specs.code.Tallies.{Tally, ArgumentTally, node_tally, plus, with_argument, tally_of}

-- nothing is found; what else is asked is x
abbrev pub nothing : {T : Type 0} → T → Found T
nothing x = record { entries = 0; uncooked = false; also = x }

pub is_nothing : {T : Type 0} {x : T} {t : Found T} → (t.entries ≡ 0) × ((t.uncooked ≡ false) × (t.also ≡ x)) → t ≡ nothing x
is_nothing {T} {x} h = go h.0 h.1.0 h.1.1
  where
    go : {n : ℕ} {b : Bool} {y : T} → n ≡ 0 → b ≡ false → y ≡ x → ◌≡◌ {A = Found T} (record { entries = n; uncooked = b; also = y }) (nothing x)
    go e f g = rw (e, f, g)

pub plus_assoc : {T U V : Type 0} (t : Found T) (u : Found U) (v : Found V) → plus (plus t u) v ≡ plus t (plus u v)
plus_assoc t u v = rw (add_assoc t.entries u.entries v.entries, or_assoc t.uncooked u.uncooked v.uncooked)

pub nothing_plus : (t : Tally) → plus (nothing (tt {0})) t ≡ t
nothing_plus t = rw zero-add

pub plus_nothing : {T : Type 0} (t : Found T) → plus t (nothing (tt {0})) ≡ t
plus_nothing t = rw (add-zero, or-false t.uncooked)

-- arguments behind others
abbrev pub behind_passed : ArgumentTally → Arguments → ArgumentTally
behind_passed p xs =
    record (plus p (tally_of xs)) {
      also = record { any = p.also.any || any_argument xs; template = p.also.template || (not p.also.any && first_uncooked xs) };
    }

pub one_more : (p : ArgumentTally) (dots : Bool) (sp : Span) (n : Node) (xs : Arguments) →
    behind_passed p (argument dots sp n xs) ≡ behind_passed (with_argument p (node_tally n)) xs
one_more p dots sp n xs =
    let first : Bool = p.also.template || (not p.also.any && is_uncooked (shape n)) in
    rw (add_assoc p.entries (entries n) (walk_of counting xs), or_assoc p.uncooked (uncooked n) (walk_of judging xs), or-true p.also.any, or-false first)

abbrev pub no_passed : ArgumentTally
no_passed = nothing (record { any = false; template = false })

pub all_passed : (xs : Arguments) → behind_passed no_passed xs ≡ tally_of xs
all_passed xs = rw zero-add

pub none_more : (p : ArgumentTally) → behind_passed p no_arguments ≡ p
none_more p = rw (add-zero, or-false p.uncooked, or-false p.also.any, and-false (not p.also.any), or-false p.also.template)
