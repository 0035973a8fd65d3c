-- The pairs of an Object for which a test is true: those with a known value, and all.
use Rattle.std.specs.Prelude.{None, Some, Option, option_map}
use Rattle.std.specs.Option.{is_some}
use Rattle.std.specs.Borrow.{Bor}
use Rattle.laws.proofs.Prelude.{◌≡◌, refl, ap, ◌∙◌, Bool, true, false, not, List, [], ◌∷◌, ℕ}
use Rattle.report.specs.ModuleInfo.{ImportAttribute, KeyValue}
use Rattle.attributes.specs.Attributes.{insert, insert_known, value_of, Prop, keyless, keyed, static_pairs, object_attributes}
use Rattle.attributes.specs.code.Views.{known_if, insert_if, kept, all_keyed}

known_one : (k : List ℕ) (v : ImportAttribute) (l : List KeyValue) → insert_if (λ a. is_some a.value) (record { key = k; value = v }) l ≡ insert_known k v l
known_one k None l = refl
known_one k (Some x) l = refl

pub known_kept : (l : List KeyValue) (es : List Prop) → kept (λ a. is_some a.value) l es ≡ static_pairs l es
unfolding kept static_pairs
known_kept l [] = refl
known_kept l (keyless ∷ es) = known_kept l es
known_kept l (keyed k v ∷ es) =
    ap (λ l. kept (λ a. is_some a.value) l es) (known_one k (value_of v) l) ∙ known_kept (insert_known k (value_of v) l) es

all_kept : (l : List KeyValue) (es : List Prop) → known_if (all_keyed es) (kept (λ a. true) l es) ≡ object_attributes l es
unfolding kept all_keyed object_attributes
all_kept l [] = refl
all_kept l (keyless ∷ es) = refl
all_kept l (keyed k v ∷ es) = all_kept (insert (record { key = k; value = value_of v }) l) es

-- all pairs, where each key could be read
pub all_read : (es : List Prop) {l : List KeyValue} {readable : Bool} → readable ≡ all_keyed es
    → (not readable ≡ false → l ≡ kept (λ a. true) [] es)
    → known_if readable l ≡ object_attributes [] es
all_read es {readable = true} e f = rw (f refl) (rw (← e) at (all_kept [] es))
all_read es {readable = false} e f = rw (← e) at (all_kept [] es)

-- a pair has a value that is known
pub has_value : (v : Option (Bor (List ℕ))) → is_some v ≡ is_some (option_map (λ (x : Bor (List ℕ)). x.now) v)
has_value None = refl
has_value (Some x) = refl
