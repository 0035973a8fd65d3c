-- From what a call says of its result to what a test or a `match` on it found.
use mathlib.Core.Path.{◌≡◌, sym, ap, ◌∙◌}
use Rattle.std.specs.Prelude.{Option, None, Result, Ok, Err, IsErr, IsErrAnd}
use Rattle.laws.specs.code.Told.{Told}

-- a call ensures that its result x is w, and a test found that x is v
pub known : {A : Type 0} {x v w : A} → x ≡ w → x ≡ v → w ≡ v
known says is = sym says ∙ is

-- the same under a view f of the result
pub seen : {A B : Type 0} (f : A → B) {x v : A} {w : B} → f x ≡ w → x ≡ v → w ≡ f v
seen f says is = sym says ∙ ap f is

-- what `?` returns of an error: the error itself
pub handed : {T E : Type 0} {r : Result T E} (d : E) → IsErr r × IsErrAnd r (λ y. y ≡ d) → r ≡ Err d
handed {r = Ok x} d h = absurd h.1
handed {r = Err y} d h = ap Err h.1

-- and so a call tells of what it returned
pub handed_on : {T E B : Type 0} {view : Result T E → B} {value : B} {Bounds : Result T E → Type 0} {r : Result T E} (d : E)
    → IsErr r × IsErrAnd r (λ y. y ≡ d)
    → view (Err d) ≡ value
    → Bounds (Err d)
    → Told view value Bounds r
handed_on d h says bounds = rw (handed d h) (record { answer = says; bounds = bounds })

-- what `?` returns of an option that is none: none
pub none_on : {T B : Type 0} {view : Option T → B} {value : B} {Bounds : Option T → Type 0} {r : Option T}
    → r ≡ None
    → view None ≡ value
    → Bounds None
    → Told view value Bounds r
none_on e says bounds = rw e (record { answer = says; bounds = bounds })

-- what a call tells of its result x, once a `match` found that x is v
module _ {A B : Type 0} {view : A → B} {value : B} {Bounds : A → Type 0} {x v : A} (says : Told view value Bounds x) (is : x ≡ v) where
  pub told : value ≡ view v
  told = seen view says.answer is

  pub bounded : Bounds v
  bounded = rw is at says.bounds

  -- both: the same is told of v
  pub told_of : Told view value Bounds v
  told_of = rw is at says

-- the same told of an equal value
pub retold : {A B : Type 0} {view : A → B} {value value' : B} {Bounds : A → Type 0} {x : A} → Told view value Bounds x → value ≡ value'
    → Told view value' Bounds x
retold says e = record { answer = says.answer ∙ e; bounds = says.bounds }
