-- What most proofs import: numbers, lists, tests, equations, and the prover's own searches. Each name means what its library says.
pub use Prim.Native.Char.{code}
pub use Prim.Native.Nat.{◌%◌, ◌*◌, ◌+◌, ◌-◌, ◌/◌, ◌<◌, ◌≤◌, suc, suc-le-suc, zero, zero-le, ℕ}
pub use borrow.Author.Rules.{rules}
pub use borrow.Author.Tests.{eq-eqb, eqb-true, le-leb, le-ltb, leb-false, leb-true, lt-leb, lt-ltb, ltb-false, ltb-true, ne_eqb}
pub use borrow.Fn.Kinds.{In}
pub use borrow.Fn.PlainCycle.{Measures}
pub use lib.Dec.{eqb, leb, ltb}
pub use lib.ListN.{get_or-eq_default, drop, drop_of_length-le, get_or, length, length-append, length-drop, length-replicate, length-set, length-take}
pub use lib.ListN.{replicate, set, take}
pub use lib.Seq.{drop-append_seam, drop-cons, drop-drop, get_or-drop, get_or-set_other, get_or-set_same, length-take-le, take_all, take-append_seam}
pub use mathlib.Core.Bool.{Bool, ◌&&◌, ◌||◌, and-eq-true_iff, cond, false, false≢true, not, or-true, true, true≢false}
pub use mathlib.Core.List.Memᴰ.{cases_cons as Memᴰ_cases_cons}
pub use mathlib.Core.List.Memᴰ.{head as Memᴰ_head}
pub use mathlib.Core.List.Memᴰ.{not-nil as Memᴰ_not_nil}
pub use mathlib.Core.List.Memᴰ.{tail as Memᴰ_tail}
pub use mathlib.Core.List.{List, Memᴰ, [], ◌++◌, ◌∷◌, append_assoc}
pub use mathlib.Core.List.{append-nil, map}
unfoldable pub use mathlib.Core.List.{flat_map}
pub use mathlib.Core.Logic.{◌↔◌, ◌⊎◌, inl, inr, ⊎_elim}
pub use Rattle.std.specs.Prelude.{Option}
pub use Rattle.std.proofs.lemmas.Option.{none-some}
pub use mathlib.Core.Path.{◌∙◌, ◌≡◌, ap, refl, sym}
pub use native.Mathlib.Decide.{ℕ_discrete}
pub use native.Mathlib.Nat.{add-zero, le_of_suc-le-suc, not-suc-le-zero, sub-zero, zero-add}
pub use native.Mathlib.Numerals.{add-one}
pub use native.Mathlib.Omega.{arith}
pub use Rattle.laws.proofs.Steps.{bounded, handed, handed_on, known, none_on, retold, told_of, seen, told}
pub use Rattle.laws.proofs.Cycles.{At, Below}
