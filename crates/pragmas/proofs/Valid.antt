-- What the rules read in the comments of a well-formed source can be written.
use Rattle.std.specs.Prelude.{Some, None}
use Rattle.laws.proofs.Prelude.{Bool, true, false, ⊎_elim, List, [], ◌∷◌, Option, ◌≤◌, arith, length, length-take, length-drop}
use Rattle.laws.specs.Codec.{All}
use Rattle.text.specs.{declared.utf8.Encoding.TheVariants.Utf8, WellFormed.WellFormed}
use Rattle.analysis.specs.Row.{Row}
use Rattle.sheet.specs.{Limits.source_limit, declared.fields.Span.Span, declared.comments.Comment.Comment, declared.groups.Group.Group, Lookups.head_group}
use Rattle.sheet.specs.{Lookups.in_group}
use Rattle.sheet.specs.Sheet.{Sheet}
use Rattle.report.specs.ModuleInfo.{SpecifierWithRange, TypeScriptReference, path, types}
use Rattle.report.specs.Stands.{StandsAt}
use Rattle.report.proofs.Stands.{Good, bare_good, marks_good}
use Rattle.pragmas.specs.Pragmas.{head_comments}
use Rattle.pragmas.specs.Present.{Reader, by_reference, InOrder}
use Rattle.pragmas.specs.Texts.{written_if, ShownInMarks, ShownBare, ShownEither, ReferenceShown, TypesShown}

abbrev pub GoodReference : TypeScriptReference → Type 0
GoodReference (path x) = Good x
GoodReference (types x mode) = Good x

module _ (t : Sheet) (short : length t.source ≤ source_limit) (w : WellFormed Utf8 t.source) where
  pub marks_shown : {row : Row} {x : SpecifierWithRange} → ShownInMarks row t x → Good x
  marks_shown s = marks_good short w s.stands

  pub bare_shown : {row : Row} {x : SpecifierWithRange} → ShownBare row t x → Good x
  bare_shown s = bare_good short w s.stands

  either_shown : {row : Row} {x : SpecifierWithRange} → ShownEither row t x → Good x
  either_shown {x = x} s = go s.read.capture.quoted s.stands
    where
      go : (b : Bool) {place : Span} → StandsAt (written_if b) t.source x place → Good x
      go true = marks_good short w
      go false = bare_good short w

  pub types_shown_good : {x : SpecifierWithRange} → TypesShown t x → Good x
  types_shown_good = ⊎_elim marks_shown either_shown

  -- ---- references

  reference_good : (a : TypeScriptReference) → ReferenceShown t a → GoodReference a
  reference_good (path x) s = marks_shown s
  reference_good (types x mode) s = marks_shown s

  pub references_good : (l : List TypeScriptReference) → All (ReferenceShown t) l → All GoodReference l
  references_good [] s = tt
  references_good (a ∷ l) s = (reference_good a s.0, references_good l s.1)

-- there are no more than comments
in_order_few : {A : Type 0} {r : Reader A} {cs : List Comment} {l : List A} → InOrder r cs l → length l ≤ length cs
in_order_few InOrder.none = omega arith
in_order_few (InOrder.reads g o) = omega (arith, in_order_few o)
in_order_few (InOrder.passes n o) = omega (arith, in_order_few o)

pub references_few : (t : Sheet) {l : List TypeScriptReference} → InOrder (by_reference t.source) (head_comments t) l → length l ≤ length t.comments
unfolding head_comments
references_few t o = omega (arith, in_order_few o, group_few (head_group t.program t.groups))
  where
    group_few : (g : Option Group) → length (in_group t.comments g) ≤ length t.comments
    group_few None = omega arith
    group_few (Some g) = simp (length-take, length-drop) (omega arith)
