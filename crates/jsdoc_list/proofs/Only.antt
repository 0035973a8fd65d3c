-- The demand fixes the list: two lists that are right for one sheet are equal.
use Rattle.laws.proofs.Prelude.{◌≡◌, refl, sym, ◌∙◌, inl, inr, List, [], Memᴰ, ℕ, arith}
use Rattle.laws.proofs.Lists.{same_members}
use Rattle.text.specs.{declared.position.Position.Position, Position.Before}
use Rattle.jsdoc.{specs.Grammar.Quote, specs.Parsed.ok, proofs.Texts.quote_complete}
use Rattle.sheet.specs.declared.{fields.Span.Span, comments.Comment.Comment, names.MediaType.MediaType}
use Rattle.report.specs.ModuleInfo.{JsDocImportInfo}
use Rattle.jsdoc_list.specs.Demand.{ImportAt, Lists, start_of, JsDocRight}

-- a quote is that of one text
one_text : {a b s : List ℕ} → Quote a s [] → Quote b s [] → a ≡ b
one_text {a} {b} q r = let both : ok a [] ≡ ok b [] = sym (quote_complete q) ∙ quote_complete r in cc

-- at one place stands one import of a mode
one_import : {source : List ℕ} {place : Span} {i j : JsDocImportInfo} → ImportAt source i place → ImportAt source j place → i.mode ≡ j.mode → i ≡ j
one_import {i = i} {j = j} s t m =
    let range = s.range.is ∙ sym t.range.is in
    let same : ◌≡◌ {A = JsDocImportInfo}
    (record { specifier = record { text = i.specifier.text; range = i.specifier.range }; mode = i.mode })
    (record { specifier = record { text = j.specifier.text; range = j.specifier.range }; mode = j.mode }) = rw (one_text s.text t.text, range, m) in
    same

apart : (p q : Position) → Before p q → Before q p → ⊥
apart p q (inl h) (inl k) = omega arith
apart p q (inl h) (inr k) = omega arith
apart p q (inr h) (inl k) = omega arith
apart p q (inr h) (inr k) = omega arith

module _ {media : MediaType} {source : List ℕ} {cs : List Comment} where
  -- what one of the lists has, the other has
  shared : {l m : List JsDocImportInfo} → JsDocRight media source cs l → JsDocRight media source cs m → (i : JsDocImportInfo) → Memᴰ i l → Memᴰ i m
  shared {l} {m} r t i among =
      let (place, stands) = r.placed i among in
      let here : Lists source l place i.mode = record { import = i; among = among; stands = stands; mode_is = refl } in
      let there = (t.exactly place i.mode).1 ((r.exactly place i.mode).0 here) in
      rw (one_import stands there.stands (sym there.mode_is)) there.among

  pub one_right : {l m : List JsDocImportInfo} → JsDocRight media source cs l → JsDocRight media source cs m → l ≡ m
  one_right {l} {m} r t =
      same_members (λ i j. Before (start_of i) (start_of j)) (λ i j. apart (start_of i) (start_of j)) l m r.ascending t.ascending (shared r t) (shared t r)
