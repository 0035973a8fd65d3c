-- What is left behind the pieces of a reading ends what it was read from.
use Rattle.laws.proofs.Prelude.{sym, ◌∙◌, inl, inr, [], ◌∷◌, ◌++◌, append_assoc, ℕ, code}
use Rattle.laws.specs.Ascii.{ascii}
use Rattle.text.specs.{declared.class.Class.TheVariants.White, Encode.encode}
use Rattle.analysis.specs.Mode.{Mode}
use Rattle.jsdoc.specs.Grammar.{Bytes, W+, Word, Upto, Quote, Named, Clause, Brace, Declaration, Reading}
use Rattle.jsdoc.proofs.{Ends.Ends, Ends.ends_trans, Characters.run_ends}

word_ends : (w : Bytes) {s t : Bytes} → Word w s t → Ends s t
word_ends w (u, e, r) = ends_trans (w, e) (run_ends White r)

white1_ends : {s t : Bytes} → W+ s t → Ends s t
white1_ends (u, c, r) = ends_trans (encode c.point, c.all) (run_ends White r)

up_to_ends : (m : ℕ) (w : Bytes) {s t : Bytes} → Upto m w s t → Ends s t
up_to_ends m w {t} r = (w ++ m ∷ [], r.1 ∙ sym (append_assoc w (m ∷ []) t))

quote_ends : {k s t : Bytes} → Quote k s t → Ends s t
quote_ends {k} r = ends_trans (r.mark ∷ [], r.first) (up_to_ends r.mark k r.rest)

named_ends : {s t : Bytes} → Named s t → Ends s t
named_ends (k, u, r, w) = ends_trans (k, r.all) (white1_ends w)

clause_ends : {s t : Bytes} → Clause s t → Ends s t
clause_ends (inl (u, w, e, r)) = ends_trans (ascii "{", e) (up_to_ends (code "}") w r)
clause_ends (inr (inl r)) =
    ends_trans (word_ends (ascii "*") r.star) (ends_trans (ascii "as", r.word) (ends_trans (white1_ends r.white) (named_ends r.name)))
clause_ends (inr (inr r)) = named_ends r

module _ {s q e : Bytes} {m : Mode} where
  -- up to the paren
  pub brace_ends : (r : Brace s q e m) → Ends s r.r3
  brace_ends r = ends_trans (ascii "{", r.brace) (ends_trans (r.run.run, r.run.all) (word_ends (ascii "import") r.word))

  -- up to `from`
  pub declaration_ends : (r : Declaration s q e m) → Ends s r.r4
  declaration_ends r =
      ends_trans (ascii "@import", r.word) (ends_trans (white1_ends r.white) (ends_trans (clause_ends r.clause) (run_ends White r.white2)))

  -- up to the place, and over it
  pub reading_ends : Reading s q e m → Ends s q × Ends q e
  reading_ends (inl r) = (ends_trans (brace_ends r) (word_ends (ascii "(") r.paren), quote_ends r.quote)
  reading_ends (inr r) = (ends_trans (declaration_ends r) (word_ends (ascii "from") r.word2), quote_ends r.quote)
