-- Which comments are star-opened.
use Rattle.laws.proofs.Prelude.{ap, ◌≡◌, refl, true, and-eq-true_iff, false≢true, List, ℕ, drop}
use Rattle.laws.specs.Ascii.{ascii}
use Rattle.text.{specs.Bytes.begins, proofs.Words.begins_sound, proofs.Words.begins_complete}
use Rattle.sheet.specs.{declared.comments.Comment.Comment, declared.names.CommentKind.CommentKind, Comments.is_block, Lookups.body}
use Rattle.sheet.specs.declared.names.CommentKind.TheVariants.{Line, Block, HtmlOpen, HtmlClose}
use Rattle.jsdoc_list.specs.{Imports.is_star_opened, Demand.StarOpened}

is_block_lem : (kind : CommentKind) → is_block kind ≡ true → kind ≡ Block
is_block_lem Block e = refl
is_block_lem Line e = absurd (false≢true e)
is_block_lem HtmlOpen e = absurd (false≢true e)
is_block_lem HtmlClose e = absurd (false≢true e)

module _ (source : List ℕ) (c : Comment) where
  pub opened_sound : is_star_opened source c ≡ true → StarOpened source c
  opened_sound e =
      let (b, s) = (and-eq-true_iff (is_block c.kind) (begins (ascii "*") (body source c))).0 e in
      record { block = is_block_lem c.kind b; rest = drop 1 (body source c); star = begins_sound (ascii "*") (body source c) s }

  pub opened_complete : StarOpened source c → is_star_opened source c ≡ true
  opened_complete o =
      (and-eq-true_iff (is_block c.kind) (begins (ascii "*") (body source c))).1
      (ap is_block o.block, rw o.star (begins_complete (ascii "*") o.rest))
