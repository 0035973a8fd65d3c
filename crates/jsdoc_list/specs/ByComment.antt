-- The JSDoc imports of a sheet comment by comment.
use Rattle.std.specs.Prelude.{◌≡◌, cond, ℕ, ◌+◌, ◌≤◌, ◌<◌, length}
use mathlib.Core.List.{List, [], ◌∷◌, flat_map}
use Rattle.laws.specs.Ascii.{ascii}
use Rattle.text.specs.Bytes.{begins}
use Rattle.sheet.specs.declared.comments.Comment.{Comment}
use Rattle.sheet.specs.declared.names.MediaType.{MediaType}
use Rattle.sheet.specs.Fit.{comment_of}
use Rattle.sheet.specs.Lookups.{body}
use Rattle.report.specs.ModuleInfo.{JsDocImportInfo}
use Rattle.jsdoc_list.specs.Imports.{jsdoc_imports}
use Rattle.jsdoc_list.specs.Demand.{OnlyRight}

-- what a comment gives: the imports of a sheet that has no other comment
abbrev pub given_by : MediaType → List ℕ → Comment → List JsDocImportInfo
given_by media source c = jsdoc_imports media source (c ∷ [])

-- at how many places of a text a word begins
unfoldable pub occurrences : List ℕ → List ℕ → ℕ
occurrences word [] = 0
occurrences word (b ∷ s) = cond (begins word (b ∷ s)) 1 0 + occurrences word s

-- how many `{` and `@import` a body has together
abbrev pub openings : List ℕ → ℕ
openings body = occurrences (ascii "{") body + occurrences (ascii "@import") body

-- a list of imports goes by the comments
pub record ByComment (media : MediaType) (source : List ℕ) (cs : List Comment) (l : List JsDocImportInfo) : Type 0 where
  -- it is what they give, one comment after the other
  pub in_order : l ≡ flat_map (given_by media source) cs
  -- what one gives is what is demanded of it alone
  pub right : (k : ℕ) → k < length cs → OnlyRight media source (comment_of cs k ∷ []) (given_by media source (comment_of cs k))
  -- and no more than it has `{` and `@import` together
  pub few : (k : ℕ) → k < length cs → length (given_by media source (comment_of cs k)) ≤ openings (body source (comment_of cs k))
