-- The rules in the pieces that functions write.
use Rattle.std.specs.Prelude.{List, ◌++◌, ℕ}
use mathlib.Core.List.{flat_map}
use Rattle.sheet.specs.Sheet.{Sheet}
use Rattle.sheet.specs.code.Commented.{Commented}
use Rattle.report.specs.Origin.{Origin, encode_origin}
use Rattle.pragmas.specs.Pragmas.{head_comments, end_comments}
use Rattle.pragmas.specs.Origins.{types_origins, head_origins, end_origins}
use Rattle.jsdoc_list.specs.Origins.{jsdoc_origins}

-- the origins of what the comments of a sheet give besides types
unfoldable pub comment_origins : Sheet → List Origin
comment_origins t =
    head_origins t.media t.source (head_comments t) ++ (jsdoc_origins t.media t.source t.comments ++ end_origins t.source (end_comments t))

-- the origins of types in bytes, for nodes that start there
abbrev pub types_bytes : Commented → List ℕ → List ℕ
types_bytes c starts = flat_map encode_origin (flat_map (types_origins c.source c.comments c.groups) starts)
