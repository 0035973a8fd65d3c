-- The report in the pieces that functions write, and what these are of.
use Rattle.std.specs.Prelude.{◌≡◌, true, List, [], ◌++◌, ℕ, ◌≤◌, length}
use Rattle.laws.specs.Decoded.{ok}
use Rattle.text.specs.declared.utf8.Encoding.TheVariants.{Utf8}
use Rattle.text.specs.Utf8.{formed}
use Rattle.text.specs.declared.position.PositionRow.{PositionRow}
use Rattle.text.specs.code.Index.{positions_in, IndexOf}
use Rattle.wire.specs.Fields.{encode_flag}
use Rattle.wire.specs.Optional.{encode_optional}
use Rattle.sheet.specs.declared.names.MediaType.{MediaType}
use Rattle.sheet.specs.Limits.{depth_limit, source_limit}
use Rattle.sheet.specs.Nodes.{node}
use Rattle.sheet.specs.Walked.{entries}
use Rattle.sheet.specs.Sheet.{Sheet}
use Rattle.sheet.specs.code.Commented.{Commented}
use Rattle.sheet.specs.code.Tables.{comments_in, groups_in}
use Rattle.sheet_codec.specs.Encode.{encode_node}
use Rattle.sheet_nodes.specs.code.Reach.{ReachesIn}
use Rattle.sheet_check.specs.declared.check.Parts.{Parts}
use Rattle.sheet_check.specs.code.Views.{FoundAt, EndsWith}
use Rattle.sheet_check.specs.code.Accepts.{Accepts}
use Rattle.report.specs.Encode.{encode_list, encode_specifier, encode_reference, encode_jsdoc, encode_dependency}
use Rattle.pragmas.specs.Pragmas.{ts_references, self_types_specifier, jsx_import_source, jsx_import_source_types, source_map_url, types_at}
use Rattle.jsdoc_list.specs.Imports.{jsdoc_imports}
use Rattle.dep.specs.Collect.{collect}

-- the source of a sheet with the comments in it, in their groups
abbrev pub commented : Sheet → Commented
commented t = record { source = t.source; comments = t.comments; groups = t.groups }

-- a source is well-formed and no longer than a sheet's may be
abbrev pub Sound : List ℕ → Type 0
Sound source = (formed Utf8 0 source ≡ true) × (length source ≤ source_limit)

-- the script flag and the dependencies
unfoldable pub dependency_bytes : Sheet → List ℕ
dependency_bytes t = encode_flag t.program.script ++ encode_list encode_dependency (collect t.source (types_at t) t.root)

-- what the head group gives
unfoldable pub head_bytes : Sheet → List ℕ
head_bytes t =
    encode_list encode_reference (ts_references t)
    ++ (encode_optional encode_specifier (self_types_specifier t)
    ++ (encode_optional encode_specifier (jsx_import_source t) ++ encode_optional encode_specifier (jsx_import_source_types t)))

-- the JSDoc imports in the comments of a source of this media
abbrev pub import_bytes : MediaType → Commented → List ℕ
import_bytes media c = encode_list encode_jsdoc (jsdoc_imports media c.source c.comments)

-- the JSDoc imports and the source map
unfoldable pub rest_bytes : Sheet → List ℕ
rest_bytes t = import_bytes t.media (commented t) ++ encode_optional encode_specifier (source_map_url t)

-- the parts of a sheet in its bytes s
pub record PartsOf (t : Sheet) (s : List ℕ) (p : Parts) : Type 0 where
  pub media : p.front.media ≡ t.media
  pub program : p.tree.program ≡ t.program
  pub source : p.front.source.now ≡ t.source
  pub place : FoundAt s p.front.source_start t.source
  pub comments : comments_in p.front.comments.now ≡ t.comments
  pub groups : groups_in p.front.groups.now ≡ t.groups
  pub root : node t.source depth_limit p.tree.root.now ≡ ok t.root []
  pub root_place : EndsWith s p.tree.root.now
  pub count : entries t.root ≡ p.tree.entries
  pub reaches : ReachesIn p.tree.reach t.root

-- the same by facts that hold in one way each, without how far entries reach: the root is told by its bytes
pub record HasParts (t : Sheet) (s : List ℕ) (p : Parts) : Type 0 where
  pub media : p.front.media ≡ t.media
  pub program : p.tree.program ≡ t.program
  pub source : p.front.source.now ≡ t.source
  pub place : FoundAt s p.front.source_start t.source
  pub comments : comments_in p.front.comments.now ≡ t.comments
  pub groups : groups_in p.front.groups.now ≡ t.groups
  pub root : p.tree.root.now ≡ encode_node t.root
  pub root_place : EndsWith s p.tree.root.now
  pub count : entries t.root ≡ p.tree.entries

-- a sheet s is accepted with these parts, and has the index of its source's positions
pub record AcceptsIn (s : List ℕ) (index : List PositionRow) (p : Parts) : Type 0 where
  pub accepts : Accepts s p
  pub indexed : IndexOf p.front.source.now (positions_in index)
