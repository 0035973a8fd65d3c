-- What the check of a sheet answers.
use Rattle.std.specs.Prelude.{◌≡◌, List, [], ℕ, ◌≤◌, Result, Ok, Err, length}
use Rattle.laws.specs.Decoded.{ok, no}
use Rattle.wire.specs.declared.refusals.Refusal.{Refusal}
use Rattle.wire.specs.Refusals.{number_of}
use Rattle.sheet.specs.Limits.{comment_limit, group_limit, depth_limit}
use Rattle.sheet.specs.code.Tables.{comments_in, groups_in}
use Rattle.sheet.specs.Nodes.{node}
use Rattle.sheet.specs.Walked.{entries}
use Rattle.sheet.specs.Sheet.{Sheet, accept}
use Rattle.sheet_nodes.specs.code.Reach.{ReachesIn}
use Rattle.sheet_check.specs.declared.check.Parts.{Parts}
use Rattle.sheet_check.specs.code.Views.{FoundAt, EndsWith}

-- a sheet s is accepted, and the parts stand for what it decodes to
pub record Accepts (s : List ℕ) (p : Parts) : Type 0 where
  pub sheet : Sheet
  pub accepted : accept s ≡ ok sheet []
  pub media : p.front.media ≡ sheet.media
  pub source : p.front.source.now ≡ sheet.source
  pub place : FoundAt s p.front.source_start p.front.source.now
  pub comments : comments_in p.front.comments.now ≡ sheet.comments
  pub groups : groups_in p.front.groups.now ≡ sheet.groups
  pub few : (length p.front.comments.now ≤ comment_limit) × (length p.front.groups.now ≤ group_limit)
  pub program : p.tree.program ≡ sheet.program
  pub root : node sheet.source depth_limit p.tree.root.now ≡ ok sheet.root []
  pub root_place : EndsWith s p.tree.root.now
  pub entries : entries sheet.root ≡ p.tree.entries
  pub reaches : ReachesIn p.tree.reach sheet.root

-- what the answer says of a sheet
abbrev pub Judges : List ℕ → Result Parts Refusal → Type 0
Judges s (Ok p) = Accepts s p
Judges s (Err r) = accept s ≡ no (number_of r)
