-- What the value of an accepted sheet promises.
use Rattle.laws.proofs.Prelude.{◌≡◌, ◌∙◌, true, List, [], append-nil, arith, ℕ, ◌≤◌, length}
use Rattle.laws.specs.{Decoded.Decoded, Decoded.ok, Codec.Codec}
use Rattle.text.specs.{declared.utf8.Encoding.TheVariants.Utf8, Utf8.well_formed}
use Rattle.text.specs.{declared.position.PositionRow.PositionRow, code.Index.positions_in, code.Index.IndexOf}
use Rattle.text.proofs.WellFormed.{well_formed_iff}
use Rattle.sheet.specs.{Limits.sheet_limit, Limits.depth_limit, Nodes.node, Fit.Fit, Sheet.Sheet, Sheet.accept}
use Rattle.sheet.specs.code.Lent.{Lends, commented_by}
use Rattle.sheet_nodes.specs.code.Reach.{ReachesIn}
use Rattle.sheet_codec.specs.{Limits.FieldsFit, Limits.NodeFits, Encode.encode_node, SheetOf.SheetOf}
use Rattle.sheet_codec.proofs.{Levels.node_codec, Sheets.accepts_exactly}
use Rattle.sheet_check.specs.{declared.check.Parts.Parts, code.Accepts.Accepts}
use Rattle.module_info.specs.code.Pieces.{commented, Sound, PartsOf, HasParts}

-- there is one such sheet
pub same_sheet : {x : Decoded Sheet} {t u : Sheet} → x ≡ ok t [] → x ≡ ok u [] → t ≡ u
same_sheet e f = cc

-- an accepted sheet
module _ (s : List ℕ) {t : Sheet} (e : accept s ≡ ok t []) where
  pub meets : SheetOf s t
  meets = (accepts_exactly s t).0 e

  pub within : FieldsFit t
  within = meets.encodes.within.fields

  pub formed_source : well_formed Utf8 t.source ≡ true
  formed_source = (well_formed_iff Utf8 t.source).1 within.source.1

  pub fit : Fit t.source t.comments
  fit = within.comments.1

  pub sound : Sound t.source
  sound = (formed_source, within.source.0)

  pub sheet_short : length s ≤ sheet_limit
  sheet_short = rw meets.encodes.bytes at meets.encodes.within.bytes

  -- of the bytes of its root just the root is decoded
  root_codec : Codec (node t.source depth_limit) encode_node (λ n. NodeFits t.source n depth_limit)
  root_codec = node_codec t.source (omega (arith, within.source.0)) depth_limit

-- its parts
module _ {s : List ℕ} {p : Parts} (a : Accepts s p) where
  pub source_sound : Sound p.front.source.now
  source_sound = rw a.source (sound s a.accepted)

  pub has_parts : HasParts a.sheet s p
  has_parts = record {
    media = a.media;
    program = a.program;
    source = a.source;
    place = rw a.source at a.place;
    comments = a.comments;
    groups = a.groups;
    root = ((root_codec s a.accepted).sound _ _ _ a.root).0 ∙ append-nil _;
    root_place = a.root_place;
    count = a.entries;
  }

-- what they promise
module _ {s : List ℕ} {t : Sheet} {p : Parts} (e : accept s ≡ ok t []) (h : HasParts t s p) where
  -- what is lent
  pub lent : (index : List PositionRow) → IndexOf p.front.source.now (positions_in index)
      → Lends (commented_by p.front.source.now p.front.comments.now p.front.groups.now) (positions_in index)
  lent index indexed = record {
    fit = rw (h.source, h.comments) (fit s e);
    grouped = rw (h.comments, h.groups) (within s e).groups.1;
    indexed = indexed;
  }

  pub sound_source : Sound p.front.source.now
  sound_source = rw h.source (sound s e)

  pub commented_of : commented_by p.front.source.now p.front.comments.now p.front.groups.now ≡ commented t
  commented_of = rw (h.source, h.comments, h.groups)

  pub parts_of : ReachesIn p.tree.reach t.root → PartsOf t s p
  parts_of reaches =
      record {
        media = h.media;
        program = h.program;
        source = h.source;
        place = h.place;
        comments = h.comments;
        groups = h.groups;
        root = rw (h.root, ← append-nil (encode_node t.root)) ((root_codec s e).complete t.root (within s e).root []);
        root_place = h.root_place;
        count = h.count;
        reaches = reaches;
      }
