-- The ways out of the check of a sheet.
use Rattle.laws.proofs.Prelude.{◌≡◌, refl, List, ℕ, ◌≤◌, ◌<◌, length, le-leb, lt-leb}
use Rattle.laws.specs.Decoded.{ok, no}
use Rattle.sheet.specs.{Limits.sheet_limit, Sheet.sized, Sheet.accept}
use Rattle.sheet_check.specs.declared.front.Front as declared
use Rattle.sheet_check.specs.{declared.tree.Tree.Tree, code.Pieces.front, code.Pieces.tree, code.Views.front_of, code.Views.FrontIn, code.Views.Stands}
use Rattle.sheet_check.specs.{code.Accepts.Accepts}
use Rattle.sheet_check.proofs.{ByPieces.whole, ByPieces.accept_by_pieces, Endings.root_ends}

pub too_many : (s : List ℕ) → sheet_limit < length s → accept s ≡ no 1
too_many s h = rw (accept_by_pieces s, lt-leb (length s) sheet_limit h)

module _ (s : List ℕ) (few : length s ≤ sheet_limit) where
  fits : sized s ≡ ok tt s
  fits = rw (le-leb (length s) sheet_limit few)

  pub refused_front : {r : ℕ} → front s ≡ no r → accept s ≡ no r
  refused_front e = rw (accept_by_pieces s, fits, e)

  module _ (t : declared.Front) {u : List ℕ} (e : front s ≡ ok (front_of t) u) where
    pub refused_tree : {r : ℕ} → tree t.source.now u ≡ no r → accept s ≡ no r
    refused_tree h = rw (accept_by_pieces s, fits, e, h)

    pub accepts : (x : Tree) → FrontIn s t → Stands t.source.now u x → Accepts s (record { front = t; tree = x })
    unfolding tree
    accepts x inside stands =
        record {
          sheet = whole (front_of t) (x.program, stands.root);
          accepted = rw (accept_by_pieces s, fits, e, stands.before, stands.stands, stands.cooked);
          media = refl;
          source = refl;
          place = inside.place;
          comments = refl;
          groups = refl;
          few = inside.few;
          program = refl;
          root = stands.stands;
          root_place = root_ends s u t.source.now e stands.before;
          entries = stands.gives;
          reaches = stands.reaches;
        }

pub ruleset judged = (too_many, refused_front, refused_tree, accepts)
