-- Comments that are alike in two sources give the same references and pragmas in both, with the same origins.
use Rattle.laws.specs.Last.{last_of as last}
use Rattle.std.specs.Prelude.{Some, None, option_map}
use Rattle.laws.proofs.Prelude.{◌≡◌, refl, ap, Bool, true, false, cond, List, [], ◌∷◌, Option, ℕ, arith, length}
use mathlib.Core.List.{reverse}
use Rattle.laws.specs.Codec.{All}
use Rattle.laws.proofs.Lists.{all_member, of_members, last_member}
use Rattle.analysis.specs.declared.{Capture.Capture}
use Rattle.analysis.{specs.Row.Row, specs.Row.find, specs.Place.Inside, specs.Place.place_of, proofs.Boundaries.EachSpecifier, proofs.Boundaries.whole}
use Rattle.sheet.specs.declared.{comments.Comment.Comment, groups.Group.Group, names.MediaType.MediaType, names.Side.TheVariants.Leading}
use Rattle.sheet.specs.Lookups.{group_at, comments_of, in_group, body}
use Rattle.sheet.proofs.Revised.{Alike}
use Rattle.report.specs.ModuleInfo.{SpecifierWithRange}
use Rattle.pragmas.specs.Asks.{Asks, path_rule, types_rule, self_types_rule, jsx_import_source_rule, jsx_import_source_types_rule, source_map_url_rule}
use Rattle.pragmas.specs.Asks.{ts_types_rule, deno_types_rule}
use Rattle.pragmas.specs.Readings.{place_in, specifier_in, read_by, first_of, last_of, all_of, optional}
use Rattle.pragmas.specs.Pragmas.{mode_in, reference, references_in, given_to, first_by, last_by, ts_or_deno_types, types_by, last_in, types_in}
use Rattle.pragmas.specs.Origins.{origin_by, reference_origin, first_origin, head_origins, end_origins, ts_or_deno_origin, types_origin, types_origins}
use Rattle.pragmas.proofs.Both.{of_reverse}

-- ---- one comment

module _ {s r : List ℕ} {c : Comment} (a : Alike s r c) where
  -- a capture inside the body
  specifier_kept : (k : Capture) → Inside k (length (body s c)) → specifier_in s c k ≡ specifier_in r c k
  unfolding specifier_in place_in place_of
  specifier_kept k i =
      let w = a.within in
      let start = a.position (place_in c k).start (omega arith) (omega arith) in
      let end = a.position (place_in c k).end (omega arith) (omega arith) in
      rw (a.same_body, start, end)

  -- what a row finds is inside the body
  abbrev FindsInside : Row → Type 0
  FindsInside row = (k : Capture) → find row (body s c) ≡ Some k → Inside k (length (body s c))

  each : EachSpecifier (λ row Q. FindsInside row)
  each =
      let w = whole (body s c) a.formed_body in
      record {
        path = λ k e. (w.path k e).0.inside;
        types = λ k e. (w.types k e).0.inside;
        jsx_import_source = λ k e. (w.jsx_import_source k e).0.inside;
        jsx_import_source_types = λ k e. (w.jsx_import_source_types k e).0.inside;
        source_mapping_url = λ k e. (w.source_mapping_url k e).0.inside;
        ts_self_types = λ k e. (w.ts_self_types k e).0.inside;
        ts_types = λ k e. (w.ts_types k e).0.inside;
        deno_types = λ k e. (w.deno_types k e).0.inside;
      }

  read_kept : (rule : Asks) → FindsInside rule.row → read_by rule s c ≡ read_by rule r c
  unfolding read_by
  read_kept rule inside =
      rw (← a.same_body) (ap (λ (x : Option SpecifierWithRange). cond (rule.kind c.kind) x None) (go (find rule.row (body s c)) refl))
    where
      go : (x : Option Capture) → find rule.row (body s c) ≡ x → option_map (specifier_in s c) x ≡ option_map (specifier_in r c) x
      go (Some k) e = ap Some (specifier_kept k (inside k e))
      go None e = refl

  mode_kept : mode_in s c ≡ mode_in r c
  unfolding mode_in
  mode_kept = rw a.same_body

  reference_kept : reference s c ≡ reference r c
  unfolding reference
  reference_kept = rw (a.same_body, mode_kept, read_kept types_rule each.types, read_kept path_rule each.path)

  types_of_kept : ts_or_deno_types s c ≡ ts_or_deno_types r c
  unfolding ts_or_deno_types
  types_of_kept = rw (read_kept ts_types_rule each.ts_types, read_kept deno_types_rule each.deno_types)

  -- origins are made of the same readings
  reference_origin_kept : reference_origin s c ≡ reference_origin r c
  unfolding reference_origin
  reference_origin_kept = rw reference_kept

  origin_kept : (rule : Asks) → FindsInside rule.row → origin_by rule s c ≡ origin_by rule r c
  unfolding origin_by
  origin_kept rule inside = rw (read_kept rule inside)

  types_origin_kept : ts_or_deno_origin s c ≡ ts_or_deno_origin r c
  unfolding ts_or_deno_origin
  types_origin_kept = rw (origin_kept ts_types_rule each.ts_types, origin_kept deno_types_rule each.deno_types)

-- ---- comments one after the other

module _ (s r : List ℕ) where
  module _ {A : Type 0} (f g : Comment → Option A) (same : (c : Comment) → Alike s r c → f c ≡ g c) where
    first_kept : (cs : List Comment) → All (Alike s r) cs → first_of f cs ≡ first_of g cs
    unfolding first_of
    first_kept [] h = refl
    first_kept (c ∷ cs) h = rw (same c h.0, first_kept cs h.1)

    last_kept : (cs : List Comment) → All (Alike s r) cs → last_of f cs ≡ last_of g cs
    unfolding last_of
    last_kept cs h = first_kept (reverse cs) (of_members _ (reverse cs) (λ c m. all_member (Alike s r) cs h (of_reverse cs m)))

    all_kept : (cs : List Comment) → All (Alike s r) cs → all_of f cs ≡ all_of g cs
    unfolding all_of
    all_kept [] h = refl
    all_kept (c ∷ cs) h = rw (same c h.0, all_kept cs h.1)

  given_alike : (b : Bool) (cs : List Comment) → All (Alike s r) cs → All (Alike s r) (cond b cs [])
  given_alike true cs h = h
  given_alike false cs h = tt

  -- the references of the head group
  pub references_kept : (cs : List Comment) → All (Alike s r) cs → references_in s cs ≡ references_in r cs
  unfolding references_in
  references_kept cs h = all_kept (reference s) (reference r) (λ c a. reference_kept a) cs h

  -- its pragmas, each with its origin
  module _ (media : MediaType) (cs : List Comment) (h : All (Alike s r) cs) where
    first_both : (rule : Asks) → ((c : Comment) (a : Alike s r c) → FindsInside a rule.row)
        → (first_by rule media s cs ≡ first_by rule media r cs) × (first_origin rule media s cs ≡ first_origin rule media r cs)
    unfolding first_by first_origin
    first_both rule inside =
        let given = given_alike (rule.media media) cs h in (
          first_kept (read_by rule s) (read_by rule r) (λ c a. read_kept a rule (inside c a)) (given_to rule media cs) given,
          first_kept (origin_by rule s) (origin_by rule r) (λ c a. origin_kept a rule (inside c a)) (given_to rule media cs) given,
        )

    pub self_types_kept : (first_by self_types_rule media s cs ≡ first_by self_types_rule media r cs)
        × (first_origin self_types_rule media s cs ≡ first_origin self_types_rule media r cs)
    self_types_kept = first_both self_types_rule (λ c a. (each a).ts_self_types)

    pub jsx_import_source_kept : (first_by jsx_import_source_rule media s cs ≡ first_by jsx_import_source_rule media r cs)
        × (first_origin jsx_import_source_rule media s cs ≡ first_origin jsx_import_source_rule media r cs)
    jsx_import_source_kept = first_both jsx_import_source_rule (λ c a. (each a).jsx_import_source)

    pub jsx_import_source_types_kept : (first_by jsx_import_source_types_rule media s cs ≡ first_by jsx_import_source_types_rule media r cs)
        × (first_origin jsx_import_source_types_rule media s cs ≡ first_origin jsx_import_source_types_rule media r cs)
    jsx_import_source_types_kept = first_both jsx_import_source_types_rule (λ c a. (each a).jsx_import_source_types)

    -- the origins of all of these
    pub head_origins_kept : head_origins media s cs ≡ head_origins media r cs
    unfolding head_origins
    head_origins_kept =
        let of_references = all_kept (reference_origin s) (reference_origin r) (λ c a. reference_origin_kept a) cs h in
        rw (of_references, self_types_kept.1, jsx_import_source_kept.1, jsx_import_source_types_kept.1)

  -- the source map of the group at the program's end
  pub source_map_kept : (media : MediaType) (cs : List Comment) → All (Alike s r) cs
      → last_by source_map_url_rule media s cs ≡ last_by source_map_url_rule media r cs
  unfolding last_by
  source_map_kept media cs h =
      last_kept (read_by source_map_url_rule s) (read_by source_map_url_rule r) (λ c a. read_kept a source_map_url_rule (each a).source_mapping_url) cs h

  pub end_origins_kept : (cs : List Comment) → All (Alike s r) cs → end_origins s cs ≡ end_origins r cs
  unfolding end_origins
  end_origins_kept cs h =
      ap optional
      (last_kept (origin_by source_map_url_rule s) (origin_by source_map_url_rule r)
      (λ c a. origin_kept a source_map_url_rule (each a).source_mapping_url) cs h)

  -- what the last comment of a group gives
  module _ {A : Type 0} (f g : Option Comment → A) (nothing : f None ≡ g None)
      (same : (c : Comment) → Alike s r c → f (Some c) ≡ g (Some c)) where
    last_in_kept : (cs : List Comment) (o : Option Group) → All (Alike s r) (in_group cs o) → f (last_in cs o) ≡ g (last_in cs o)
    last_in_kept cs None h = nothing
    last_in_kept cs (Some m) h = go (last (comments_of cs m)) refl
      where
        go : (o : Option Comment) → last (comments_of cs m) ≡ o → f o ≡ g o
        go None e = nothing
        go (Some c) e = same c (all_member (Alike s r) (comments_of cs m) h (last_member (comments_of cs m) e))

  -- the types of the leading group at a node, and their origin
  module _ (cs : List Comment) (gs : List Group) (start : ℕ) (h : All (Alike s r) (in_group cs (group_at gs Leading start))) where
    pub types_kept : types_in s cs gs start ≡ types_in r cs gs start
    unfolding types_in
    types_kept = last_in_kept (types_by s) (types_by r) refl (λ c a. types_of_kept a) cs (group_at gs Leading start) h

    pub types_origins_kept : types_origins s cs gs start ≡ types_origins r cs gs start
    unfolding types_origins
    types_origins_kept = ap optional (last_in_kept (types_origin s) (types_origin r) refl (λ c a. types_origin_kept a) cs (group_at gs Leading start) h)
