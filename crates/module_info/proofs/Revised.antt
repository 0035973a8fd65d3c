-- Where one comment is reworded, all that does not come from it stays.
use Rattle.std.specs.Prelude.{Some, None}
use Rattle.laws.proofs.Prelude.{◌≡◌, refl, sym, ◌∙◌, true, List, [], ◌∷◌, flat_map, Memᴰ, Memᴰ_head, Memᴰ_tail, Option, ℕ, ◌<◌, ℕ_discrete}
use Rattle.laws.proofs.Prelude.{length}
use mathlib.Core.Path.{subst}
use Rattle.laws.{specs.Codec.All, proofs.Lists.all_member, proofs.Lists.of_members}
use Rattle.text.{specs.declared.utf8.Encoding.TheVariants.Utf8, specs.Utf8.formed, proofs.WellFormed.well_formed_iff}
use Rattle.sheet.specs.{declared.comments.Comment.Comment, declared.groups.Group.Group, declared.names.Side.TheVariants.Leading, Fit.Fit, Recorded.spans}
use Rattle.sheet.specs.Lookups.{group_at, head_group, end_group, in_group}
use Rattle.sheet.{specs.Revision.Lacks, specs.Revision.Revision, specs.Sheet.Sheet, proofs.VisitSpans.Reported, proofs.VisitSpans.visits_reported}
use Rattle.sheet.specs.Walk.{Visit, start_of, visits}
use Rattle.sheet.proofs.Revised.{Alike, Apart, characters_kept, units_kept, spans_apart, others_alike, group_alike}
use Rattle.sheet_codec.specs.Limits.{FieldsFit}
use Rattle.report.specs.ModuleInfo.{SpecifierWithRange}
use Rattle.pragmas.specs.Pragmas.{head_comments, end_comments, types_at}
use Rattle.pragmas.proofs.Texts.{comment_index}
use Rattle.pragmas.proofs.Revised.{references_kept, self_types_kept, jsx_import_source_kept, jsx_import_source_types_kept, head_origins_kept}
use Rattle.pragmas.proofs.Revised.{source_map_kept, end_origins_kept, types_kept, types_origins_kept}
use Rattle.jsdoc_list.{specs.ByComment.given_by, specs.Imports.jsdoc_imports, proofs.ByComment.by_comment}
use Rattle.jsdoc_list.proofs.Revised.{given_kept, origins_kept}
use Rattle.dep.specs.Collect.{entry_of, collect}
use Rattle.dep.proofs.Revised.{collect_each, SameRange, entry_kept, rows_kept}
use Rattle.module_info.specs.Information.{module_info}
use Rattle.module_info.specs.Unchanged.{jsdoc_from, dependency_of, origins_of_head, origins_of_end, Aside, SameHead, Unchanged}

flat_map_same : {A B : Type 0} {f g : A → List B} (l : List A) → ((a : A) → Memᴰ a l → f a ≡ g a) → flat_map f l ≡ flat_map g l
unfolding flat_map
flat_map_same [] h = refl
flat_map_same (a ∷ l) h = rw (h a (Memᴰ_head refl), flat_map_same l (λ b i. h b (Memᴰ_tail i)))

-- the sheet with another source
abbrev with_source : Sheet → List ℕ → Sheet
with_source t source = record { media = t.media; source = source; comments = t.comments; groups = t.groups; program = t.program; root = t.root }

module _ {t u : Sheet} {k : ℕ} (r : Revision t u k) where
  -- the second sheet is the first with its own source
  with_its_source : with_source t u.source ≡ u
  with_its_source =
      λ i. record { media = r.media i; source = u.source; comments = r.comments i; groups = r.groups i; program = r.program i; root = r.root i }

  -- the ranges that the visits report
  ranges : All (Reported (SameRange t.source u.source)) (visits t.root)
  ranges =
      visits_reported (SameRange t.source u.source) t.root
      (of_members _ (spans t.root) (λ sp m.
      let (start, end) = all_member (Apart r) (spans t.root) (spans_apart r) m in
      rw (characters_kept r sp.start start, characters_kept r sp.end end)))

  by_types_lem : (types types' : ℕ → Option SpecifierWithRange) (v : Visit) → Memᴰ v (visits t.root) → types (start_of v) ≡ types' (start_of v)
      → entry_of t.source types v ≡ entry_of u.source types' v
  by_types_lem types types' v m e = entry_kept t.source u.source types types' v (all_member _ (visits t.root) ranges m) e

  module _ (f : formed Utf8 0 t.source ≡ true) (fit : Fit t.source t.comments) (f' : formed Utf8 0 u.source ≡ true)
      (fit' : Fit u.source t.comments) where
    abbrev second : Sheet
    second = with_source t u.source

    -- the comments of a group that lacks the reworded one
    in_group_lem : (o : Option Group) → Lacks k o → All (Alike t.source u.source) (in_group t.comments o)
    in_group_lem None lacks = tt
    in_group_lem (Some g) lacks = group_alike r f fit g lacks

    jsdoc : (i : ℕ) → i < length t.comments → (i ≡ k → ⊥) → jsdoc_from t i ≡ jsdoc_from second i
    jsdoc i l n = given_kept (others_alike r f fit i l n) (fit.each i l) t.media

    head : Lacks k (head_group t.program t.groups) → SameHead (module_info t) (module_info second)
    unfolding module_info head_comments
    head lacks =
        let alike = in_group_lem (head_group t.program t.groups) lacks in
        record {
          references = references_kept t.source u.source (head_comments t) alike;
          self_types = (self_types_kept t.source u.source t.media (head_comments t) alike).0;
          jsx_import_source = (jsx_import_source_kept t.source u.source t.media (head_comments t) alike).0;
          jsx_import_source_types = (jsx_import_source_types_kept t.source u.source t.media (head_comments t) alike).0;
        }

    source_map_lem : Lacks k (end_group t.program t.groups) → (module_info t).source_map_url ≡ (module_info second).source_map_url
    unfolding module_info end_comments
    source_map_lem lacks = source_map_kept t.source u.source t.media (end_comments t) (in_group_lem (end_group t.program t.groups) lacks)

    head_origins : Lacks k (head_group t.program t.groups) → origins_of_head t ≡ origins_of_head second
    unfolding head_comments
    head_origins lacks = head_origins_kept t.source u.source t.media (head_comments t) (in_group_lem (head_group t.program t.groups) lacks)

    end_origins : Lacks k (end_group t.program t.groups) → origins_of_end t ≡ origins_of_end second
    unfolding end_comments
    end_origins lacks = end_origins_kept t.source u.source (end_comments t) (in_group_lem (end_group t.program t.groups) lacks)

    entry : (v : Visit) → Memᴰ v (visits t.root) → Lacks k (group_at t.groups Leading (start_of v)) → dependency_of t v ≡ dependency_of second v
    entry v m lacks = by_types_lem (types_at t) (types_at second) v m
        (types_kept t.source u.source t.comments t.groups (start_of v) (in_group_lem (group_at t.groups Leading (start_of v)) lacks))

    -- where no rule is given the reworded comment
    module _ (a : Aside t second k) where
      from_each : (c : Comment) → Memᴰ c t.comments → given_by t.media t.source c ≡ given_by t.media u.source c
      from_each c m = let (i, l, e) = comment_index t.comments m in rw (← e) (go i l (ℕ_discrete i k))
        where
          go : (i : ℕ) → i < length t.comments → Dec (i ≡ k) → jsdoc_from t i ≡ jsdoc_from second i
          go i l (yes e) = rw e a.jsdoc
          go i l (no n) = jsdoc i l n

      all_jsdoc : jsdoc_imports t.media t.source t.comments ≡ jsdoc_imports t.media u.source t.comments
      all_jsdoc = (by_comment t.media f fit).in_order ∙ flat_map_same t.comments from_each ∙ sym (by_comment t.media f' fit').in_order

      all_dependencies : collect t.source (types_at t) t.root ≡ collect u.source (types_at second) t.root
      all_dependencies =
          collect_each t.source (types_at t) t.root ∙ flat_map_same (visits t.root) (λ v m. entry v m (a.leading v m))
          ∙ sym (collect_each u.source (types_at second) t.root)

      all_same : module_info t ≡ module_info second
      unfolding module_info
      all_same =
          let h = head a.head in
          λ i. record {
            is_script = t.program.script;
            dependencies = all_dependencies i;
            ts_references = h.references i;
            self_types_specifier = h.self_types i;
            jsx_import_source = h.jsx_import_source i;
            jsx_import_source_types = h.jsx_import_source_types i;
            jsdoc_imports = all_jsdoc i;
            source_map_url = source_map_lem a.end i;
          }

    second_unchanged : Unchanged t second k
    unfolding module_info
    second_unchanged = record {
      in_characters = characters_kept r;
      in_units = units_kept r;
      first = by_comment t.media f fit;
      second = by_comment t.media f' fit';
      jsdoc = jsdoc;
      head = head;
      source_map_url = source_map_lem;
      dependencies = collect_each t.source (types_at t) t.root;
      dependencies' = collect_each u.source (types_at second) t.root;
      entry = entry;
      but_types = λ types v m. by_types_lem types types v m refl;
      rows = rows_kept t.source u.source (types_at t) (types_at second) t.root;
      jsdoc_origins_kept = λ i l n. origins_kept (others_alike r f fit i l n);
      head_origins_kept = head_origins;
      end_origins_kept = end_origins;
      types_origins_kept = λ at lacks. types_origins_kept t.source u.source t.comments t.groups at (in_group_lem (group_at t.groups Leading at) lacks);
      all = all_same;
    }

  pub unchanged : FieldsFit t → FieldsFit u → Unchanged t u k
  unchanged fields fields' =
      subst (λ w. Unchanged t w k) with_its_source
      (second_unchanged ((well_formed_iff Utf8 t.source).1 fields.source.1) fields.comments.1
      ((well_formed_iff Utf8 u.source).1 fields'.source.1) (rw r.comments fields'.comments.1))
