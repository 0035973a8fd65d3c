-- The references and pragmas, each with the rule that gave it and the comment that it was read in.
use Rattle.laws.proofs.Prelude.{◌≡◌, refl, inl, inr, List, Memᴰ, Option, ℕ}
use Rattle.std.specs.Prelude.{None, Option, Some, option_map}
use Rattle.laws.specs.Aligned.{Aligned}
use Rattle.sheet.specs.declared.{comments.Comment.Comment, groups.Group.Group, names.MediaType.MediaType, names.Side.TheVariants.Leading}
use Rattle.sheet.specs.Lookups.{group_at}
use Rattle.report.specs.ModuleInfo.{SpecifierWithRange, TypeScriptReference}
use Rattle.pragmas.specs.Asks.{Asks, source_map_url_rule, ts_types_rule, deno_types_rule}
use Rattle.pragmas.specs.Readings.{read_by, all_of, optional}
use Rattle.pragmas.specs.Pragmas.{given_to, reference, references_in, first_by, last_by, ts_or_deno_types, types_by, last_in, types_in}
use Rattle.pragmas.specs.Present.{by_reference}
use Rattle.pragmas.specs.Origins.{origin_of, origin_by, rule_of, reference_origin, first_origin, end_origins, ts_or_deno_origin, types_origin, types_origins}
use Rattle.pragmas.specs.Origins.{SpecifierFrom, ReferenceFrom, TypesFrom}
use Rattle.pragmas.proofs.{Present.ruled, Present.referring, Texts.given_member, Texts.last_in_lem}
use Rattle.pragmas.proofs.Both.{Both, both_map, both_else, both_optional, both_first, both_last, both_all}

module _ (source : List ℕ) where
  module _ (cs : List Comment) where
    -- what a rule reads, with its origin
    answered : (rule : Asks) (c : Comment) → Memᴰ c cs → Both (SpecifierFrom rule source cs) (read_by rule source c) (origin_by rule source c)
    unfolding origin_by
    answered rule c m = by (read_by rule source c) refl
      where
        by : (x : Option SpecifierWithRange) → read_by rule source c ≡ x → Both (SpecifierFrom rule source cs) x (option_map (λ a. origin_of rule.entry c) x)
        by None e = Both.neither
        by (Some a) e = Both.each (refl, record { comment = c; among = m; starts = refl; gives = ((ruled rule source).gives c a).0 e })

    referred : (c : Comment) → Memᴰ c cs → Both (ReferenceFrom source cs) (reference source c) (reference_origin source c)
    unfolding reference_origin
    referred c m = by (reference source c) refl
      where
        found : (a : TypeScriptReference) → (by_reference source).Gives c a → ReferenceFrom source cs a (origin_of (rule_of a) c)
        found a (p, inl (x, read, (k, mode, e))) = rw e (inl (refl, record { comment = c; among = m; starts = refl; gives = (x, read, (k, mode, refl)) }))
        found a (p, inr (n, (x, read, e))) = rw e (inr (refl, record { comment = c; among = m; starts = refl; gives = (x, read, refl) }))

        by : (x : Option TypeScriptReference) → reference source c ≡ x → Both (ReferenceFrom source cs) x (option_map (λ a. origin_of (rule_of a) c) x)
        by None e = Both.neither
        by (Some a) e = Both.each (found a (((referring source).gives c a).0 e))

    pub references_from : Aligned (ReferenceFrom source cs) (references_in source cs) (all_of (reference_origin source) cs)
    unfolding references_in
    references_from = both_all (reference source) (reference_origin source) cs referred

    -- the first of the comments that a rule is given
    pub first_from : (rule : Asks) (media : MediaType)
        → Aligned (SpecifierFrom rule source cs) (optional (first_by rule media source cs)) (optional (first_origin rule media source cs))
    unfolding first_by first_origin
    first_from rule media =
        both_optional
        (both_first (read_by rule source) (origin_by rule source) (given_to rule media cs) (λ c m. answered rule c (given_member (rule.media media) cs m)))

    pub source_map_from : (media : MediaType)
        → Aligned (SpecifierFrom source_map_url_rule source cs) (optional (last_by source_map_url_rule media source cs)) (end_origins source cs)
    unfolding last_by end_origins
    source_map_from media =
        both_optional (both_last (read_by source_map_url_rule source) (origin_by source_map_url_rule source) cs (answered source_map_url_rule))

  pub types_from_lem : (cs : List Comment) (gs : List Group) (start : ℕ)
      → Aligned (TypesFrom source cs) (optional (types_in source cs gs start)) (types_origins source cs gs start)
  unfolding types_in types_origins ts_or_deno_types ts_or_deno_origin
  types_from_lem cs gs start = both_optional (by (last_in cs (group_at gs Leading start)) refl)
    where
      by : (o : Option Comment) → last_in cs (group_at gs Leading start) ≡ o → Both (TypesFrom source cs) (types_by source o) (types_origin source o)
      by None e = Both.neither
      by (Some c) e =
          let m = last_in_lem cs (group_at gs Leading start) e in
          both_else (both_map (λ a b p. inl p) (answered cs ts_types_rule c m)) (both_map (λ a b p. inr p) (answered cs deno_types_rule c m))
