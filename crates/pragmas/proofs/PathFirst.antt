-- Against the rule before request #104, by which the path pattern came first: the two differ exactly in the comments that both patterns read, and there
-- the answer is the types one.
use Rattle.laws.proofs.Prelude.{◌≡◌, refl, sym, ap, ◌∙◌, Bool, true, false, cond, false≢true, ⊎_elim, ◌↔◌, List, [], ◌∷◌, Memᴰ, Memᴰ_head}
use Rattle.laws.proofs.Prelude.{Memᴰ_tail, Memᴰ_cases_cons, Memᴰ_not_nil, Option, ℕ, arith}
use Rattle.std.specs.Prelude.{None, Option, Some, option_map}
use Rattle.analysis.specs.{Mode.Mode, Row.find, Row.is_found, Patterns.triple_slash_row}
use Rattle.sheet.specs.{declared.comments.Comment.Comment, Lookups.body}
use Rattle.report.specs.ModuleInfo.{SpecifierWithRange, TypeScriptReference, path, types}
use Rattle.pragmas.specs.{Asks.path_rule, Asks.types_rule, Pragmas.mode_in, Pragmas.reference}
use Rattle.pragmas.specs.Readings.{read_by, or_else, all_of, listed}
use Rattle.pragmas.specs.Present.{Matched, by_rule, by_types}
use Rattle.pragmas.proofs.Present.{gives_reads, ruled, is_found_lem, by_types_lem}

module _ (source : List ℕ) where
  -- what each rule makes of a reading
  abbrev by_path_of : Option SpecifierWithRange → Option TypeScriptReference
  by_path_of = option_map path

  abbrev by_types_of : Comment → Option SpecifierWithRange → Option TypeScriptReference
  by_types_of c = option_map (λ x. types x (mode_in source c))

  -- the rule before
  abbrev pub path_first : Comment → Option TypeScriptReference
  path_first c =
      cond (is_found (find triple_slash_row (body source c)))
      (or_else (by_path_of (read_by path_rule source c)) (by_types_of c (read_by types_rule source c)))
      None

  -- a line comment that the triple-slash pattern reads, and both rules
  pub record BothRead (c : Comment) : Type 0 where
    pub slashes : Matched triple_slash_row source c
    pub path_reads : (by_rule path_rule source).Reads c
    pub types_reads : (by_rule types_rule source).Reads c

  -- what the two give of a comment
  abbrev Alike : Option TypeScriptReference → Option TypeScriptReference → Type 0
  Alike None None = Unit {0}
  Alike (Some a) (Some b) = Unit {0}
  Alike None (Some b) = ⊥
  Alike (Some a) None = ⊥

  pub record Compared (c : Comment) (old new : Option TypeScriptReference) : Type 0 where
    pub alike : Alike old new
    pub apart : BothRead c → old ≡ new → ⊥
    pub agree : (BothRead c → ⊥) → old ≡ new
    pub both : (old ≡ new → ⊥) → BothRead c

  unlike : {x y : SpecifierWithRange} {m : Mode} → Some (path x) ≡ Some (types y m) → ⊥
  unlike q = let z : ◌≡◌ {A = ℕ} 0 1 = cc in omega (arith, z)

  -- there is no such comment, and the answers are equal
  equal : {c : Comment} {a : Option TypeScriptReference} → Alike a a → (BothRead c → ⊥) → Compared c a a
  equal alike n = record { alike = alike; apart = λ b q. n b; agree = λ n. refl; both = λ q. absurd (q refl) }

  compared : (c : Comment) → Compared c (path_first c) (reference source c)
  unfolding reference
  compared c = by (is_found (find triple_slash_row (body source c))) refl (read_by path_rule source c) refl (read_by types_rule source c) refl
    where
      by : (b : Bool) → is_found (find triple_slash_row (body source c)) ≡ b → (p : Option SpecifierWithRange) → read_by path_rule source c ≡ p
          → (t : Option SpecifierWithRange) → read_by types_rule source c ≡ t
          → Compared c (cond b (or_else (by_path_of p) (by_types_of c t)) None) (cond b (or_else (by_types_of c t) (by_path_of p)) None)
      by true e (Some x) i (Some y) j =
          let here : BothRead c = record {
            slashes = (is_found_lem source c).0 e;
            path_reads = gives_reads path_rule source c (((ruled path_rule source).gives c x).0 i);
            types_reads = gives_reads types_rule source c (((ruled types_rule source).gives c y).0 j);
          } in
          record { alike = tt; apart = λ b q. unlike q; agree = λ n. absurd (n here); both = λ n. here }
      by true e (Some x) i None j = equal tt (λ b. ((ruled types_rule source).unread c).0 j b.types_reads)
      by true e None i (Some y) j = equal tt (λ b. ((ruled path_rule source).unread c).0 i b.path_reads)
      by true e None i None j = equal tt (λ b. ((ruled path_rule source).unread c).0 i b.path_reads)
      by false e p i t j = equal tt (λ b. false≢true (sym e ∙ (is_found_lem source c).1 b.slashes))

  -- the two rules differ exactly where both patterns read
  pub differ : (c : Comment) → (path_first c ≡ reference source c → ⊥) ↔ BothRead c
  differ c = ((compared c).both, (compared c).apart)

  -- there the answer is the types one, with the mode that the resolution-mode pattern reads anywhere in the body
  pub there : (c : Comment) → BothRead c → (a : TypeScriptReference) × (by_types source).Gives c a × (reference source c ≡ Some a)
  unfolding reference
  there c b = by (by_types_of c (read_by types_rule source c)) refl
    where
      by : (t : Option TypeScriptReference) → by_types_of c (read_by types_rule source c) ≡ t
          → (a : TypeScriptReference) × (by_types source).Gives c a × (reference source c ≡ Some a)
      by (Some a) e = (a, ((by_types_lem source).gives c a).0 e, rw ((is_found_lem source c).1 b.slashes, e))
      by None e = absurd (((by_types_lem source).unread c).0 e b.types_reads)

  -- so the references of some comments are equal exactly where there is no such comment among them
  pub same_references : (cs : List Comment)
      → (all_of path_first cs ≡ all_of (reference source) cs) ↔ ((c : Comment) → Memᴰ c cs → BothRead c → ⊥)
  unfolding all_of
  same_references cs = (apart cs, equal cs)
    where
      equal : (cs : List Comment) → ((c : Comment) → Memᴰ c cs → BothRead c → ⊥) → all_of path_first cs ≡ all_of (reference source) cs
      equal [] n = refl
      equal (c ∷ cs) n = rw ((compared c).agree (n c (Memᴰ_head refl)), equal cs (λ d m. n d (Memᴰ_tail m)))

      one : (c : Comment) (old new : Option TypeScriptReference) → Compared c old new → (l l' : List TypeScriptReference) → listed old l ≡ listed new l'
          → (BothRead c → ⊥) × (l ≡ l')
      one c None None k l l' e = (λ b. k.apart b refl, e)
      one c (Some a) (Some b) k l l' e =
          let same : a ≡ b = cc in
          let rest : l ≡ l' = cc in
          (λ r. k.apart r (ap Some same), rest)
      one c None (Some b) k l l' e = absurd k.alike
      one c (Some a) None k l l' e = absurd k.alike

      apart : (cs : List Comment) → all_of path_first cs ≡ all_of (reference source) cs → (c : Comment) → Memᴰ c cs → BothRead c → ⊥
      apart [] e c m b = Memᴰ_not_nil m
      apart (d ∷ cs) e c m b =
          let (here, rest) = one d (path_first d) (reference source d) (compared d) (all_of path_first cs) (all_of (reference source) cs) e in
          ⊎_elim (λ i. here (rw i at b)) (λ i. apart cs rest c i b) (Memᴰ_cases_cons m)
