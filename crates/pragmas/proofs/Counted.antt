-- From the comments that a rule takes, with what is captured there, to the specifiers that it reads and to how these were found.
use Rattle.laws.proofs.Prelude.{◌≡◌, refl, Bool, true, false, cond, List, [], ◌∷◌, Option, ℕ}
use Rattle.std.specs.Prelude.{None, Option, Some, option_map, reverse}
use Rattle.laws.specs.Codec.{IfThere}
use Rattle.analysis.specs.declared.{Capture.Capture}
use Rattle.sheet.specs.{declared.comments.Comment.Comment, Lookups.body}
use Rattle.report.specs.{declared.origins.EntryRule.EntryRule, Origin.Origin}
use Rattle.pragmas.specs.declared.readings.Rule.{Rule}
use Rattle.pragmas.specs.{Readings.specifier_in, Readings.or_else, Readings.first_of, Readings.last_of, Origins.origin_of}
use Rattle.pragmas.specs.code.Captured.{Captured, specifier_as}
use Rattle.pragmas.specs.code.Views.{asked, find_rule, taken_by, read_rule, origin_as}
use Rattle.pragmas.proofs.Both.{Both, both_made, both_first, both_last}

module _ (rule : Rule) (source : List ℕ) where
  -- how what it reads in a comment was found
  abbrev origin_rule : EntryRule → Comment → Option Origin
  origin_rule entry c = option_map (λ x. origin_of entry c) (read_rule rule source c)

  -- what a function answers of a comment is made of what the rule takes there
  abbrev Made : {A : Type 0} → (Captured → A) → (Comment → Option A) → Type 0
  Made make f = (c : Comment) → Both (λ t a. make t ≡ a) (taken_by rule source c) (f c)

  specifier_made : Made specifier_as (read_rule rule source)
  specifier_made c = by ((asked rule).kind c.kind) (find_rule rule (body source c))
    where
      by : (b : Bool) (f : Option Capture)
          → Both (λ (t : Captured) a. specifier_as t ≡ a) (cond b (option_map (λ k. record { source = source; comment = c; capture = k }) f) None)
          (cond b (option_map (specifier_in source c) f) None)
      by true (Some k) = Both.each refl
      by true None = Both.neither
      by false f = Both.neither

  origin_made : (entry : EntryRule) → Made (λ t. origin_of entry t.comment) (origin_rule entry)
  origin_made entry c = by ((asked rule).kind c.kind) (find_rule rule (body source c))
    where
      by : (b : Bool) (f : Option Capture)
          → Both (λ (t : Captured) a. origin_of entry t.comment ≡ a) (cond b (option_map (λ k. record { source = source; comment = c; capture = k }) f) None)
          (option_map (λ x. origin_of entry c) (cond b (option_map (specifier_in source c) f) None))
      by true (Some k) = Both.each refl
      by true None = Both.neither
      by false f = Both.neither

  module _ {A : Type 0} {make : Captured → A} {f : Comment → Option A} (h : Made make f) (cs : List Comment) where
    made_first : option_map make (first_of (taken_by rule source) cs) ≡ first_of f cs
    made_first = both_made make (both_first (taken_by rule source) f cs (λ c m. h c))

    made_last : option_map make (last_of (taken_by rule source) cs) ≡ last_of f cs
    made_last = both_made make (both_last (taken_by rule source) f cs (λ c m. h c))

  -- in the first of some comments, and in the last
  module _ (cs : List Comment) where
    pub read_first : option_map specifier_as (first_of (taken_by rule source) cs) ≡ first_of (read_rule rule source) cs
    read_first = made_first specifier_made cs

    pub read_last : option_map specifier_as (last_of (taken_by rule source) cs) ≡ last_of (read_rule rule source) cs
    read_last = made_last specifier_made cs

    pub origin_first : (entry : EntryRule) → origin_as entry (first_of (taken_by rule source) cs) ≡ first_of (origin_rule entry) cs
    origin_first entry = made_first (origin_made entry) cs

    pub origin_last : (entry : EntryRule) → origin_as entry (last_of (taken_by rule source) cs) ≡ last_of (origin_rule entry) cs
    origin_last entry = made_last (origin_made entry) cs

  -- what is taken is of the source
  abbrev OfSource : Option Captured → Type 0
  OfSource = IfThere (λ (t : Captured). t.source ≡ source)

  from_source : (c : Comment) → OfSource (taken_by rule source c)
  from_source c = by ((asked rule).kind c.kind) (find_rule rule (body source c))
    where
      by : (b : Bool) (f : Option Capture) → OfSource (cond b (option_map (λ k. record { source = source; comment = c; capture = k }) f) None)
      by true (Some k) = refl
      by true None = tt
      by false f = tt

  first_source : (cs : List Comment) → OfSource (first_of (taken_by rule source) cs)
  unfolding first_of
  first_source [] = tt
  first_source (c ∷ cs) = by (taken_by rule source c) (from_source c) (first_source cs)
    where
      by : (o : Option Captured) → OfSource o → OfSource (first_of (taken_by rule source) cs) → OfSource (or_else o (first_of (taken_by rule source) cs))
      by None h k = k
      by (Some t) h k = h

  pub last_source : (cs : List Comment) → OfSource (last_of (taken_by rule source) cs)
  unfolding last_of
  last_source cs = first_source (reverse cs)
