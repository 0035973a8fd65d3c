-- The references and the pragmas are exactly the readings of their rules.
use Rattle.laws.proofs.Prelude.{◌≡◌, refl, sym, ap, ◌∙◌, Bool, true, false, cond, false≢true, ◌⊎◌, inl, inr, ⊎_elim, ◌↔◌, List, [], ◌∷◌, ◌++◌, append_assoc}
use Rattle.laws.proofs.Prelude.{Memᴰ_head, Memᴰ_tail, Memᴰ_not_nil, Memᴰ_cases_cons, Option, none-some, ℕ}
use mathlib.Core.List.{reverse, reverse-cons, reverse-append, reverse-reverse}
use Rattle.std.specs.Prelude.{None, Option, Some, option_map}
use Rattle.std.proofs.lemmas.Option.{same_Some}
use Rattle.analysis.specs.{declared.Capture.Capture, Mode.Mode}
use Rattle.analysis.specs.Row.{Row, find, is_found}
use Rattle.analysis.{specs.Patterns.triple_slash_row, specs.Patterns.resolution_mode_row, proofs.Preference.preferred_reads, proofs.Preference.finds}
use Rattle.sheet.specs.{declared.comments.Comment.Comment, declared.names.Side.TheVariants.Leading, Lookups.group_at, Lookups.body, Sheet.Sheet}
use Rattle.report.specs.ModuleInfo.{SpecifierWithRange, path, types, ModuleInfo}
use Rattle.pragmas.specs.Asks.{Asks, path_rule, types_rule, self_types_rule, jsx_import_source_rule, jsx_import_source_types_rule, source_map_url_rule}
use Rattle.pragmas.specs.Asks.{ts_types_rule, deno_types_rule}
use Rattle.pragmas.specs.Readings.{specifier_in, read_by, or_else, first_of, last_of, listed, all_of}
use Rattle.pragmas.specs.Pragmas.{head_comments, end_comments, given_to, mode_in, mode_by, reference, references_in, first_by, last_by, ts_references}
use Rattle.pragmas.specs.Pragmas.{self_types_specifier, jsx_import_source, jsx_import_source_types, source_map_url, ts_or_deno_types, types_by, last_in}
use Rattle.pragmas.specs.Pragmas.{types_in, types_at}
use Rattle.pragmas.specs.Present.{Matched, Read, Reader, only, or_else_by, made, by_rule, ModeRead, by_path, by_types, by_reference, by_ts_or_deno_types}
use Rattle.pragmas.specs.Present.{NoReading, FirstReading, LastReading, InOrder, Exactly, ExactlyFirst, ExactlyLast, Present, TypesPresent}
use Rattle.pragmas.proofs.Both.{of_reverse}

-- what a function answers of a comment is what a rule gives
pub record Agrees {A : Type 0} (f : Comment → Option A) (r : Reader A) : Type 0 where
  pub gives : (c : Comment) (a : A) → (f c ≡ Some a) ↔ r.Gives c a
  pub unread : (c : Comment) → (f c ≡ None) ↔ (r.Reads c → ⊥)

-- ---- a pattern

module _ (row : Row) (source : List ℕ) (c : Comment) where
  -- a pattern that is not found reads nothing
  pub unmatched : find row (body source c) ≡ None → Matched row source c → ⊥
  unmatched e (k, m) = (finds row (body source c)).none.0 e k m

  unread_none : (Matched row source c → ⊥) → find row (body source c) ≡ None
  unread_none h = (finds row (body source c)).none.1 (λ k m. h (k, m))

  pub matched : {k : Capture} → find row (body source c) ≡ Some k → Matched row source c
  matched {k} e = (k, preferred_reads row (body source c) (((finds row (body source c)).some k).0 e))

  pub found_read : {k : Capture} → find row (body source c) ≡ Some k → Read row source c (specifier_in source c k)
  unfolding specifier_in
  found_read {k} e = record { capture = k; preferred = ((finds row (body source c)).some k).0 e; text = refl; range = refl }

  -- a reading is the one that is found
  read_found : {x : SpecifierWithRange} → Read row source c x → (k : Capture) × (find row (body source c) ≡ Some k) × (specifier_in source c k ≡ x)
  unfolding specifier_in
  read_found {x} r = (r.capture, ((finds row (body source c)).some r.capture).1 r.preferred, sym (rw (← r.text, ← r.range)))

-- what is made of what a finder captures
pub by_finder : {A : Type 0} (found : Comment → Option Capture) (make : Comment → Capture → A) {r : Reader A}
    → ((c : Comment) (k : Capture) → found c ≡ Some k → r.Gives c (make c k))
    → ((c : Comment) (a : A) → r.Gives c a → (k : Capture) × (found c ≡ Some k) × (make c k ≡ a))
    → ((c : Comment) → (found c ≡ None) ↔ (r.Reads c → ⊥))
    → Agrees (λ c. option_map (make c) (found c)) r
by_finder {A} found make {r} gives reading nothing = record {
  gives = λ c a. (some c a (found c) refl, λ g. let (k, e, i) = reading c a g in rw (e, i));
  unread = λ c. (λ e. (nothing c).0 (none c (found c) e), λ n. rw ((nothing c).1 n));
}
  where
    some : (c : Comment) (a : A) (f : Option Capture) → found c ≡ f → option_map (make c) f ≡ Some a → r.Gives c a
    some c a (Some k) e i = let same : make c k ≡ a = cc in rw (← same) (gives c k e)
    some c a None e i = absurd (none-some _ i)

    none : (c : Comment) (f : Option Capture) → option_map (make c) f ≡ None → f ≡ None
    none c (Some k) i = absurd (none-some _ (sym i))
    none c None i = refl

-- ---- rules from rules

module _ {A : Type 0} where
  -- for the comments of a test only
  pub only_if : (b : Comment → Bool) {P : Comment → Type 0} {f : Comment → Option A} {r : Reader A} → ((c : Comment) → (b c ≡ true) ↔ P c) → Agrees f r
      → Agrees (λ c. cond (b c) (f c) None) (only P r)
  only_if b {P} {f} {r} t h = record {
    gives = λ c a. (some c a (b c) refl, λ (p, g). rw ((t c).1 p) ((h.gives c a).1 g));
    unread = λ c. (none c (b c) refl, λ n. unread c n (b c) refl);
  }
    where
      some : (c : Comment) (a : A) (x : Bool) → b c ≡ x → cond x (f c) None ≡ Some a → P c × r.Gives c a
      some c a true e i = ((t c).0 e, (h.gives c a).0 i)
      some c a false e i = absurd (none-some _ i)

      none : (c : Comment) (x : Bool) → b c ≡ x → cond x (f c) None ≡ None → P c × r.Reads c → ⊥
      none c true e i (p, q) = (h.unread c).0 i q
      none c false e i (p, q) = false≢true (sym e ∙ (t c).1 p)

      unread : (c : Comment) → (P c × r.Reads c → ⊥) → (x : Bool) → b c ≡ x → cond x (f c) None ≡ None
      unread c n true e = (h.unread c).1 (λ q. n ((t c).0 e, q))
      unread c n false e = refl

  -- one or else the other
  either : {f g : Comment → Option A} {r s : Reader A} → Agrees f r → Agrees g s → Agrees (λ c. or_else (f c) (g c)) (or_else_by r s)
  either {f} {g} {r} {s} h i = record {
    gives = λ c a. (some c a (f c) refl, back c a);
    unread = λ c. (none c (f c) refl, λ n. rw ((h.unread c).1 (λ q. n (inl q))) ((i.unread c).1 (λ q. n (inr q))));
  }
    where
      some : (c : Comment) (a : A) (x : Option A) → f c ≡ x → or_else x (g c) ≡ Some a → (or_else_by r s).Gives c a
      some c a None e j = inr ((h.unread c).0 e, (i.gives c a).0 j)
      some c a (Some b) e j = inl ((h.gives c a).0 (e ∙ j))

      back : (c : Comment) (a : A) → (or_else_by r s).Gives c a → or_else (f c) (g c) ≡ Some a
      back c a (inl x) = rw ((h.gives c a).1 x)
      back c a (inr (n, x)) = rw ((h.unread c).1 n) ((i.gives c a).1 x)

      none : (c : Comment) (x : Option A) → f c ≡ x → or_else x (g c) ≡ None → r.Reads c ⊎ s.Reads c → ⊥
      none c None e j (inl q) = (h.unread c).0 e q
      none c None e j (inr q) = (i.unread c).0 j q
      none c (Some b) e j q = none-some _ (sym j)

  -- what is made of a reading
  mapped : {B : Type 0} (m : Comment → A → B) {M : Comment → A → B → Type 0} → ((c : Comment) (a : A) → M c a (m c a))
      → ((c : Comment) (a : A) (b : B) → M c a b → b ≡ m c a) → {f : Comment → Option A} {r : Reader A} → Agrees f r
      → Agrees (λ c. option_map (m c) (f c)) (made M r)
  mapped {B} m {M} is alone {f} {r} h = record {
    gives = λ c b. (some c b (f c) refl, λ (a, g, e). rw ((h.gives c a).1 g) (ap Some (sym (alone c a b e))));
    unread = λ c. (λ e. (h.unread c).0 (none c (f c) e), λ n. rw ((h.unread c).1 n));
  }
    where
      some : (c : Comment) (b : B) (x : Option A) → f c ≡ x → option_map (m c) x ≡ Some b → (made M r).Gives c b
      some c b None e i = absurd (none-some _ i)
      some c b (Some a) e i = let same : m c a ≡ b = cc in rw (← same) (a, (h.gives c a).0 e, is c a)

      none : (c : Comment) (x : Option A) → option_map (m c) x ≡ None → x ≡ None
      none c None i = refl
      none c (Some a) i = absurd (none-some _ (sym i))

-- a rule
pub ruled : (rule : Asks) (source : List ℕ) → Agrees (read_by rule source) (by_rule rule source)
unfolding read_by
ruled rule source =
    only_if (λ c. rule.kind c.kind) (λ c. (λ e. e, λ e. e))
    (by_finder (λ c. find rule.row (body source c)) (specifier_in source) (λ c k e. found_read rule.row source c e)
    (λ c x r. read_found rule.row source c r) (λ c. (unmatched rule.row source c, unread_none rule.row source c)))

pub gives_reads : (rule : Asks) (source : List ℕ) (c : Comment) {x : SpecifierWithRange} → (by_rule rule source).Gives c x → (by_rule rule source).Reads c
gives_reads rule source c (kind, r) = (kind, (r.capture, preferred_reads rule.row (body source c) r.preferred))

-- ---- references

module _ (source : List ℕ) where
  mode_read_lem : (c : Comment) → ModeRead source c (mode_in source c)
  unfolding mode_in
  mode_read_lem c = go (find resolution_mode_row (body source c)) refl
    where
      go : (f : Option Capture) → find resolution_mode_row (body source c) ≡ f → ModeRead source c (mode_by (body source c) f)
      go (Some k) e = ModeRead.named (((finds resolution_mode_row (body source c)).some k).0 e)
      go None e = ModeRead.none (unmatched resolution_mode_row source c e)

  read_mode : (c : Comment) {m : Mode} → ModeRead source c m → mode_in source c ≡ m
  unfolding mode_in
  read_mode c (ModeRead.named {k} p) = rw (((finds resolution_mode_row (body source c)).some k).1 p)
  read_mode c (ModeRead.none n) = rw (unread_none resolution_mode_row source c n)

  -- a comment that the triple-slash pattern reads
  pub is_found_lem : (c : Comment) → (is_found (find triple_slash_row (body source c)) ≡ true) ↔ Matched triple_slash_row source c
  is_found_lem c = (some (find triple_slash_row (body source c)) refl, λ m. back m (find triple_slash_row (body source c)) refl)
    where
      some : (f : Option Capture) → find triple_slash_row (body source c) ≡ f → is_found f ≡ true → Matched triple_slash_row source c
      some (Some k) e i = matched triple_slash_row source c e
      some None e i = absurd (false≢true i)

      back : Matched triple_slash_row source c → (f : Option Capture) → find triple_slash_row (body source c) ≡ f → is_found f ≡ true
      back m (Some k) e = refl
      back m None e = absurd (unmatched triple_slash_row source c e m)

  pub by_types_lem : Agrees (λ c. option_map (λ x. types x (mode_in source c)) (read_by types_rule source c)) (by_types source)
  by_types_lem =
      mapped (λ c x. types x (mode_in source c)) (λ c x. (mode_in source c, mode_read_lem c, refl)) (λ c x a (m, n, e). e ∙ ap (types x) (sym (read_mode c n)))
      (ruled types_rule source)

  pub by_path_lem : Agrees (λ c. option_map path (read_by path_rule source c)) (by_path source)
  by_path_lem = mapped (λ c. path) (λ c x. refl) (λ c x a e. e) (ruled path_rule source)

  pub referring : Agrees (reference source) (by_reference source)
  unfolding reference
  referring = only_if (λ c. is_found (find triple_slash_row (body source c))) is_found_lem (either by_types_lem by_path_lem)

-- ---- comments one after the other

module _ {A : Type 0} {f : Comment → Option A} {r : Reader A} (h : Agrees f r) where
  unread_here : {c : Comment} {cs : List Comment} → (r.Reads c → ⊥) → NoReading r cs → NoReading r (c ∷ cs)
  unread_here n ns d m q = ⊎_elim (λ e. n (rw e at q)) (λ i. ns d i q) (Memᴰ_cases_cons m)

  first_some : (cs : List Comment) (a : A) → first_of f cs ≡ Some a → FirstReading r cs a
  unfolding first_of
  first_some [] a e = absurd (none-some _ e)
  first_some (c ∷ cs) a e = go (f c) refl e (first_some cs a)
    where
      go : (x : Option A) → f c ≡ x → or_else x (first_of f cs) ≡ Some a → (first_of f cs ≡ Some a → FirstReading r cs a) → FirstReading r (c ∷ cs) a
      go None i e more =
          let t = more e in
          record {
            before = c ∷ t.before;
            comment = t.comment;
            behind = t.behind;
            among = ap (c ∷◌) t.among;
            unread = unread_here ((h.unread c).0 i) t.unread;
            gives = t.gives;
          }
      go (Some b) i e more =
          record { before = []; comment = c; behind = cs; among = refl; unread = λ d m q. Memᴰ_not_nil m; gives = (h.gives c a).0 (i ∙ e) }

  -- of comments that have no reading there is no answer
  first_none : (cs : List Comment) → NoReading r cs → first_of f cs ≡ None
  unfolding first_of
  first_none [] n = refl
  first_none (c ∷ cs) n = rw ((h.unread c).1 (n c (Memᴰ_head refl))) (first_none cs (λ d m. n d (Memᴰ_tail m)))

  first_unread : (cs : List Comment) → first_of f cs ≡ None → NoReading r cs
  unfolding first_of
  first_unread [] e = λ d m q. Memᴰ_not_nil m
  first_unread (c ∷ cs) e = go (f c) refl e (first_unread cs)
    where
      go : (x : Option A) → f c ≡ x → or_else x (first_of f cs) ≡ None → (first_of f cs ≡ None → NoReading r cs) → NoReading r (c ∷ cs)
      go None i e more = unread_here ((h.unread c).0 i) (more e)
      go (Some b) i e more = absurd (none-some _ (sym e))

  first_is : (before : List Comment) (c : Comment) (behind : List Comment) {a : A} → NoReading r before → r.Gives c a →
      first_of f (before ++ c ∷ behind) ≡ Some a
  unfolding first_of
  first_is [] c behind {a} n g = rw ((h.gives c a).1 g)
  first_is (d ∷ before) c behind n g = rw ((h.unread d).1 (n d (Memᴰ_head refl))) (first_is before c behind (λ e m. n e (Memᴰ_tail m)) g)

  firstly : (cs : List Comment) → ExactlyFirst r cs (first_of f cs)
  firstly cs = record {
    some = λ a. (first_some cs a, λ t. rw t.among (first_is t.before t.comment t.behind t.unread t.gives));
    none = (first_unread cs, first_none cs);
  }

  -- from the end
  turned : (before : List Comment) (c : Comment) (behind : List Comment) → reverse (before ++ c ∷ behind) ≡ reverse behind ++ c ∷ reverse before
  turned before c behind = reverse-append before (c ∷ behind) ∙ rw (reverse-cons c behind, append_assoc)

  unread_turned : (cs : List Comment) → NoReading r cs → NoReading r (reverse cs)
  unread_turned cs n c m = n c (of_reverse cs m)

  pub lastly : (cs : List Comment) → ExactlyLast r cs (last_of f cs)
  unfolding last_of
  lastly cs = record {
    some = λ a. (λ e. last ((first.some a).0 e), λ t. (first.some a).1 (back t));
    none = (λ e. rw reverse-reverse at (unread_turned (reverse cs) (first.none.0 e)), λ n. first.none.1 (unread_turned cs n));
  }
    where
      first : ExactlyFirst r (reverse cs) (first_of f (reverse cs))
      first = firstly (reverse cs)

      last : {a : A} → FirstReading r (reverse cs) a → LastReading r cs a
      last t = record {
        before = reverse t.behind;
        comment = t.comment;
        behind = reverse t.before;
        among = sym (reverse-reverse cs) ∙ ap reverse t.among ∙ turned t.before t.comment t.behind;
        unread = unread_turned t.before t.unread;
        gives = t.gives;
      }

      back : {a : A} → LastReading r cs a → FirstReading r (reverse cs) a
      back t = record {
        before = reverse t.behind;
        comment = t.comment;
        behind = reverse t.before;
        among = ap reverse t.among ∙ turned t.before t.comment t.behind;
        unread = unread_turned t.behind t.unread;
        gives = t.gives;
      }

  in_order : (cs : List Comment) → InOrder r cs (all_of f cs)
  unfolding all_of
  in_order [] = InOrder.none
  in_order (c ∷ cs) = go (f c) refl (in_order cs)
    where
      go : (x : Option A) → f c ≡ x → InOrder r cs (all_of f cs) → InOrder r (c ∷ cs) (listed x (all_of f cs))
      go None i more = InOrder.passes ((h.unread c).0 i) more
      go (Some a) i more = InOrder.reads ((h.gives c a).0 i) more

  all_order : {cs : List Comment} {l : List A} → InOrder r cs l → all_of f cs ≡ l
  unfolding all_of
  all_order InOrder.none = refl
  all_order (InOrder.reads {c = c} {a = a} g o) = rw ((h.gives c a).1 g) (ap (a ∷◌) (all_order o))
  all_order (InOrder.passes {c = c} n o) = rw ((h.unread c).1 n) (all_order o)

  all_in_order : (cs : List Comment) (l : List A) → (all_of f cs ≡ l) ↔ InOrder r cs l
  all_in_order cs l = (λ e. rw e at (in_order cs), all_order)

-- ---- the rules of document 01

pub present : (t : Sheet) (m : ModuleInfo)
    → m.ts_references ≡ ts_references t
    → m.self_types_specifier ≡ self_types_specifier t
    → m.jsx_import_source ≡ jsx_import_source t
    → m.jsx_import_source_types ≡ jsx_import_source_types t
    → m.source_map_url ≡ source_map_url t
    → Present t m
unfolding references_in first_by last_by
present t m references self jsx jsx_types_lem map = record {
  references = rw references (all_in_order (referring t.source) (head_comments t));
  self_types = rw self (firstly (ruled self_types_rule t.source) (given_to self_types_rule t.media (head_comments t)));
  jsx_import_source = rw jsx (firstly (ruled jsx_import_source_rule t.source) (given_to jsx_import_source_rule t.media (head_comments t)));
  jsx_import_source_types =
      rw jsx_types_lem (firstly (ruled jsx_import_source_types_rule t.source) (given_to jsx_import_source_types_rule t.media (head_comments t)));
  source_map_url = rw map (lastly (ruled source_map_url_rule t.source) (end_comments t));
}

pub types_present : (t : Sheet) (start : ℕ) → TypesPresent t start (types_at t start)
unfolding types_in ts_or_deno_types
types_present t start = by_last (last_in t.comments (group_at t.groups Leading start))
  where
    source : List ℕ
    source = t.source

    rule : Agrees (λ c. or_else (read_by ts_types_rule source c) (read_by deno_types_rule source c)) (by_ts_or_deno_types source)
    rule = either (ruled ts_types_rule source) (ruled deno_types_rule source)

    by_last : (o : Option Comment)
        → Exactly (λ x. (c : Comment) × (o ≡ Some c) × (by_ts_or_deno_types source).Gives c x)
        ((c : Comment) → o ≡ Some c → (by_ts_or_deno_types source).Reads c → ⊥) (types_by source o)
    by_last None = record {
      some = λ x. (λ e. absurd (none-some _ e), λ (c, e, g). absurd (none-some _ e));
      none = (λ e c i q. none-some _ i, λ n. refl);
    }
    by_last (Some c) = record {
      some = λ x. (λ e. (c, refl, (rule.gives c x).0 e), λ (d, e, g). rw (same_Some c d e) ((rule.gives d x).1 g));
      none = (λ e d i q. (rule.unread d).0 (rw (same_Some c d i) at e) q, λ n. (rule.unread c).1 (n c refl));
    }
