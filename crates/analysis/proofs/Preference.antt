-- What is preferred, over all rows: it is a match, and one only; the first of the matches in order of preference is it. So the finder answers the
-- preferred match, and nothing exactly where nothing matches.
use Rattle.std.specs.Prelude.{Option, Some, None}
use Rattle.laws.proofs.Prelude.{◌≡◌, refl, sym, ◌∙◌, Bool, true, false, cond, List, [], ◌∷◌, ◌++◌, Memᴰ_not_nil, ℕ, zero, suc, ◌+◌, ◌<◌, zero-le}
use Rattle.laws.proofs.Prelude.{arith, eqb, ltb, drop, eqb-true, ltb-true, ltb-false}
use lib.Dec.{eqb-suc-zero}
use Rattle.text.{specs.Class.class_at, proofs.Characters.one_stands, proofs.Characters.one_there}
use Rattle.analysis.specs.declared.Capture.{Capture}
use Rattle.analysis.specs.Letters.{behind, on_match, word_at}
use Rattle.analysis.specs.Row.{Row, done, start, word, one, longest, shortest, from, to, either, run_ends, all, no_capture, first, find}
use Rattle.analysis.specs.Matches.{Matches, RowReading}
use Rattle.analysis.specs.Prefers.{NoMatch, Prefers, Preferred, Finds}
use Rattle.analysis.proofs.Spelling.{word_spelled, spelled_word}
use Rattle.analysis.proofs.Meaning.{of_reverse, in_reverse, of_ends, in_ends, listed, of_places, in_places, reading_found}
use Rattle.analysis.proofs.Order.{reversed, ends_ascend, places_ascend, earliest}

-- of two places neither of which is before the other
one_place : (d e : ℕ) → (d < e → ⊥) → (e < d → ⊥) → d ≡ e
one_place d e f g = go (ltb d e) refl (ltb e d) refl
  where
    go : (x : Bool) → ltb d e ≡ x → (y : Bool) → ltb e d ≡ y → d ≡ e
    go true h y i = absurd (f (ltb-true d e h))
    go false h true i = absurd (g (ltb-true e d i))
    go false h false i = omega (arith, ltb-false d e h, ltb-false e d i)

-- the first of nothing
no_first : {l : Capture} → first [] ≡ Some l → ⊥
unfolding first
no_first e = let z : ◌≡◌ {A = ℕ} 0 1 = cc in omega arith

-- what follows a test, a place that was reached, a character of n bytes
of_test : (b : Bool) (x : List Capture) {l : Capture} → first (cond b x []) ≡ Some l → (b ≡ true) × (first x ≡ Some l)
of_test true x e = (refl, e)
of_test false x e = absurd (no_first e)

module _ (f : ℕ → List Capture) {l : Capture} where
  of_match : (m : Option ℕ) → first (on_match m [] f) ≡ Some l → (e : ℕ) × (m ≡ Some e) × (first (f e) ≡ Some l)
  of_match (Some e) i = (e, refl, i)
  of_match None i = absurd (no_first i)

  of_one : (at n : ℕ) → first (on_match (behind at n) [] f) ≡ Some l → (n ≡ 0 → ⊥) × (first (f (at + n)) ≡ Some l)
  of_one at zero i = absurd (no_first i)
  of_one at (suc n) i = (λ e. omega arith, rw (eqb-suc-zero n) at i)

module _ (s : List ℕ) where
  -- what is preferred is a match
  prefers_matches : {r : Row} {at end : ℕ} {k l : Capture} → Prefers s r at end k l → Matches s r at end k l
  prefers_matches Prefers.done = Matches.done
  prefers_matches (Prefers.start e p) = Matches.start e (prefers_matches p)
  prefers_matches (Prefers.word x p) = Matches.word x (prefers_matches p)
  prefers_matches (Prefers.one x p) = Matches.one x (prefers_matches p)
  prefers_matches (Prefers.longest run _ p) = Matches.longest run (prefers_matches p)
  prefers_matches (Prefers.shortest run _ p) = Matches.shortest run (prefers_matches p)
  prefers_matches (Prefers.from p) = Matches.from (prefers_matches p)
  prefers_matches (Prefers.to p) = Matches.to (prefers_matches p)
  prefers_matches (Prefers.left p) = Matches.left (prefers_matches p)
  prefers_matches (Prefers.right _ p) = Matches.right (prefers_matches p)

  -- and one only
  one_prefers : {r : Row} {at d e : ℕ} {k l m : Capture} → Prefers s r at d k l → Prefers s r at e k m → (d ≡ e) × (l ≡ m)
  one_prefers Prefers.done Prefers.done = (refl, refl)
  one_prefers (Prefers.start _ p) (Prefers.start _ q) = one_prefers p q
  one_prefers (Prefers.word {e = d} x p) (Prefers.word {e = e} y q) =
      let same : d ≡ e = cc (spelled_word x, spelled_word y) in
      one_prefers p (rw (← same) at q)
  one_prefers (Prefers.one {c = c} {at = at} {e = d} x p) (Prefers.one {e = e} y q) =
      let same : d ≡ e = (one_there c s at x).1 ∙ sym (one_there c s at y).1 in
      one_prefers p (rw (← same) at q)
  one_prefers (Prefers.longest {e = d} run none p) (Prefers.longest {e = e} other never q) =
      let same = one_place d e (λ h. none e h other _ _ (prefers_matches q)) (λ h. never d h run _ _ (prefers_matches p)) in
      one_prefers p (rw (← same) at q)
  one_prefers (Prefers.shortest {e = d} run none p) (Prefers.shortest {e = e} other never q) =
      let same = one_place d e (λ h. never d h run _ _ (prefers_matches p)) (λ h. none e h other _ _ (prefers_matches q)) in
      one_prefers p (rw (← same) at q)
  one_prefers (Prefers.from p) (Prefers.from q) = one_prefers p q
  one_prefers (Prefers.to p) (Prefers.to q) = one_prefers p q
  one_prefers (Prefers.left p) (Prefers.left q) = one_prefers p q
  one_prefers (Prefers.left p) (Prefers.right none q) = absurd (none _ _ (prefers_matches p))
  one_prefers (Prefers.right none p) (Prefers.left q) = absurd (none _ _ (prefers_matches q))
  one_prefers (Prefers.right _ p) (Prefers.right _ q) = one_prefers p q

  -- a row has no match where there is none in order of preference
  unmatched : (r : Row) (at : ℕ) (k : Capture) → all r s at k ≡ [] → NoMatch s r at k
  unmatched r at k e end l m = Memᴰ_not_nil (rw e at (listed s m))

  -- the first of the matches in order of preference is preferred
  first_prefers : (r : Row) (at : ℕ) (k : Capture) {l : Capture} → first (all r s at k) ≡ Some l → (end : ℕ) × Prefers s r at end k l
  unfolding all first
  first_prefers done at k {l} e = let same : k ≡ l = cc in (at, rw same Prefers.done)
  first_prefers (start r) at k e =
      let (t, f) = of_test (eqb at 0) (all r s at k) e in
      let (end, p) = first_prefers r at k f in
      (end, Prefers.start (eqb-true at 0 t) p)
  first_prefers (word w r) at k e =
      let (d, x, f) = of_match (λ d. all r s d k) (word_at w s at) e in
      let (end, p) = first_prefers r d k f in
      (end, Prefers.word (word_spelled w s at x) p)
  first_prefers (one c r) at k e =
      let (z, f) = of_one (λ d. all r s d k) at (class_at c (drop at s)) e in
      let (end, p) = first_prefers r (at + class_at c (drop at s)) k f in
      (end, Prefers.one (one_stands c s at z) p)
  first_prefers (longest c r) at k e =
      let x = earliest {R = λ d e. e < d} (λ d e h i. omega arith) (λ d. all r s d k) (reversed (ends_ascend c s at)) e in
      let (end, p) = first_prefers r x.at k x.captures in
      let run = of_ends s c at x.at (of_reverse (run_ends c s at) x.among) in
      (end, Prefers.longest run (λ d h other. unmatched r d k (x.unmatched d (in_reverse (run_ends c s at) (in_ends s c other)) h)) p)
  first_prefers (shortest c r) at k e =
      let x = earliest {R = ◌<◌} (λ d e h i. omega arith) (λ d. all r s d k) (ends_ascend c s at) e in
      let (end, p) = first_prefers r x.at k x.captures in
      let run = of_ends s c at x.at x.among in
      (end, Prefers.shortest run (λ d h other. unmatched r d k (x.unmatched d (in_ends s c other) h)) p)
  first_prefers (from quoted r) at k e = let (end, p) = first_prefers r at (record { quoted = quoted; from = at; to = k.to }) e in (end, Prefers.from p)
  first_prefers (to r) at k e = let (end, p) = first_prefers r at (record { quoted = k.quoted; from = k.from; to = at }) e in (end, Prefers.to p)
  first_prefers (either a b) at k {l} e = go (all a s at k) refl (λ f. first_prefers a at k f) (λ f. first_prefers b at k f) e
    where
      go : (x : List Capture) → all a s at k ≡ x → (first (all a s at k) ≡ Some l → (end : ℕ) × Prefers s a at end k l)
          → (first (all b s at k) ≡ Some l → (end : ℕ) × Prefers s b at end k l) → first (x ++ all b s at k) ≡ Some l →
          (end : ℕ) × Prefers s (either a b) at end k l
      go [] i left right f = let (end, p) = right f in (end, Prefers.right (unmatched a at k i) p)
      go (x ∷ xs) i left right f = let (end, p) = left (rw i f) in (end, Prefers.left p)

module _ (r : Row) (s : List ℕ) where
  pub found_preferred : {k : Capture} → find r s ≡ Some k → Preferred r s k
  unfolding find
  found_preferred e =
      let x = earliest {R = ◌<◌} (λ d e h i. omega arith) (λ at. all r s at no_capture) (places_ascend s 0) e in
      let (end, p) = first_prefers s r x.at no_capture x.captures in
      let (_, inside) = of_places s 0 x.at x.among in
      record {
        at = x.at;
        inside = omega arith;
        end = end;
        prefers = p;
        leftmost = λ p h. unmatched s r p no_capture (x.unmatched p (in_places s 0 p zero-le (omega arith)) h);
      }

  one_preferred : {k l : Capture} → Preferred r s k → Preferred r s l → k ≡ l
  one_preferred p q =
      let same = one_place p.at q.at (λ h. q.leftmost p.at h _ _ (prefers_matches s p.prefers))
      (λ h. p.leftmost q.at h _ _ (prefers_matches s q.prefers)) in
      (one_prefers s p.prefers (rw (← same) at q.prefers)).1

  pub preferred_reads : {k : Capture} → Preferred r s k → RowReading r s k
  preferred_reads p = (p.at, p.inside, p.end, prefers_matches s p.prefers)

  pub preferred_found : {k : Capture} → Preferred r s k → find r s ≡ Some k
  preferred_found {k} p = go (find r s) refl
    where
      go : (f : Option Capture) → find r s ≡ f → f ≡ Some k
      go (Some j) e = let i : j ≡ k = one_preferred (found_preferred e) p in rw i
      go None e = absurd (reading_found r s (preferred_reads p) e)

  pub finds : Finds r s (find r s)
  finds = record { some = λ k. (found_preferred, preferred_found); none = (λ e k m. reading_found r s m e, none (find r s) refl) }
    where
      none : (f : Option Capture) → find r s ≡ f → ((k : Capture) → RowReading r s k → ⊥) → f ≡ None
      none (Some k) e h = absurd (h k (preferred_reads (found_preferred e)))
      none None e h = refl
