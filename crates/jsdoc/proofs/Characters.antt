-- Characters of a class, and the longest runs of them: the grammar and the functions agree.
use Rattle.laws.proofs.Prelude.{◌≡◌, refl, sym, ap, ◌∙◌, true, false, false≢true, [], ◌∷◌, ◌++◌, ℕ, zero, suc, ◌≤◌, ◌<◌, arith, ℕ_discrete, length, drop}
use Rattle.laws.proofs.Prelude.{drop-drop, ne_eqb}
use Rattle.text.specs.{declared.class.Class.Class, declared.class.Class.TheVariants.White, Encode.encode, Characters.OneOf}
use Rattle.text.specs.Class.{member, class_at, run_length}
use Rattle.text.proofs.CodePoint.{by_length, nonempty}
use Rattle.text.proofs.Characters.{with_shorter, one_sound, one_complete}
use Rattle.text.proofs.Runs.{class_fits, run_stops, run_goes_on}
use Rattle.jsdoc.specs.Grammar.{Bytes, LongestRun, done, more, W*, W+, Without}
use Rattle.jsdoc.specs.Parsed.{ok}
use Rattle.jsdoc.specs.Reader.{skip, skip_whitespace, whitespace}
use Rattle.jsdoc.proofs.Chains.{never}
use Rattle.jsdoc.proofs.Ends.{Ends, ends_trans, ends_shorter}

without_append : (m : ℕ) (v w : Bytes) → Without m v → Without m w → Without m (v ++ w)
without_append m [] w h k = k
without_append m (x ∷ v) w h k = (h.0, without_append m v w h.1 k)

module _ (c : Class) where
  -- no other byte of ASCII is in a character of the class
  free : (x : ℕ) → x < 0x80 → member c x ≡ false → (p : ℕ) → member c p ≡ true → Without x (encode p)
  free x h f p m =
      by_length (Without x) p
      (λ l. (λ e. false≢true (sym f ∙ ap (member c) (sym e) ∙ m), tt))
      (λ l k. (λ e. omega arith, (λ e. omega arith, tt)))
      (λ l k. (λ e. omega arith, (λ e. omega arith, (λ e. omega arith, tt))))
      (λ l. (λ e. omega arith, (λ e. omega arith, (λ e. omega arith, (λ e. omega arith, tt)))))

  -- so none begins with such a byte
  pub begins_not : (x : ℕ) → x < 0x80 → member c x ≡ false → {s t u : Bytes} → s ≡ x ∷ u → OneOf c s t → ⊥
  begins_not x h f {t} {u} e r = go (encode r.point) (free x h f r.point r.meets) (nonempty r.point) (sym e ∙ r.all)
    where
      go : (bs : Bytes) → Without x bs → 0 < length bs → x ∷ u ≡ bs ++ t → ⊥
      go [] w l e = omega arith
      go (y ∷ bs) w l e = w.0 (cc)

  skip_stops : (s : Bytes) → class_at c s ≡ 0 → skip c s ≡ s
  unfolding skip
  skip_stops s z = rw (run_stops c s z)

  skip_goes_on : (s : Bytes) → (class_at c s ≡ 0 → ⊥) → skip c s ≡ skip c (drop (class_at c s) s)
  unfolding skip
  skip_goes_on s z = rw (run_goes_on c s refl z) (sym (drop-drop (run_length c (drop (class_at c s) s)) (class_at c s) s))

  stopped : (s : Bytes) → class_at c s ≡ 0 → LongestRun c s (skip c s)
  stopped s z = rw (skip_stops s z) (done (λ u r. (one_complete c r).0 z))

  run_by : (n : ℕ) (s : Bytes) → length s ≤ n → LongestRun c s (skip c s)
  run_by zero s h = stopped s (omega (arith, class_fits c s))
  run_by (suc n) s h = go (run_by n) (ℕ_discrete (class_at c s) 0)
    where
      go : ((t : Bytes) → length t ≤ n → LongestRun c t (skip c t)) → Dec (class_at c s ≡ 0) → LongestRun c s (skip c s)
      go ih (yes z) = stopped s z
      go ih (no z) =
          let r = one_sound c s z in
          rw (skip_goes_on s z) (more r (ih (drop (class_at c s) s) (omega (arith, with_shorter r))))

  pub run_sound : (s : Bytes) → LongestRun c s (skip c s)
  run_sound s = run_by (length s) s (omega arith)

  pub run_complete : {s t : Bytes} → LongestRun c s t → skip c s ≡ t
  run_complete (done {t} h) = go (ℕ_discrete (class_at c t) 0)
    where
      go : Dec (class_at c t ≡ 0) → skip c t ≡ t
      go (yes z) = skip_stops t z
      go (no z) = absurd (h (drop (class_at c t) t) (one_sound c t z))
  run_complete (more {s} {u} {t} r rest) =
      let (z, e) = one_complete c r in
      skip_goes_on s z ∙ ap (skip c) e ∙ run_complete rest

  -- behind a run stands no other character of the class
  pub run_ended : {s t : Bytes} → LongestRun c s t → (u : Bytes) → OneOf c t u → ⊥
  run_ended (done h) = h
  run_ended (more r rest) = run_ended rest

  abbrev pub run_ends : {s t : Bytes} → LongestRun c s t → Ends s t
  run_ends (done h) = ([], refl)
  run_ends (more r rest) = ends_trans (encode r.point, r.all) (run_ends rest)

  -- the bytes of a run have none of ASCII that is not of the class
  pub run_free : (x : ℕ) → x < 0x80 → member c x ≡ false → {s t : Bytes} (r : LongestRun c s t) → Without x (run_ends r).0
  run_free x h f (done k) = tt
  run_free x h f (more r rest) = without_append x (encode r.point) (run_ends rest).0 (free x h f r.point r.meets) (run_free x h f rest)

  pub run_shorter : {s t : Bytes} → LongestRun c s t → length t ≤ length s
  run_shorter r = ends_shorter (run_ends r)

pub white_sound : (s t : Bytes) {z : Unit {0}} → skip_whitespace s ≡ ok z t → W* s t
unfolding skip_whitespace
white_sound s t e = let h : skip White s ≡ t = cc in rw h at (run_sound White s)

pub white_complete : {s t : Bytes} → W* s t → skip_whitespace s ≡ ok tt t
unfolding skip_whitespace
white_complete r = ap (ok tt) (run_complete White r)

some_white : (s : Bytes) → (class_at White s ≡ 0 → ⊥) → whitespace s ≡ ok tt (skip White s)
unfolding whitespace
some_white s z = rw (ne_eqb (run_length White s) 0 (λ h. omega (arith, run_goes_on White s refl z)))

module _ (s t : Bytes) where
  pub white1_sound : {z : Unit {0}} → whitespace s ≡ ok z t → W+ s t
  unfolding whitespace
  white1_sound e = go (ℕ_discrete (class_at White s) 0)
    where
      go : Dec (class_at White s ≡ 0) → W+ s t
      go (yes z) = absurd (never (rw (run_stops White s z) at e))
      go (no z) =
          let h : skip White (drop (class_at White s) s) ≡ t = cc (some_white s z, skip_goes_on White s z) in
          (drop (class_at White s) s, one_sound White s z, rw h at (run_sound White (drop (class_at White s) s)))

  pub white1_complete : W+ s t → whitespace s ≡ ok tt t
  white1_complete (u, r, rest) =
      let (z, e) = one_complete White r in
      some_white s z ∙ ap (ok tt) (run_complete White (more r rest))
