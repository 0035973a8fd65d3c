-- The search for `import` from a brace, step by step; and that all braces that it passes have one reading.
use Rattle.laws.proofs.Prelude.{◌≡◌, refl, sym, ap, ◌∙◌, Bool, true, false, cond, ◌⊎◌, ⊎_elim, inl, inr, [], ◌∷◌, ℕ, zero, suc, ◌+◌, ◌-◌, ◌≤◌, ◌<◌, code, arith}
use Rattle.laws.proofs.Prelude.{length, take, drop, get_or, eqb, ne_eqb, ℕ_discrete}
use Rattle.laws.specs.Ascii.{ascii}
use Rattle.text.specs.Bytes.{begins}
use Rattle.jsdoc.specs.{Grammar.Bytes, code.Answers.Scans, declared.answers.Searched.Searched}
use Rattle.jsdoc.specs.Reader.{tag, seek, sought, parse_call, parse_jsdoc_dynamic_import}
use Rattle.std.proofs.lemmas.List.{drop_more, take_rest}
use Rattle.jsdoc.proofs.Texts.{tag_complete}

pub search_ended : (s : Bytes) → length s < 1 → seek s ≡ s
unfolding seek
search_ended [] h = refl
search_ended (x ∷ s) h = absurd (omega arith)

pub search_closed : (s : Bytes) → get_or s 0 0 ≡ code "}" → seek s ≡ s
unfolding seek
search_closed [] e = refl
search_closed (x ∷ s) e = rw e

pub search_found : (s : Bytes) → begins (ascii "import") s ≡ true → seek s ≡ s
unfolding seek
search_found [] b = refl
search_found (x ∷ s) b = go (eqb x (code "}"))
  where
    go : (c : Bool) → cond c (x ∷ s) (cond (begins (ascii "import") (x ∷ s)) (x ∷ s) (seek s)) ≡ x ∷ s
    go true = refl
    go false = rw b

pub search_further : (s : Bytes) → (get_or s 0 0 ≡ code "}" → ⊥) → begins (ascii "import") s ≡ false → seek s ≡ seek (take (length s - 1) (drop 1 s))
unfolding seek
search_further [] n b = refl
search_further (x ∷ s) n b = rw (ne_eqb x (code "}") n, b, take_rest (x ∷ s) 1)

pub ruleset seeking = (search_ended, search_closed, search_found, search_further)

-- it stays, or goes on
pub seek_stays : (x : ℕ) (s : Bytes) → (seek (x ∷ s) ≡ x ∷ s) ⊎ (seek (x ∷ s) ≡ seek s)
unfolding seek
seek_stays x s = go (eqb x (code "}")) (begins (ascii "import") (x ∷ s))
  where
    go : (a b : Bool) → (cond a (x ∷ s) (cond b (x ∷ s) (seek s)) ≡ x ∷ s) ⊎ (cond a (x ∷ s) (cond b (x ∷ s) (seek s)) ≡ seek s)
    go true b = inl refl
    go false true = inl refl
    go false false = inr refl

pub seek_shorter : (s : Bytes) → length (seek s) ≤ length s
unfolding seek
seek_shorter [] = omega arith
seek_shorter (x ∷ s) = ⊎_elim (λ e. omega (arith, ap length e)) (λ e. omega (arith, ap length e, seek_shorter s)) (seek_stays x s)

-- the search goes on to the same end from each place that it passes
seek_later : (k : ℕ) (s : Bytes) → k + length (seek s) ≤ length s → seek (drop k s) ≡ seek s
seek_later zero s h = refl
seek_later (suc k) [] h = refl
seek_later (suc k) (x ∷ s) h =
    ⊎_elim (λ g. absurd (omega (arith, h, ap length g))) (λ g. seek_later k s (omega (arith, h, ap length g)) ∙ sym g) (seek_stays x s)

-- at a brace what is left is searched
brace_read : (t : Bytes) → parse_jsdoc_dynamic_import (code "{" ∷ t) ≡ parse_call (seek t)
unfolding parse_jsdoc_dynamic_import
brace_read t = rw (tag_complete (ascii "{") {t = t} refl)

pub brace_sought : (t : Bytes) → sought (code "{" ∷ t) ≡ seek t
unfolding sought
brace_sought t = rw (tag_complete (ascii "{") {t = t} refl)

-- and elsewhere nothing is
none_sought : (x : ℕ) (t : Bytes) → (x ≡ code "{" → ⊥) → sought (x ∷ t) ≡ x ∷ t
unfolding sought tag begins
none_sought x t n = rw (ne_eqb x (code "{") n)

-- each brace before the place where the search from a brace ended has the same reading
pub same_reading : (s : Bytes) {r : Searched} → Scans s r → (k : ℕ) → k + length r.end.now < length s → get_or s k 0 ≡ code "{"
    → parse_jsdoc_dynamic_import (drop k s) ≡ parse_jsdoc_dynamic_import s
same_reading s t zero h e = refl
same_reading [] t (suc k) h e = absurd (omega arith)
same_reading (x ∷ s) {r} t (suc k) h e = go (ℕ_discrete x (code "{"))
  where
    go : Dec (x ≡ code "{") → parse_jsdoc_dynamic_import (drop k s) ≡ parse_jsdoc_dynamic_import (x ∷ s)
    go (no n) = absurd (omega (arith, h, ap length t.end, ap length (none_sought x s n)))
    go (yes b) =
        let to : sought (x ∷ s) ≡ seek s = rw b (brace_sought s) in
        let here : parse_jsdoc_dynamic_import (x ∷ s) ≡ parse_call (seek s) = rw b (brace_read s) in
        let later : parse_jsdoc_dynamic_import (drop k s) ≡ parse_call (seek (drop (k + 1) s)) =
        rw (drop_more s k 0 (omega arith), e) (brace_read (drop (k + 1) s)) in
        later ∙ ap parse_call (seek_later (k + 1) s (omega (arith, h, ap length t.end, ap length to))) ∙ sym here
