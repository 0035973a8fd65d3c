-- Lines written one after the other.
use Rattle.laws.proofs.Prelude.{◌≡◌, refl, ap, List, [], ◌∷◌, ◌++◌, append_assoc, flat_map, ℕ, zero, suc, ◌+◌, get_or, drop, length-append}
use Rattle.laws.proofs.Lists.{flat_map_append}
use Rattle.text.specs.declared.position.Position.{Position}
use Rattle.report.{specs.ModuleInfo.ModuleInfo, specs.Answer.zeros, specs.declared.writer.Writer.Writer, proofs.Buffers.more_append}
use Rattle.citation.specs.{code.Cites.Printed, Columns.recounted}
use Rattle.citation.specs.Citation.{Line, printed, cite_each, cite_noted, lines, citation}

-- some lines, and then others
pub both : {source : List ℕ} {a b : List Line} {before between after : Writer} {m n : ℕ} → Printed source before a between m → Printed source between b after n
    → Printed source before (a ++ b) after (m + n)
both {source} {a} {b} {before} p q =
    record {
      written = rw (flat_map_append (printed source) a b, more_append, ← p.written) q.written;
      counted = rw (length-append, p.counted, q.counted);
    }

-- the lines of one item more
pub cite_next : {A : Type 0} (f : ℕ → A → List Line) (numbers : List ℕ) (done : List Line) {a : A} {l l' : List A} → l ≡ a ∷ l'
    → done ++ cite_each f numbers l ≡ (done ++ f (get_or numbers 1 0) a) ++ cite_each f (drop 2 numbers) l'
cite_next f numbers done e = rw (e, append_assoc)

-- where numbers do not count
pub each_plain : {A : Type 0} (f : A → List Line) (numbers : List ℕ) (l : List A) → cite_each (λ number. f) numbers l ≡ flat_map f l
unfolding flat_map
each_plain f numbers [] = refl
each_plain f numbers (a ∷ l) = ap (f a ++◌) (each_plain f (drop 2 numbers) l)

-- numbers of 0 behind the others change nothing
each_padded : {A : Type 0} (f : ℕ → A → List Line) (numbers : List ℕ) (k : ℕ) (l : List A) → cite_each f (numbers ++ zeros k) l ≡ cite_each f numbers l
each_padded f numbers k [] = refl
each_padded f (start ∷ number ∷ numbers) k (a ∷ l) = ap (f number a ++◌) (each_padded f numbers k l)
each_padded f (start ∷ []) zero (a ∷ l) = refl
each_padded f (start ∷ []) (suc k) (a ∷ l) = ap (f 0 a ++◌) (each_padded f [] k l)
each_padded f [] zero (a ∷ l) = refl
each_padded f [] (suc zero) (a ∷ l) = refl
each_padded f [] (suc (suc k)) (a ∷ l) = ap (f 0 a ++◌) (each_padded f [] k l)

pub citation_padded : (source numbers : List ℕ) (k : ℕ) (m : ModuleInfo) → citation source (numbers ++ zeros k) m ≡ citation source numbers m
unfolding citation lines
citation_padded source numbers k m = rw (each_padded cite_noted numbers k m.dependencies)

-- two sources that recount each position alike
module _ (s t : List ℕ) (same : (p : Position) → recounted s p ≡ recounted t p) where
  lines_same : (ls : List Line) → flat_map (printed s) ls ≡ flat_map (printed t) ls
  unfolding flat_map printed
  lines_same [] = refl
  lines_same (l ∷ ls) = rw (same l.range.start, same l.range.end, lines_same ls)

  pub citation_same : (numbers : List ℕ) (m : ModuleInfo) → citation s numbers m ≡ citation t numbers m
  unfolding citation
  citation_same numbers m = rw (lines_same (lines numbers m))
