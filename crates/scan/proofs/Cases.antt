-- Worked bodies and their answers.
use Rattle.std.specs.Prelude.{Some, None}
use Rattle.laws.proofs.Prelude.{◌≡◌, refl, List, [], ◌∷◌, map, Option, ℕ}
use Prim.Native.String.{String}
use Rattle.laws.specs.Ascii.{ascii}
use Rattle.text.specs.Bytes.{begins}
use Rattle.scan.specs.Scan.{up_to, scan_length, scan_sum, scanned}

-- a body, and its scan sum or none
data Case : Type 0 where
  sum : String → ℕ → Case
  none : String → Case

abbrev body : Case → List ℕ
body (sum s n) = ascii s
body (none s) = ascii s

abbrev answer : Case → Option ℕ
answer (sum s n) = Some n
answer (none s) = None

table : List Case
table =
    -- not star-opened
    none ""
    ∷ none "{{"
    ∷ none " *{{"
    -- an end right behind the brace
    ∷ sum "*" 0
    ∷ sum "*{" 0
    ∷ sum "*{}" 0
    ∷ sum "*{import" 0
    -- the nearest of three
    ∷ sum "*{ab}import" 2
    ∷ sum "*{abcimport}" 3
    ∷ sum "*{impor" 5
    ∷ sum "*{a}{b" 2
    -- each brace counts, one inside another too
    ∷ sum "*{{import{" 1
    ∷ sum "*{{{{" 6
    ∷ []

cases : map (λ c. scanned (body c)) table ≡ map answer table
unfolding scanned scan_sum scan_length up_to begins table
cases = refl
