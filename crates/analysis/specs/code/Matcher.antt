-- What the functions answer that the patterns share.
use Rattle.std.specs.Prelude.{◌≡◌, List, ℕ, ◌≤◌, get_or, Option, Some, None}
use Rattle.laws.specs.Ascii.{ascii}
use Rattle.text.specs.declared.class.Class.TheVariants.{White}
use Rattle.text.specs.Class.{run_end}
use Rattle.analysis.specs.Letters.{on_match, word_at}

-- where the value begins behind a word and `\s*=\s*`
unfoldable pub assigned_at : List ℕ → List ℕ → ℕ → Option ℕ
assigned_at w s at =
    on_match (word_at w s at) None λ e.
    on_match (word_at (ascii "=") s (run_end White s e)) None λ d. Some (run_end White s d)

-- the place that was reached, if any, is at most n
abbrev pub EndsBy : Option ℕ → ℕ → Type 0
EndsBy (Some e) n = e ≤ n
EndsBy None n = Unit {0}

-- the word begins with @
abbrev pub BeginsWithAtSign : List ℕ → Type 0
BeginsWithAtSign w = get_or w 0 0 ≡ 0x40
