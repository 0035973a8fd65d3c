-- Which names of module declarations are listed, as the definition computes.
use Rattle.laws.proofs.Prelude.{◌≡◌, refl, Bool, true, false, List, [], ◌∷◌, map}
use Prim.Native.String.{String}
use Rattle.laws.specs.Ascii.{ascii}
use Rattle.text.specs.Bytes.{begins}
use Rattle.sheet.specs.Shape.{is_augmentation}

abbrev cases : List (String × Bool)
cases =
    ("", true)
    ∷ ("a", true)
    ∷ ("..", true)
    ∷ ("*", false)
    ∷ ("a/*", false)
    ∷ (".*", false)
    ∷ ("..*", false)
    ∷ (".*/", false)
    ∷ ("*./", false)
    ∷ (" ./*", false)
    ∷ ("./*", true)
    ∷ ("../*", true)
    ∷ ("/*", true)
    ∷ []

as_stated : map (λ (c : String × Bool). (c.0, is_augmentation (ascii c.0))) cases ≡ cases
unfolding begins
as_stated = refl
