-- The scan length of a `{` and the scan sum of a body.
use Rattle.std.specs.Prelude.{Bool, cond, ◌&&◌, List, [], ◌∷◌, ℕ, suc, ◌+◌, min, eqb, leb, length, Option, Some, None}
use Prim.Native.Char.{code}
use Rattle.laws.specs.Ascii.{ascii}
use Rattle.text.specs.Bytes.{begins}

-- the number of bytes of s up to the first place at which the word w stands; all of them where it stands nowhere
unfoldable pub up_to : List ℕ → List ℕ → ℕ
up_to w [] = 0
up_to w (x ∷ s) = cond (begins w (x ∷ s)) 0 (suc (up_to w s))

-- the scan length of a `{` that the bytes s follow: up to the first `}`, the first `import` or the body's end, whichever is nearest
unfoldable pub scan_length : List ℕ → ℕ
scan_length s = min (up_to (ascii "}") s) (min (up_to (ascii "import") s) (length s))

-- the scan lengths of all `{` of s, added
unfoldable pub scan_sum : List ℕ → ℕ
scan_sum [] = 0
scan_sum (x ∷ s) = cond (eqb x (code "{")) (scan_length s) 0 + scan_sum s

abbrev pub star_opened : List ℕ → Bool
star_opened body = begins (ascii "*") body

-- the longest body, that of a block comment which is all of the longest source
abbrev pub longest : ℕ
longest = 32764

-- the scan sum of a body; none for one that is too long or not star-opened
unfoldable pub scanned : List ℕ → Option ℕ
scanned body = cond (leb (length body) longest && star_opened body) (Some (scan_sum body)) None
