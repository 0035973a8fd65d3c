-- The first place of a body that reads each quote, as the readers give it.
-- Grammar is the file to be believed: `openers` is the value that is written, and the law `origins_first` ties it to `Reading`.
use Rattle.std.specs.Prelude.{cond, List, ℕ, zero, suc, ◌+◌, ◌-◌, eqb, length, drop, set, get_or, replicate}
use Rattle.std.specs.Prelude.{None, Option, Some}
use Rattle.jsdoc.specs.Grammar.{Bytes}
use Rattle.jsdoc.specs.Parsed.{value}
use Rattle.jsdoc.specs.Reader.{Hit, hit, parse_jsdoc_dynamic_import, parse_jsdoc_import_decl}

-- 1 + i at place q, where 0 stands
abbrev pub note_at : ℕ → ℕ → List ℕ → List ℕ
note_at i q l = cond (eqb (get_or l q 0) 0) (set l q (i + 1)) l

-- the note of a reading of s, which begins at place i
abbrev pub note_of : ℕ → Bytes → Option Hit → List ℕ → List ℕ
note_of i s (Some (hit q e m)) l = note_at i (i + (length s - length q)) l
note_of i s None l = l

-- the notes of the readings from the first n places of b
abbrev pub openers_by : ℕ → Bytes → List ℕ
openers_by zero b = replicate (length b) 0
openers_by (suc n) b =
    note_of n (drop n b) (value (parse_jsdoc_import_decl (drop n b)))
    (note_of n (drop n b) (value (parse_jsdoc_dynamic_import (drop n b))) (openers_by n b))

-- at each place at which the quote of a reading begins 1 + the first place that reads it, and 0 at each other
unfoldable pub openers : Bytes → List ℕ
openers b = openers_by (length b) b
