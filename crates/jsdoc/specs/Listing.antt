-- The ticks of a body as the readers give them.
-- Grammar is the file to be believed: `listing` is the value that the report computes, and the law `listing_ticks` ties it to `Listed`.
use Rattle.std.specs.Prelude.{List, ℕ, zero, suc, ◌+◌, ◌-◌, length, drop, set, replicate}
use Rattle.std.specs.Prelude.{None, Option, Some}
use Rattle.analysis.specs.Mode.{mode_number}
use Rattle.jsdoc.specs.Grammar.{Bytes}
use Rattle.jsdoc.specs.Parsed.{value}
use Rattle.jsdoc.specs.Reader.{Hit, hit, parse_jsdoc_dynamic_import, parse_jsdoc_import_decl}

-- the tick of a reading of s, which begins at place i
abbrev pub tick_at : ℕ → Bytes → Option Hit → List ℕ → List ℕ
tick_at i s (Some (hit q e m)) l = set l (i + (length s - length q)) (mode_number m + 1)
tick_at i s None l = l

-- the ticks of the readings from the first n places of b
abbrev pub listing_by : ℕ → Bytes → List ℕ
listing_by zero b = replicate (length b) 0
listing_by (suc n) b =
    tick_at n (drop n b) (value (parse_jsdoc_import_decl (drop n b)))
    (tick_at n (drop n b) (value (parse_jsdoc_dynamic_import (drop n b))) (listing_by n b))

-- the ticks of the readings from all places
unfoldable pub listing : Bytes → List ℕ
listing b = listing_by (length b) b
