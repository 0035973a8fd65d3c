-- Sources and reports byte by byte, with the lines that are printed for them.
use Rattle.laws.proofs.Prelude.{◌≡◌, refl, List, [], ◌∷◌, ◌++◌, map, flat_map, ℕ}
use Prim.Native.String.{String}
use Rattle.laws.specs.{Decoded.ok, Decoded.on_ok, Ascii.ascii}
use Rattle.wire.specs.Fields.{byte, below, numbered, flag, bytes}
use Rattle.wire.specs.Number.{last_group, groups, number}
use Rattle.wire.specs.Optional.{optional}
use Rattle.report.specs.Decode.{times, list, text, position, range, specifier, reference, jsdoc, key_value, attributes, argument, rest, dependency, report}
use Rattle.citation.specs.Columns.{from_line, fours_in, recounted}
use Rattle.citation.specs.Citation.{digits, escaped, cite_position, cite_range, printed, lines, title, citation, refusal}

-- lines, each with its end
abbrev rows : List String → List ℕ
rows l = flat_map (λ r. ascii r ++ (0x0A ∷ [])) l

-- a source, a report, the numbers beside its dependencies, and the lines
abbrev cases : List (List ℕ × List ℕ × List ℕ × List String)
cases =
    ([], 0 ∷ 0 ∷ 0 ∷ 0 ∷ 0 ∷ 0 ∷ 0 ∷ 0 ∷ [], [], "module 0" ∷ [])
    ∷ (
      [],
      0 ∷ 0 ∷ 0 ∷ 0 ∷ 0 ∷ 0 ∷ 1 ∷ 1 ∷ 6 ∷ 0x2E ∷ 0x2F ∷ 0x61 ∷ 0x2E ∷ 0x74 ∷ 0x73 ∷ 0 ∷ 12 ∷ 0 ∷ 20 ∷ 0 ∷ 0 ∷ [],
      [],
      "module 1" ∷ "J 1:13-1:21 ./a.ts" ∷ [],
    )
    ∷ (
      0x0A ∷ 0xC3 ∷ 0xA9 ∷ 0xF0 ∷ 0x9F ∷ 0x98 ∷ 0x80 ∷ 0xE2 ∷ 0x82 ∷ 0xAC ∷ 0x61 ∷ [],  -- a line of four characters, the second of four bytes
      0 ∷ 0 ∷ 0 ∷ 0 ∷ 0 ∷ 0 ∷ 1 ∷ 1 ∷ 1 ∷ 0x61 ∷ 1 ∷ 1 ∷ 1 ∷ 4 ∷ 0 ∷ 0 ∷ [],
      [],
      "module 1" ∷ "J 2:2-2:6 a" ∷ [],
    )
    ∷ (
      [],
      0 ∷ 3  -- dependencies
          ∷ 0 ∷ 1 ∷ 1 ∷ 0x74 ∷ 0 ∷ 1 ∷ 0 ∷ 4  -- Import, with types
          ∷ 4 ∷ 0x5C ∷ 7 ∷ 127 ∷ 0x65 ∷ 9 ∷ 7 ∷ 9 ∷ 0xC8 ∷ 0x01 ∷ 0 ∷ 0  -- a backslash, 7, 127, `e`
          ∷ 12 ∷ 0 ∷ 2 ∷ 1 ∷ 0 ∷ 2 ∷ 8 ∷ 2 ∷ 12 ∷ 1  -- Require, a template
          ∷ 9 ∷ 0 ∷ 1 ∷ 1 ∷ 0x62 ∷ 3 ∷ 7 ∷ 3 ∷ 10 ∷ 0  -- Import, a text
          ∷ 1 ∷ 1 ∷ 1 ∷ 0x64 ∷ 6 ∷ 22 ∷ 6 ∷ 25 ∷ 2  -- references: types
          ∷ 1 ∷ 1 ∷ 0x65 ∷ 7 ∷ 17 ∷ 7 ∷ 20  -- self types
          ∷ 1 ∷ 1 ∷ 0x66 ∷ 8 ∷ 20 ∷ 8 ∷ 21  -- JSX source
          ∷ 1 ∷ 1 ∷ 0x67 ∷ 9 ∷ 25 ∷ 9 ∷ 26  -- JSX source types
          ∷ 1 ∷ 1 ∷ 1 ∷ 0x68 ∷ 10 ∷ 12 ∷ 10 ∷ 15 ∷ 1  -- JSDoc entries
          ∷ 1 ∷ 1 ∷ 0x69 ∷ 11 ∷ 21 ∷ 11 ∷ 22  -- source map
          ∷ [],
      4 ∷ 0 ∷ 5 ∷ 0 ∷ 6 ∷ 2 ∷ [],  -- where each starts, and its number
      "module 10"
          ∷ "D 10:8-10:201 \\x5C\\x07\\x7Fe"
          ∷ "T 1:2-1:5 t"
          ∷ "D 3:9-3:13 ?"
          ∷ "d 4:8-4:11 b"
          ∷ "R 7:23-7:26 d"
          ∷ "S 8:18-8:21 e"
          ∷ "X 9:21-9:22 f"
          ∷ "Y 10:26-10:27 g"
          ∷ "J 11:13-11:16 h"
          ∷ "M 12:22-12:23 i"
          ∷ [],
    )
    ∷ []

as_stated : (map (λ c. on_ok (citation c.0 c.2) (report c.1)) cases ≡ map (λ c. ok (rows c.3) []) cases) × (refusal 10 ≡ rows ("refused 10" ∷ []))
unfolding byte below numbered flag bytes last_group groups number flat_map optional times list text position range specifier reference jsdoc key_value
    attributes argument rest
    dependency report from_line fours_in recounted digits escaped cite_position cite_range printed lines title citation refusal
as_stated = (refl, refl)
