-- The source map by ECMA-426: the last comment that reads, as that standard has it, in the trailing group at the program's end.
use Rattle.std.specs.Prelude.{◌≡◌, ℕ}
use mathlib.Core.List.{List, Memᴰ}
use Rattle.std.specs.Prelude.{Option, option_map}
use Rattle.analysis.specs.declared.Capture.{Capture}
use Rattle.analysis.specs.Place.{text_of}
use Rattle.ecma426.specs.Grammar.{MapReading}
use Rattle.ecma426.specs.Reader.{find_source_map}
use Rattle.sheet.specs.declared.comments.Comment.{Comment}
use Rattle.sheet.specs.Lookups.{body}
use Rattle.sheet.specs.Sheet.{Sheet}
use Rattle.report.specs.ModuleInfo.{SpecifierWithRange}
use Rattle.report.specs.Range.{range_of}
use Rattle.report.specs.Stands.{Bare, StandsAt}
use Rattle.pragmas.specs.Readings.{place_in, specifier_in, last_of}
use Rattle.pragmas.specs.Pragmas.{end_comments}
use Rattle.pragmas.specs.Present.{Reader}

-- the run of a comment, if it reads
unfoldable pub read_standard : List ℕ → Comment → Option SpecifierWithRange
read_standard source c = option_map (specifier_in source c) (find_source_map (body source c))

-- the last comment that reads, of any kind
unfoldable pub standard_map_in : List ℕ → List Comment → Option SpecifierWithRange
standard_map_in source cs = last_of (read_standard source) cs

abbrev pub standard_map : Sheet → Option SpecifierWithRange
standard_map t = standard_map_in t.source (end_comments t)

-- ---- without the reader

-- the reading of the comment is x: the run, at the range of its place
pub record MapRead (source : List ℕ) (c : Comment) (x : SpecifierWithRange) : Type 0 where
  pub capture : Capture
  pub reads : MapReading (body source c) capture
  pub text : x.text ≡ text_of (body source c) capture
  pub range : x.range ≡ range_of source (place_in c capture)

abbrev pub standard_rule : List ℕ → Reader SpecifierWithRange
standard_rule source = record { Reads = λ c. (k : Capture) × MapReading (body source c) k; Gives = MapRead source }

-- x is the reading of some comment of that group, and the bytes at its place are its text
pub record MapShown (t : Sheet) (x : SpecifierWithRange) : Type 0 where
  pub comment : Comment
  pub among : Memᴰ comment (end_comments t)
  pub read : MapRead t.source comment x
  pub stands : StandsAt Bare t.source x (place_in comment read.capture)
