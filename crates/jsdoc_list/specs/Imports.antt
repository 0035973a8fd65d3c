-- The JSDoc imports of a sheet, by ticks over its source: the value that is written. Belief rests on `JsDocRight` (specs/Demand), which is proved of it.
use Rattle.std.specs.Prelude.{Bool, cond, ◌&&◌, List, [], ◌∷◌, ◌++◌, ℕ, zero, suc, ◌-◌, length, take, drop, replicate}
use Rattle.std.specs.Prelude.{None, Option, Some}
use Rattle.laws.specs.Ascii.{ascii}
use Rattle.text.specs.Bytes.{begins}
use Rattle.wire.specs.Fields.{value_of}
use Rattle.analysis.specs.Mode.{Mode}
use Rattle.jsdoc.specs.Parsed.{on_parsed}
use Rattle.jsdoc.specs.Reader.{parse_quote}
use Rattle.jsdoc.specs.Listing.{listing}
use Rattle.sheet.specs.declared.comments.Comment.{Comment}
use Rattle.sheet.specs.Comments.{is_block}
use Rattle.sheet.specs.Lookups.{body_span, body}
use Rattle.sheet.specs.declared.names.MediaType.{MediaType}
use Rattle.sheet.specs.Media.{is_java_script}
use Rattle.report.specs.ModuleInfo.{JsDocImportInfo}
use Rattle.report.specs.Decode.{modes}
use Rattle.report.specs.Range.{range_of}
use Rattle.pragmas.specs.Readings.{listed}

-- a block comment whose body begins with `*`
abbrev pub is_star_opened : List ℕ → Comment → Bool
is_star_opened source c = is_block c.kind && begins (ascii "*") (body source c)

-- ticks over the source: at the body of a star-opened block comment those of its readings, and elsewhere what stands there
unfoldable pub ticked_by : List ℕ → Comment → List ℕ → List ℕ
ticked_by source c ticks =
    cond (is_star_opened source c)
    (take (body_span c).start ticks ++ (listing (body source c) ++ drop (body_span c).end ticks))
    ticks

-- the ticks of comments, one after the other
unfoldable pub ticked_by_all : List ℕ → List Comment → List ℕ → List ℕ
ticked_by_all source [] ticks = ticks
ticked_by_all source (c ∷ cs) ticks = ticked_by_all source cs (ticked_by source c ticks)

-- a tick is a number at a place of the source: 0, or 1 + the number of the mode of the import whose quote begins there
abbrev pub ticks_of : List ℕ → List Comment → List ℕ
ticks_of source cs = ticked_by_all source cs (replicate (length source) 0)

-- none but in JavaScript
abbrev pub ticks_in : MediaType → List ℕ → List Comment → List ℕ
ticks_in media source cs = cond (is_java_script media) (ticks_of source cs) (replicate (length source) 0)

-- how many places are ticked
unfoldable pub count_of : List ℕ → ℕ
count_of [] = 0
count_of (zero ∷ ticks) = count_of ticks
count_of (suc number ∷ ticks) = suc (count_of ticks)

-- the import whose quote begins at q: the text between its two quotation marks, and the positions of the whole quote
unfoldable pub import_at : List ℕ → ℕ → Mode → Option JsDocImportInfo
import_at source q mode =
    on_parsed (parse_quote (drop q source))
    (λ text rest. Some (record {
      specifier = record { text = text; range = range_of source (record { start = q; end = length source - length rest }) };
      mode = mode;
    }))
    None

-- the imports at the places from q on that are ticked with 1 + the number of their mode
unfoldable pub imports_from : List ℕ → ℕ → List ℕ → List JsDocImportInfo
imports_from source q [] = []
imports_from source q (zero ∷ ticks) = imports_from source (suc q) ticks
imports_from source q (suc number ∷ ticks) = listed (import_at source q (value_of modes number)) (imports_from source (suc q) ticks)

-- none but in JavaScript
unfoldable pub jsdoc_imports : MediaType → List ℕ → List Comment → List JsDocImportInfo
jsdoc_imports media source cs = cond (is_java_script media) (imports_from source 0 (ticks_of source cs)) []
