-- One body for each way in which the report's source map and that of ECMA-426 differ, as the definitions compute.
use Rattle.std.specs.Prelude.{Some, None}
use Rattle.laws.proofs.Prelude.{◌≡◌, refl, false, List, [], ◌∷◌, ◌++◌, map, flat_map, Option, ℕ, ◌+◌, length}
use Rattle.laws.specs.Ascii.{ascii}
use Rattle.text.specs.{Ranges.in_ranges, Encode.encode, Bytes.begins}
use Rattle.text.specs.Utf8.{admits, length_by, char_length, code_by, char_at}
use Rattle.text.specs.Class.{outside, ranges, member, class_at, run}
use Rattle.text.specs.Position.{step, walk, position_of}
use Rattle.analysis.specs.Letters.{fold_case, letter_at, word_at}
use Rattle.analysis.specs.Row.{ends, all, first, places, find}
use Rattle.analysis.specs.Place.{place_of}
use Rattle.ecma426.specs.WhiteSpace.{is_space}
use Rattle.ecma426.specs.Reader.{row_end, find_source_map}
use Rattle.sheet.specs.declared.{fields.Span.Span, comments.Comment.Comment, names.CommentKind.TheVariants.Block, names.MediaType.TheVariants.TypeScript}
use Rattle.sheet.specs.{declared.names.Side.TheVariants.Trailing, Comments.opening, Comments.closing, Lookups.group_at, Lookups.body_span}
use Rattle.sheet.specs.{Tree.other, Tree.none, Sheet.Sheet}
use Rattle.report.specs.ModuleInfo.{SpecifierWithRange}
use Rattle.pragmas.specs.Readings.{place_in, specifier_in, read_by, first_of, last_of}
use Rattle.pragmas.specs.Pragmas.{end_comments, last_by, source_map_url}
use Rattle.pragmas.specs.SourceMap.{read_standard, standard_map_in, standard_map}

-- a text, from one column of the first line to another
abbrev at : List ℕ → ℕ → ℕ → Option SpecifierWithRange
at text from to = Some (record { text = text; range = record { start = record { line = 0; column = from }; end = record { line = 0; column = to } } })

-- the bodies of some block comments, the report's source map, and that of ECMA-426
record Case : Type 0 where
  bodies : List (List ℕ)
  reported : Option SpecifierWithRange
  standard : Option SpecifierWithRange

abbrev one : List ℕ → Option SpecifierWithRange → Option SpecifierWithRange → Case
one body reported standard = record { bodies = body ∷ []; reported = reported; standard = standard }

abbrev word : List ℕ
word = ascii "#sourceMappingURL="

abbrev none_there : Option SpecifierWithRange
none_there = None

table : List Case
table =
    one word none_there (at [] 20 20)
    ∷ one (word ++ ascii "a a") (at (ascii "a") 20 21) none_there
    ∷ one (ascii "#sourceMappingURL =a") (at (ascii "a") 21 22) none_there
    ∷ one (word ++ ascii " a") (at (ascii "a") 21 22) none_there
    ∷ one (ascii "#sourcemappingurl=a") (at (ascii "a") 20 21) none_there
    ∷ one (ascii "#" ++ (encode 0x17F ++ ascii "ourceMappingURL=a")) (at (ascii "a") 20 21) none_there
    ∷ one (ascii "#" ++ (encode 0xFEFF ++ ascii "sourceMappingURL=a")) none_there (at (ascii "a") 21 22)
    ∷ one (word ++ (ascii "a" ++ encode 0xFEFF)) (at (ascii "a" ++ encode 0xFEFF) 20 22) (at (ascii "a") 20 21)
    ∷ one (word ++ encode 0xFEFF) (at (encode 0xFEFF) 20 21) (at [] 20 20)
    ∷ one (word ++ (ascii "a" ++ (encode 0xFEFF ++ ascii "a"))) (at (ascii "a" ++ (encode 0xFEFF ++ ascii "a")) 20 23) none_there
    ∷ one (ascii "#" ++ (encode 0x85 ++ ascii "sourceMappingURL=a")) (at (ascii "a") 21 22) none_there
    ∷ one (word ++ (ascii "a" ++ encode 0x85)) (at (ascii "a") 20 21) (at (ascii "a" ++ encode 0x85) 20 22)
    ∷ one (word ++ encode 0x85) none_there (at (encode 0x85) 20 21)
    ∷ one (word ++ (encode 0x85 ++ ascii "a")) (at (ascii "a") 21 22) (at (encode 0x85 ++ ascii "a") 20 22)
    -- the last comment that reads is another one
    ∷ record { bodies = (word ++ ascii "a") ∷ (word ++ ascii "b b") ∷ []; reported = at (ascii "b") 43 44; standard = at (ascii "a") 20 21 }
    -- beside these, one body that both read alike
    ∷ one (ascii "@ sourceMappingURL=a ") (at (ascii "a") 21 22) (at (ascii "a") 21 22)
    ∷ []

-- the comments one after the other, from a place on
comments_from : ℕ → List (List ℕ) → List Comment
comments_from from [] = []
comments_from from (body ∷ bodies) =
    let end : ℕ = from + (length body + 4) in
    record { kind = Block; span = record { start = from; end = end } } ∷ comments_from end bodies

-- TypeScript whose source is these comments, all in the trailing group at the program's end; an empty Other as root
sheet_of : List (List ℕ) → Sheet
sheet_of bodies =
    let source : List ℕ = flat_map (λ body. opening Block ++ (body ++ closing Block)) bodies in
    let span : Span = record { start = 0; end = length source } in
    record {
      media = TypeScript;
      source = source;
      comments = comments_from 0 bodies;
      groups = record { side = Trailing; position = length source; first = 0; count = length bodies } ∷ [];
      program = record { script = false; span = span; shebang = false; first = None };
      root = other span none;
    }

abbrev computed : Case → Case
computed c = record { bodies = c.bodies; reported = source_map_url (sheet_of c.bodies); standard = standard_map (sheet_of c.bodies) }

as_stated : map computed table ≡ table
unfolding table comments_from sheet_of flat_map in_ranges admits length_by char_length code_by char_at encode outside ranges member class_at run begins step
    walk position_of fold_case letter_at word_at ends all first places find place_of is_space row_end find_source_map group_at body_span place_in
    specifier_in read_by first_of last_of end_comments last_by read_standard standard_map_in
as_stated = refl
