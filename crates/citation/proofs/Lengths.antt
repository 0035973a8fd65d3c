-- What is printed for a report is at most four times as long as the report.
use Rattle.std.specs.Prelude.{Some, None}
use Rattle.laws.proofs.Prelude.{◌≡◌, refl, Bool, true, false, cond, List, [], ◌∷◌, ◌++◌, flat_map, Option, ℕ, zero, suc, ◌+◌, ◌*◌, ◌/◌, ◌%◌, ◌≤◌, ◌<◌, code}
use Rattle.laws.proofs.Prelude.{arith, ltb, length, get_or, drop, length-append, ltb-true, ltb-false}
use Prim.Native.Nat.{◌^◌}
use native.Mathlib.Nat.{pow-suc, one-le-pow}
use Rattle.laws.{specs.Ascii.ascii, specs.Codec.IfThere, specs.Codec.All, proofs.Lists.flat_map_append}
use Rattle.text.specs.declared.position.Position.{Position}
use Rattle.wire.specs.Number.{largest, encode_groups, encode_number}
use Rattle.wire.{specs.Text.encode_text, specs.Optional.encode_optional, proofs.Lengths.number_long}
use Rattle.report.specs.ModuleInfo.{PositionRange, SpecifierWithRange, DynamicArgument, expr, string, template, path, types, static, dynamic}
use Rattle.report.specs.ModuleInfo.{TypeScriptReference, JsDocImportInfo, DependencyDescriptor, ModuleInfo}
use Rattle.report.specs.Encode.{encode_list, encode_position, encode_range, encode_specifier, encode_reference, encode_jsdoc, encode_argument, encode_static}
use Rattle.report.specs.Encode.{encode_dynamic, encode_dependency, encode}
use Rattle.report.specs.Valid.{ValidPosition, ValidRange, ValidSpecifier, ValidReference, ValidJsDoc, ValidDependency, Valid}
use Rattle.citation.specs.Columns.{from_line, fours_in, recounted, recounted_range}
use Rattle.citation.specs.Citation.{digits, decimal, hex_digit, is_escaped, escaped, cite_position, cite_range, Line, printed, cite_specifier}
use Rattle.citation.specs.Citation.{cite_optional, argument_text, cite_argument, cite_reference, cite_jsdoc, cite_dependency, dependency_letter, cite_noted}
use Rattle.citation.specs.Citation.{cite_each, lines, title, citation, refusal}
use Rattle.citation.proofs.{Fours.fours_most, Printing.each_plain}

digits_short : (k places n : ℕ) → n < 10 ^ suc k → length (digits places n) ≤ suc k
unfolding digits
digits_short k zero n h = omega arith
digits_short k (suc places) n h = by_size (ltb n 10) refl k h (λ k. digits_short k places (n / 10))
  where
    by_size : (b : Bool) → ltb n 10 ≡ b → (k : ℕ) → n < 10 ^ suc k
        → ((k : ℕ) → n / 10 < 10 ^ suc k → length (digits places (n / 10)) ≤ suc k)
        → length (digits (suc places) n) ≤ suc k
    by_size true e k h front = rw e (omega arith)
    by_size false e zero h front = absurd (omega (arith, ltb-false n 10 e))
    by_size false e (suc k) h front = rw (e, length-append) (omega (arith, front k (omega (arith, pow-suc 10 (suc k)))))

pub digits_most : (places n : ℕ) → length (digits places n) ≤ places
unfolding digits
digits_most zero n = omega arith
digits_most (suc places) n = by_size (ltb n 10) (digits_most places (n / 10))
  where
    by_size : (b : Bool) → length (digits places (n / 10)) ≤ places
        → length (cond b ((0x30 + n) ∷ []) (digits places (n / 10) ++ ((0x30 + n % 10) ∷ []))) ≤ suc places
    by_size true h = omega arith
    by_size false h = rw length-append (omega arith)

-- a number of at least 128 to the j-th has more than j groups
groups_long : (k j n : ℕ) → j < k → 128 ^ j ≤ n → j < length (encode_groups k n)
unfolding encode_groups
groups_long zero j n l h = absurd (omega arith)
groups_long (suc k) j n l h = by_size (ltb n 128) refl j l h (λ j. groups_long k j (n / 128))
  where
    by_size : (b : Bool) → ltb n 128 ≡ b → (j : ℕ) → j < suc k → 128 ^ j ≤ n
        → ((j : ℕ) → j < k → 128 ^ j ≤ n / 128 → j < length (encode_groups k (n / 128)))
        → j < length (encode_groups (suc k) n)
    by_size true e zero l h above = rw e (omega arith)
    by_size true e (suc j) l h above = absurd (omega (arith, ltb-true n 128 e, pow-suc 128 j, one-le-pow j 128 (omega arith)))
    by_size false e zero l h above = rw e (omega arith)
    by_size false e (suc j) l h above = rw e (omega (arith, above j (omega arith) (omega (arith, pow-suc 128 j))))

-- up to twice a number, counted from 1, has at most three digits for each of the number's groups
number_short : (n m : ℕ) → n ≤ largest → m ≤ 2 * n → length (decimal (m + 1)) ≤ 3 * length (encode_number n)
unfolding encode_number
number_short n m v most = first (ltb n 128) refl
  where
    within : (j k : ℕ) → j < 5 → 128 ^ j ≤ n → m + 1 < 10 ^ suc k → suc k ≤ 3 * suc j → length (decimal (m + 1)) ≤ 3 * length (encode_groups 5 n)
    within j k l h less few = omega (arith, digits_short k 20 (m + 1) less, groups_long 5 j n l h)

    fourth : (b : Bool) → ltb n 268435456 ≡ b → 2097152 ≤ n → length (decimal (m + 1)) ≤ 3 * length (encode_groups 5 n)
    fourth true e h = within 3 11 (omega arith) h (omega (arith, ltb-true n 268435456 e)) (omega arith)
    fourth false e h = within 4 14 (omega arith) (ltb-false n 268435456 e) (omega arith) (omega arith)

    third : (b : Bool) → ltb n 2097152 ≡ b → 16384 ≤ n → length (decimal (m + 1)) ≤ 3 * length (encode_groups 5 n)
    third true e h = within 2 8 (omega arith) h (omega (arith, ltb-true n 2097152 e)) (omega arith)
    third false e h = fourth (ltb n 268435456) refl (ltb-false n 2097152 e)

    second : (b : Bool) → ltb n 16384 ≡ b → 128 ≤ n → length (decimal (m + 1)) ≤ 3 * length (encode_groups 5 n)
    second true e h = within 1 5 (omega arith) h (omega (arith, ltb-true n 16384 e)) (omega arith)
    second false e h = third (ltb n 2097152) refl (ltb-false n 16384 e)

    first : (b : Bool) → ltb n 128 ≡ b → length (decimal (m + 1)) ≤ 3 * length (encode_groups 5 n)
    first true e = omega (arith, digits_short 2 20 (m + 1) (omega (arith, ltb-true n 128 e)), number_long n)
    first false e = second (ltb n 16384) refl (ltb-false n 128 e)

pub range_long : (r : PositionRange) → 4 ≤ length (encode_range r)
unfolding encode_range encode_position
range_long r = simp length-append
    (omega (arith, number_long r.start.line, number_long r.start.column, number_long r.end.line, number_long r.end.column))

byte_short : (b : ℕ) → length (escaped b) ≤ 4
unfolding escaped
byte_short b = either (is_escaped b)
  where
    either : (t : Bool) → length (cond t (0x5C ∷ code "x" ∷ hex_digit (b / 16) ∷ hex_digit (b % 16) ∷ []) (b ∷ [])) ≤ 4
    either true = omega arith
    either false = omega arith

pub text_short : (x : List ℕ) → length (flat_map escaped x) ≤ 4 * length x
unfolding flat_map
text_short [] = omega arith
text_short (b ∷ x) = rw length-append (omega (arith, byte_short b, text_short x))

title_short : (word : List ℕ) (n k : ℕ) → length (decimal n) ≤ k → length (title word n) ≤ length word + k + 1
unfolding title
title_short word n k h = simp length-append (omega arith)

-- over a source, by which the positions are recounted
module _ (source : List ℕ) where
  position_short : (p : Position) → ValidPosition p → length (cite_position (recounted source p)) ≤ 3 * length (encode_position p) + 1
  unfolding cite_position encode_position recounted
  position_short p v =
      let fours = fours_most p.column (from_line p.line source) in
      simp length-append (omega (
        arith,
        number_short p.line p.line v.line (omega arith),
        number_short p.column (p.column + fours_in p.column (from_line p.line source)) v.column (omega arith),
      ))

  range_short : (r : PositionRange) → ValidRange r → length (cite_range (recounted_range source r)) ≤ 3 * length (encode_range r) + 3
  unfolding cite_range encode_range
  range_short r v = simp length-append (omega (arith, position_short r.start v.start, position_short r.end v.end))

  -- a line, for the range and the text that it has
  line_short : (l : Line) → ValidRange l.range → length (printed source l) ≤ 7 + 3 * length (encode_range l.range) + 4 * length l.text
  unfolding printed
  line_short l v = simp length-append (omega (arith, range_short l.range v, text_short l.text))

  -- lines are at most four times as long as the bytes
  abbrev Short : List Line → List ℕ → Type 0
  Short ls bytes = length (flat_map (printed source) ls) ≤ 4 * length bytes

  specifier_short : (letter : ℕ) (s : SpecifierWithRange) → ValidSpecifier s → Short (cite_specifier letter s) (encode_specifier s)
  unfolding flat_map encode_specifier encode_text
  specifier_short letter s v =
      let line = line_short (record { letter = letter; range = s.range; text = s.text }) v.range in
      simp length-append (omega (arith, line, range_long s.range, number_long (length s.text)))

  -- and the byte before an optional thing, or a count, is left over
  optional_short : (letter : ℕ) (o : Option SpecifierWithRange) → IfThere ValidSpecifier o
      → length (flat_map (printed source) (cite_optional letter o)) + 4 ≤ 4 * length (encode_optional encode_specifier o)
  unfolding flat_map encode_optional
  optional_short letter None v = omega arith
  optional_short letter (Some s) v = omega (arith, specifier_short letter s v)

  each_short : {A : Type 0} (f : ℕ → A → List Line) (encode : A → List ℕ) (P : A → Type 0) → ((number : ℕ) (a : A) → P a → Short (f number a) (encode a))
      → (numbers : List ℕ) (l : List A) → All P l → length (flat_map (printed source) (cite_each f numbers l)) + 4 ≤ 4 * length (encode_list encode l)
  unfolding encode_list flat_map
  each_short {A} f encode P h numbers l v = rw length-append (omega (arith, items numbers l v, number_long (length l)))
    where
      items : (numbers : List ℕ) (l : List A) → All P l → Short (cite_each f numbers l) (flat_map encode l)
      items numbers [] v = omega arith
      items numbers (a ∷ l) v = simp (flat_map_append, length-append) (omega (arith, h (get_or numbers 1 0) a v.0, items (drop 2 numbers) l v.1))

  list_short : {A : Type 0} (f : A → List Line) (encode : A → List ℕ) (P : A → Type 0) → ((a : A) → P a → Short (f a) (encode a))
      → (l : List A) → All P l → length (flat_map (printed source) (flat_map f l)) + 4 ≤ 4 * length (encode_list encode l)
  list_short f encode P h l v = rw (← each_plain f [] l) (each_short (λ number. f) encode P (λ number. h) [] l v)

  reference_short : (x : TypeScriptReference) → ValidReference x → Short (cite_reference x) (encode_reference x)
  unfolding encode_reference
  reference_short (path s) v = omega (arith, specifier_short (code "R") s v)
  reference_short (types s mode) v = simp length-append (omega (arith, specifier_short (code "R") s v))

  jsdoc_short : (i : JsDocImportInfo) → ValidJsDoc i → Short (cite_jsdoc i) (encode_jsdoc i)
  unfolding encode_jsdoc
  jsdoc_short i v = simp length-append (omega (arith, specifier_short (code "J") i.specifier v))

  argument_short : (letter : ℕ) (x : DynamicArgument) (r : PositionRange) → ValidRange r
      → length (flat_map (printed source) (cite_argument letter x r)) ≤ 4 * (length (encode_argument x) + length (encode_range r) + 1)
  unfolding flat_map encode_argument encode_text
  argument_short letter x r v = by_kind x (line_short (record { letter = letter; range = r; text = argument_text x }) v)
    where
      by_kind : (x : DynamicArgument) →
          length (printed source (record { letter = letter; range = r; text = argument_text x })) ≤ 7 + 3 * length (encode_range r) + 4 * length
          (argument_text x)
          → length (flat_map (printed source) (cite_argument letter x r)) ≤ 4 * (length (encode_argument x) + length (encode_range r) + 1)
      by_kind expr h = simp length-append (omega (arith, range_long r))
      by_kind (string y) h = simp length-append (omega (arith, range_long r))
      by_kind (template l) h = simp length-append (omega (arith, range_long r))

  dependency_short : (letter : ℕ) (d : DependencyDescriptor) → ValidDependency d → Short (cite_dependency letter d) (encode_dependency d)
  unfolding encode_dependency encode_static encode_dynamic
  dependency_short letter (static d) v =
      rw (flat_map_append (printed source) (cite_specifier letter d.specifier) (cite_optional (code "T") d.types_specifier))
      (simp length-append
      (omega (arith, specifier_short letter d.specifier v.specifier, optional_short (code "T") d.types_specifier v.types_specifier)))
  dependency_short letter (dynamic d) v =
      rw (flat_map_append (printed source) (cite_argument letter d.argument d.argument_range) (cite_optional (code "T") d.types_specifier))
      (simp length-append (omega (
        arith,
        argument_short letter d.argument d.argument_range v.argument_range,
        optional_short (code "T") d.types_specifier v.types_specifier,
      )))

  -- every report has eight bytes, a flag, the counts and what stands before each optional thing
  lines_short : (numbers : List ℕ) (m : ModuleInfo) → Valid m → length (flat_map (printed source) (lines numbers m)) + 32 ≤ 4 * length (encode m)
  unfolding lines encode
  lines_short numbers m v =
      simp (flat_map_append, length-append)
      (omega (
        arith,
        each_short cite_noted encode_dependency ValidDependency (λ number. dependency_short (dependency_letter number)) numbers m.dependencies
            v.dependencies.1,
        list_short cite_reference encode_reference ValidReference reference_short m.ts_references v.ts_references.1,
        optional_short (code "S") m.self_types_specifier v.self_types_specifier,
        optional_short (code "X") m.jsx_import_source v.jsx_import_source,
        optional_short (code "Y") m.jsx_import_source_types v.jsx_import_source_types,
        list_short cite_jsdoc encode_jsdoc ValidJsDoc jsdoc_short m.jsdoc_imports v.jsdoc_imports.1,
        optional_short (code "M") m.source_map_url v.source_map_url,
      ))

  pub citation_short : (numbers : List ℕ) (m : ModuleInfo) → Valid m → length (citation source numbers m) ≤ 4 * length (encode m)
  unfolding citation
  citation_short numbers m v =
      rw length-append
      (omega (arith, lines_short numbers m v, title_short (ascii "module ") (length (lines numbers m)) 20 (digits_most 20 (length (lines numbers m)))))

pub refusal_short : (n : ℕ) → n < 1000 → length (refusal n) ≤ 12
unfolding refusal
refusal_short n h = title_short (ascii "refused ") n 3 (digits_short 2 20 n h)
