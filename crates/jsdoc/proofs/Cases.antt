-- Worked bodies beside 01's, which stand in module_info: just these imports are listed for each, by the place and the mode.
use Rattle.laws.proofs.Prelude.{◌≡◌, refl, List, [], ◌∷◌, map, flat_map, ℕ, ◌+◌, length, set, replicate}
use Rattle.std.specs.Prelude.{None, Some}
use Prim.Native.String.{String}
use Rattle.laws.specs.{Codec.All, Ascii.ascii}
use Rattle.text.specs.{Ranges.in_ranges, Encode.encode, Alphabetic.alphabetic, Bytes.begins, Bytes.same}
use Rattle.text.specs.Utf8.{admits, length_by, char_length, code_by, char_at}
use Rattle.text.specs.Class.{outside, ranges, member, class_at, run}
use Rattle.analysis.specs.Mode.{Mode, mode_number, mode_of}
use Rattle.analysis.specs.declared.mode.TypeScriptTypesResolutionMode.TheVariants.{Import, Require}
use Rattle.jsdoc.specs.{Grammar.Bytes, Grammar.Listed, code.Ticks.Ticks, Listing.listing}
use Rattle.jsdoc.specs.Reader.{skip, skip_whitespace, whitespace, tag, word, up_to, is_mark, parse_quote, past_ident, parse_ident, parse_key, attribute_mode}
use Rattle.jsdoc.specs.Reader.{parse_attribute, comma, separated_list_by, separated_list, parse_import_attribute_block_for_resolution_mode}
use Rattle.jsdoc.specs.Reader.{second_param_start, parse_second_param_obj_with_leading_comma, close_call, parse_tail, seek, parse_call}
use Rattle.jsdoc.specs.Reader.{parse_jsdoc_dynamic_import, skip_named_imports, skip_default_import, skip_namespace_import, skip_clause, parse_attributes}
use Rattle.jsdoc.specs.Reader.{parse_from, parse_jsdoc_import_decl}
use Rattle.jsdoc.proofs.Listing.{listing_ticks}

-- an import by the place of its quote and its mode
data Entry : Type 0 where
  entry : ℕ → Mode → Entry

-- a body, and its imports
data Case : Type 0 where
  row : String → List Entry → Case

abbrev body : Case → Bytes
body (row s l) = flat_map encode (ascii s)

abbrev ticks_at : ℕ → List Entry → List ℕ
ticks_at n [] = replicate n 0
ticks_at n (entry q m ∷ l) = set (ticks_at n l) q (mode_number m + 1)

abbrev ticks : Case → List ℕ
ticks (row s l) = ticks_at (length (flat_map encode (ascii s))) l

table : List Case
table =
    -- one reading inside another, each with its own mode
    row "{import(\"{import('a')}\")}" (entry 8 None ∷ entry 17 None ∷ [])
    ∷ row "{import(\"{import('a',{with:{'resolution-mode':'import'}})}\")}" (entry 8 None ∷ entry 17 (Some Import) ∷ [])
    ∷ row "@import {@import A from 'b' }from\"a\"" (entry 24 None ∷ entry 33 None ∷ [])
    -- the first `import` of a brace, which fails; a later brace; no `}`
    ∷ row "{ {import x import('a')}" []
    ∷ row "{import x {import('a')}" (entry 18 None ∷ [])
    ∷ row "{ } import('a')}" []
    ∷ row "{import('a')" []
    -- a last comma; no attribute; a comma alone; two keys
    ∷ row "{import('a',{with:{a:'b','resolution-mode':'require',}})}" (entry 8 (Some Require) ∷ [])
    ∷ row "{import('a',{with:{}})}" (entry 8 None ∷ [])
    ∷ row "{import('a',{with:{,}})}" []
    ∷ row "{import('a',{with:{'resolution-mode':'x','resolution-mode':'import'}})}" (entry 8 None ∷ [])
    ∷ row "{import('a',{with:{'resolution-mode':'require','resolution-mode':'import'}})}" (entry 8 (Some Require) ∷ [])
    -- declarations: a block that reads, and one that does not
    ∷ row "@import * as N from 'a' with {'resolution-mode': 'require'}" (entry 20 (Some Require) ∷ [])
    ∷ row "@import A from 'a' with {x}" (entry 15 None ∷ [])
    -- names that begin outside ASCII; U+FEFF is in a name, and begins none
    ∷ row "@import é from \"a\"" (entry 16 None ∷ [])
    ∷ row "@import 中\u{feff} from \"a\"" (entry 20 None ∷ [])
    ∷ row "@import \u{feff}A from \"a\"" []
    -- U+0085 and U+3000 are white space, and U+FEFF is none
    ∷ row "{import\u{85}(\u{3000}\"a\"\u{85})}" (entry 13 None ∷ [])
    ∷ row "{import\u{feff}(\"a\")}" []
    ∷ row "@import\u{85}A\u{3000}from\u{85}\"a\"" (entry 19 None ∷ [])
    ∷ []

computed : map (λ c. listing (body c)) table ≡ map ticks table
unfolding table listing flat_map alphabetic in_ranges admits length_by char_length code_by char_at encode outside ranges member class_at run begins same mode_of
    skip skip_whitespace whitespace tag word up_to is_mark parse_quote past_ident parse_ident parse_key attribute_mode parse_attribute comma
    separated_list_by separated_list parse_import_attribute_block_for_resolution_mode second_param_start parse_second_param_obj_with_leading_comma close_call
    parse_tail seek parse_call parse_jsdoc_dynamic_import skip_named_imports skip_default_import skip_namespace_import skip_clause parse_attributes parse_from
    parse_jsdoc_import_decl
computed = refl

-- just these imports are listed for the body
abbrev Worked : Case → Type 0
Worked c = Ticks (Listed (body c)) (length (body c)) (ticks c)

each : (l : List Case) → map (λ c. listing (body c)) l ≡ map ticks l → All Worked l
each [] e = tt
each (c ∷ l) e =
    let h : listing (body c) ≡ ticks c = cc in
    (rw h at (listing_ticks (body c)), each l (cc))

worked : All Worked table
worked = each table computed
