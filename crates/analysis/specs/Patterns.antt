-- The ten patterns of src/analysis.rs, each under its regular expression, where `(?i)` says that case is ignored.
use Rattle.std.specs.Prelude.{true, false, List, ℕ}
use Rattle.laws.specs.Ascii.{ascii}
use Rattle.text.specs.declared.class.Class.TheVariants.{White, NotWhite, WhiteOrStar, NotLf, Quote, NotQuote, SourceMark}
use Rattle.analysis.specs.Row.{Row, done, start, word, one, longest, shortest, from, to, either, ◌▸◌}

-- \s*=\s*
abbrev pub equals : Row → Row
equals r = longest White ▸ word (ascii "=") ▸ longest White ▸ r

-- ["']([^"']*)["']
abbrev pub quoted : Row
quoted = one Quote ▸ from true ▸ longest NotQuote ▸ to ▸ one Quote ▸ done

-- ["']([^"']+)["']
abbrev pub quoted_some : Row
quoted_some = one Quote ▸ from true ▸ one NotQuote ▸ longest NotQuote ▸ to ▸ one Quote ▸ done

-- (\S+)
abbrev pub bare : Row
bare = from false ▸ one NotWhite ▸ longest NotWhite ▸ to ▸ done

-- .*?/>
abbrev pub reference_end : Row
reference_end = shortest NotLf ▸ word (ascii "/>") ▸ done

-- (?i)^/\s*<reference\s.*?/>
abbrev pub triple_slash_row : Row
triple_slash_row = start ▸ word (ascii "/") ▸ longest White ▸ word (ascii "<reference") ▸ one White ▸ reference_end

-- \sWORD\s*=\s*["']([^"']*)["']
abbrev pub attribute_row : List ℕ → Row
attribute_row w = one White ▸ word w ▸ equals ▸ quoted

-- (?i)\spath\s*=\s*["']([^"']*)["']
abbrev pub path_row : Row
path_row = attribute_row (ascii "path")

-- (?i)\stypes\s*=\s*["']([^"']*)["']
abbrev pub types_row : Row
types_row = attribute_row (ascii "types")

-- (?i)\sresolution-mode\s*=\s*["']([^"']*)["']
abbrev pub resolution_mode_row : Row
resolution_mode_row = attribute_row (ascii "resolution-mode")

-- ^[\s*]*WORD\s+(\S+)
abbrev pub jsx_row : List ℕ → Row
jsx_row w = start ▸ longest WhiteOrStar ▸ word w ▸ one White ▸ longest White ▸ bare

-- (?i)^[\s*]*@jsxImportSource\s+(\S+)
abbrev pub jsx_import_source_row : Row
jsx_import_source_row = jsx_row (ascii "@jsxImportSource")

-- (?i)^[\s*]*@jsxImportSourceTypes\s+(\S+)
abbrev pub jsx_import_source_types_row : Row
jsx_import_source_types_row = jsx_row (ascii "@jsxImportSourceTypes")

-- (?i)^[#@]\s*sourceMappingURL\s*=\s*(\S+)
abbrev pub source_mapping_url_row : Row
source_mapping_url_row = start ▸ one SourceMark ▸ longest White ▸ word (ascii "sourceMappingURL") ▸ equals ▸ bare

-- ^\s*WORD\s*=\s*["']([^"']+)["']
abbrev pub pragma_row : List ℕ → Row
pragma_row w = start ▸ longest White ▸ word w ▸ equals ▸ quoted_some

-- (?i)^\s*@ts-self-types\s*=\s*["']([^"']+)["']
abbrev pub ts_self_types_row : Row
ts_self_types_row = pragma_row (ascii "@ts-self-types")

-- (?i)^\s*@ts-types\s*=\s*["']([^"']+)["']
abbrev pub ts_types_row : Row
ts_types_row = pragma_row (ascii "@ts-types")

-- (?i)^\s*@deno-types\s*=\s*(?:["']([^"']+)["']|(\S+))
abbrev pub deno_types_row : Row
deno_types_row = start ▸ longest White ▸ word (ascii "@deno-types") ▸ equals ▸ either quoted_some bare
