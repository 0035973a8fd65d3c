-- Document 01's limits of a sheet, and how many dependencies it can have.
use Rattle.std.specs.Prelude.{ℕ, ◌/◌}

-- bytes of a sheet
abbrev pub sheet_limit : ℕ
sheet_limit = 65536

-- bytes of its source
abbrev pub source_limit : ℕ
source_limit = 32768

-- bytes of any other text
abbrev pub text_limit : ℕ
text_limit = 4096

-- comments
abbrev pub comment_limit : ℕ
comment_limit = 1024

-- groups
abbrev pub group_limit : ℕ
group_limit = 1024

-- levels of nodes, the root's among them
abbrev pub depth_limit : ℕ
depth_limit = 64

-- properties of an Object
abbrev pub property_limit : ℕ
property_limit = 64

-- bytes of the sheet that a dependency takes at least (crates/sheet_codec, law `few_entries`)
abbrev pub entry_bytes : ℕ
entry_bytes = 9

-- dependencies
abbrev pub entry_limit : ℕ
entry_limit = sheet_limit / entry_bytes
