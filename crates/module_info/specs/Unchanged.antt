-- What a sheet's information keeps where one comment is reworded.
use Rattle.std.specs.Prelude.{◌≡◌, ℕ, ◌<◌, length}
use mathlib.Core.List.{List, Memᴰ, flat_map}
use Rattle.std.specs.Prelude.{Option}
use Rattle.text.specs.Position.{characters, utf16}
use Rattle.sheet.specs.declared.names.Side.TheVariants.{Leading}
use Rattle.sheet.specs.Fit.{comment_of}
use Rattle.sheet.specs.Lookups.{group_at, head_group, end_group}
use Rattle.sheet.specs.Walk.{Visit, start_of, visits}
use Rattle.sheet.specs.Revision.{Outside, SameAt, body_of, Lacks}
use Rattle.sheet.specs.Sheet.{Sheet}
use Rattle.report.specs.ModuleInfo.{SpecifierWithRange, DependencyDescriptor, JsDocImportInfo, ModuleInfo}
use Rattle.report.specs.Origin.{Origin}
use Rattle.pragmas.specs.Pragmas.{head_comments, end_comments, types_at}
use Rattle.pragmas.specs.Origins.{head_origins, end_origins, types_origins}
use Rattle.jsdoc_list.specs.ByComment.{given_by, ByComment}
use Rattle.jsdoc_list.specs.Origins.{origins_of}
use Rattle.dep.specs.Collect.{numbers_of, entry_of}
use Rattle.module_info.specs.Information.{module_info}
use Rattle.module_info.specs.Replaced.{noted}

-- the JSDoc entries from the comment of an index
abbrev pub jsdoc_from : Sheet → ℕ → List JsDocImportInfo
jsdoc_from t i = given_by t.media t.source (comment_of t.comments i)

-- the entry of a visit, if it gives one
abbrev pub dependency_of : Sheet → Visit → List DependencyDescriptor
dependency_of t = entry_of t.source (types_at t)

-- the origins of these JSDoc entries, of references and pragmas of the head group, of the source map, and of the types at a place
abbrev pub jsdoc_origins_from : Sheet → ℕ → List Origin
jsdoc_origins_from t i = origins_of t.source (comment_of t.comments i)

abbrev pub origins_of_head : Sheet → List Origin
origins_of_head t = head_origins t.media t.source (head_comments t)

abbrev pub origins_of_end : Sheet → List Origin
origins_of_end t = end_origins t.source (end_comments t)

abbrev pub origins_of_types : Sheet → ℕ → List Origin
origins_of_types t = types_origins t.source t.comments t.groups

-- the comment is in no group that a rule is given, and gives the same JSDoc entries
pub record Aside (t u : Sheet) (k : ℕ) : Type 0 where
  pub head : Lacks k (head_group t.program t.groups)
  pub end : Lacks k (end_group t.program t.groups)
  pub leading : (v : Visit) → Memᴰ v (visits t.root) → Lacks k (group_at t.groups Leading (start_of v))
  pub jsdoc : jsdoc_from t k ≡ jsdoc_from u k

-- references and pragmas of the head group
pub record SameHead (m n : ModuleInfo) : Type 0 where
  pub references : m.ts_references ≡ n.ts_references
  pub self_types : m.self_types_specifier ≡ n.self_types_specifier
  pub jsx_import_source : m.jsx_import_source ≡ n.jsx_import_source
  pub jsx_import_source_types : m.jsx_import_source_types ≡ n.jsx_import_source_types

-- u is t with its kth comment reworded; what is the same in both
pub record Unchanged (t u : Sheet) (k : ℕ) : Type 0 where
  -- each place that is not inside the body has the same line and column, in characters and in UTF-16 units
  pub in_characters : (at : ℕ) → Outside (body_of t k) at → SameAt characters t.source u.source at
  pub in_units : (at : ℕ) → Outside (body_of t k) at → SameAt utf16 t.source u.source at
  -- in both the JSDoc entries are those from the comments, one comment after the other, and none gives more than it has `{` and `@import` together
  pub first : ByComment t.media t.source t.comments (module_info t).jsdoc_imports
  pub second : ByComment u.media u.source u.comments (module_info u).jsdoc_imports
  -- those from other comments are equal
  pub jsdoc : (i : ℕ) → i < length t.comments → (i ≡ k → ⊥) → jsdoc_from t i ≡ jsdoc_from u i
  -- so is each reference and pragma whose group lacks the comment
  pub head : Lacks k (head_group t.program t.groups) → SameHead (module_info t) (module_info u)
  pub source_map_url : Lacks k (end_group t.program t.groups) → (module_info t).source_map_url ≡ (module_info u).source_map_url
  -- in both the dependencies are the entries of the same visits, one visit after the other
  pub dependencies : (module_info t).dependencies ≡ flat_map (dependency_of t) (visits t.root)
  pub dependencies' : (module_info u).dependencies ≡ flat_map (dependency_of u) (visits t.root)
  -- each whose leading group lacks the comment, or has none, is equal
  pub entry : (v : Visit) → Memᴰ v (visits t.root) → Lacks k (group_at t.groups Leading (start_of v)) → dependency_of t v ≡ dependency_of u v
  -- any other is, but for its types
  pub but_types : (types : ℕ → Option SpecifierWithRange) (v : Visit) → Memᴰ v (visits t.root) → entry_of t.source types v
      ≡ entry_of u.source types v
  -- all rows of the notes are equal: where the node of each dependency starts, and how many characters were replaced in its text
  pub rows : numbers_of (noted t) ≡ numbers_of (noted u)
  -- so are the origins of JSDoc entries from other comments, of references and pragmas whose group lacks the comment, and of types at each place whose
  -- leading group lacks it, or that has none
  pub jsdoc_origins_kept : (i : ℕ) → i < length t.comments → (i ≡ k → ⊥) → jsdoc_origins_from t i ≡ jsdoc_origins_from u i
  pub head_origins_kept : Lacks k (head_group t.program t.groups) → origins_of_head t ≡ origins_of_head u
  pub end_origins_kept : Lacks k (end_group t.program t.groups) → origins_of_end t ≡ origins_of_end u
  pub types_origins_kept : (at : ℕ) → Lacks k (group_at t.groups Leading at) → origins_of_types t at ≡ origins_of_types u at
  -- and where no rule is given the comment, all is
  pub all : Aside t u k → module_info t ≡ module_info u
