-- The range of each line of a citation is that of a place of the source.
use Rattle.std.specs.Prelude.{Some, None}
use Rattle.laws.proofs.Prelude.{◌≡◌, refl, Bool, false, ⊎_elim, List, [], ◌∷◌, ◌++◌, flat_map, Memᴰ, Option, ℕ, code, get_or, drop, arith}
use Rattle.laws.specs.Codec.{All, IfThere}
use Rattle.laws.proofs.Lists.{all_append, of_members, all_member}
use Rattle.analysis.specs.Patterns.{jsx_import_source_row, jsx_import_source_types_row, source_mapping_url_row, ts_self_types_row}
use Rattle.sheet.specs.{Limits.depth_limit, declared.fields.Span.Span, Walk.Visit, Reached.Walked, Reached.own_visit, Sheet.Sheet}
use Rattle.sheet.specs.Tree.{Quoted, Node, other, string, name, template, binary, object, import_call, call, import_decl, named_export, export_from, export_all}
use Rattle.sheet.specs.Tree.{import_type, import_equals, import_require, module_decl, Arguments, no_arguments, argument}
use Rattle.sheet.specs.Shape.{shape, is_require, is_augmentation}
use Rattle.sheet.proofs.Reaches.{walk_right}
use Rattle.sheet_codec.specs.Limits.{QuotedFits, under, NodeFits, ArgumentsFit}
use Rattle.sheet_codec.specs.SheetOf.{SheetOf}
use Rattle.report.specs.declared.{names.StaticDependencyKind.StaticDependencyKind, names.DynamicDependencyKind.DynamicDependencyKind}
use Rattle.report.specs.Answer.{Outcome}
use Rattle.report.specs.declared.names.StaticDependencyKind.TheVariants as statics
use Rattle.report.specs.declared.names.DynamicDependencyKind.TheVariants as dynamics
use Rattle.report.specs.ModuleInfo.{PositionRange, SpecifierWithRange, TypeScriptReference, path, types, JsDocImportInfo, ImportAttributes, none}
use Rattle.report.specs.ModuleInfo.{DependencyDescriptor, static, dynamic, ModuleInfo}
use Rattle.report.{specs.Range.RangeAt, proofs.RangesApart.range_at}
use Rattle.pragmas.specs.Pragmas.{types_at}
use Rattle.pragmas.specs.Texts.{ShownInMarks, ShownBare, TypesShown, ReferenceShown, types_of}
use Rattle.dep_entries.specs.Entries.{import_kind, export_kind, equals_kind, dynamic_kind, static_entry, call_entry, module_entry}
use Rattle.dep.{specs.Collect.numbers_of, specs.Collect.entry_of, proofs.Turns.turn_member, proofs.Turns.turns_with, proofs.EntryAttributes.all_if}
use Rattle.module_info.{specs.Information.module_info, specs.Replaced.noted, specs.Demands.Demands, proofs.Inside.walked_fits}
use Rattle.citation.specs.Citation.{Line, cite_optional, cite_dependency, dependency_letter, cite_noted, cite_each, cite_reference, cite_jsdoc, lines}
use Rattle.citation.proofs.ColumnsRight.{columns_right}
use Rattle.cite.specs.Cited.{EditorColumns}

all_flat_map : {A B : Type 0} (P : B → Type 0) (f : A → List B) (l : List A) → All (λ a. All P (f a)) l → All P (flat_map f l)
unfolding flat_map
all_flat_map P f [] a = tt
all_flat_map P f (x ∷ l) a = all_append P (f x) (flat_map f l) a.0 (all_flat_map P f l a.1)

all_each : {A : Type 0} (P : Line → Type 0) (f : ℕ → A → List Line) (numbers : List ℕ) (l : List A) → All (λ a. (number : ℕ) → All P (f number a)) l →
    All P (cite_each f numbers l)
all_each P f numbers [] a = tt
all_each P f numbers (x ∷ l) a = all_append P (f (get_or numbers 1 0) x) (cite_each f (drop 2 numbers) l) (a.0 (get_or numbers 1 0))
    (all_each P f (drop 2 numbers) l a.1)

module _ (source : List ℕ) where
  abbrev Placed : PositionRange → Type 0
  Placed r = (place : Span) × RangeAt source r place

  abbrev Each : List Line → Type 0
  Each = All (λ l. Placed l.range)

  optional_placed : (letter : ℕ) (P : SpecifierWithRange → Type 0) → ((x : SpecifierWithRange) → P x → Placed x.range) →
      (o : Option SpecifierWithRange) → IfThere P o
      → Each (cite_optional letter o)
  optional_placed letter P f None p = tt
  optional_placed letter P f (Some x) p = (f x p, tt)

  -- ---- dependencies

  -- the range of a dependency's own line
  abbrev OwnRange : DependencyDescriptor → Type 0
  OwnRange (static d) = Placed d.specifier.range
  OwnRange (dynamic d) = Placed d.argument_range

  module _ (types : ℕ → Option SpecifierWithRange) where
    static_placed : (kind : StaticDependencyKind) (sp : Span) (k : ℕ) {x : Quoted} → QuotedFits source k x → (side_effect : Bool) (a : ImportAttributes)
        → OwnRange (static_entry source types kind sp x side_effect a)
    unfolding static_entry
    static_placed kind sp k {x} q side_effect a = (x.span, range_at q.place.span.start q.place.span.end refl)

    call_placed : (kind : DynamicDependencyKind) (sp : Span) (xs : Arguments) (k : ℕ) → ArgumentsFit source xs k →
        All OwnRange (call_entry source types kind sp xs)
    unfolding call_entry ArgumentsFit
    call_placed kind sp no_arguments k f = tt
    call_placed kind sp (argument dots at n xs) k f = ((at, range_at f.0.0.start f.0.0.end refl), tt)

    -- the entries of a node's own visit
    abbrev OwnPlaced : Option Visit → Type 0
    OwnPlaced None = Unit {0}
    OwnPlaced (Some v) = All OwnRange (entry_of source types v)

    own_placed : (k : ℕ) (n : Node) → NodeFits source n k → OwnPlaced (own_visit n)
    unfolding NodeFits module_entry
    own_placed k (other sp ns) f = tt
    own_placed k (string sp x) f = tt
    own_placed k (name sp x) f = tt
    own_placed k (template sp ps ns) f = tt
    own_placed k (binary sp plus l r) f = tt
    own_placed k (object sp ps) f = tt
    own_placed k (import_call sp phase xs ns) f = call_placed (dynamic_kind phase) sp xs (under k) f.1.0.1
    own_placed k (call sp e xs ns) f = all_if _ (is_require (shape e)) (call_entry source types dynamics.Require sp xs)
        (call_placed dynamics.Require sp xs (under k) f.1.1.0.1)
    own_placed k (import_decl sp type_only phase side_effect x a) f = (static_placed (import_kind type_only phase) sp (under k) f.1.0 side_effect _, tt)
    own_placed k (named_export sp type_only) f = tt
    own_placed k (export_from sp type_only x a) f = (static_placed (export_kind type_only) sp (under k) f.1.0 false _, tt)
    own_placed k (export_all sp type_only x a) f = (static_placed (export_kind type_only) sp (under k) f.1.0 false _, tt)
    own_placed k (import_type sp x ns a) f = (static_placed statics.ImportType sp (under k) f.1.0 false _, tt)
    own_placed k (import_equals sp) f = tt
    own_placed k (import_require sp type_only export x) f = (static_placed (equals_kind type_only export) sp (under k) f.1 false none, tt)
    own_placed k (module_decl sp None ns) f = tt
    own_placed k (module_decl sp (Some x) ns) f = all_if _ (is_augmentation x.text)
        (static_entry source types statics.MaybeTsModuleAugmentation sp x false none ∷ [])
        (static_placed statics.MaybeTsModuleAugmentation sp (under k) f.1.0 false none, tt)

    walked_placed : {root n : Node} {v : Visit} {d : DependencyDescriptor} → Walked root n → own_visit n ≡ Some v → NodeFits source root depth_limit
        → entry_of source types v ≡ d ∷ [] → OwnRange d
    walked_placed {n = n} {v = v} {d = d} w o f e =
        let (k, g) = walked_fits source w depth_limit f in
        let own : OwnPlaced (Some v) = rw o at (own_placed k n g) in
        let one : All OwnRange (d ∷ []) = rw e at own in
        one.0

-- ---- lines

module _ {s buffer : List ℕ} {size : ℕ} {outcome : Outcome} (d : Demands s size outcome buffer) (t : Sheet) (of : SheetOf s t) where
  abbrev m : ModuleInfo
  m = module_info t

  own : (x : DependencyDescriptor) → Memᴰ x m.dependencies → OwnRange t.source x
  own x i =
      (turn_member
      (turns_with (d.dependencies t of) (λ v j y p.
      let (n, w, o) = (walk_right t.root).of_walked v j in
      walked_placed t.source (types_at t) w o of.encodes.within.fields.root p.entry))
      i
      ).1

  types_placed : (x : SpecifierWithRange) → TypesShown t x → Placed t.source x.range
  types_placed x = ⊎_elim (λ h. (_, h.stands.range)) (λ h. (_, h.stands.range))

  dependency_placed : (letter : ℕ) (x : DependencyDescriptor) → OwnRange t.source x → IfThere (TypesShown t) (types_of x) →
      Each t.source (cite_dependency letter x)
  dependency_placed letter (static x) p h = (p, optional_placed t.source (code "T") (TypesShown t) types_placed x.types_specifier h)
  dependency_placed letter (dynamic x) p h = (p, optional_placed t.source (code "T") (TypesShown t) types_placed x.types_specifier h)

  reference_placed : (x : TypeScriptReference) → ReferenceShown t x → Each t.source (cite_reference x)
  reference_placed (path x) h = ((_, h.stands.range), tt)
  reference_placed (types x mode) h = ((_, h.stands.range), tt)

  jsdoc_placed : (i : JsDocImportInfo) → Memᴰ i m.jsdoc_imports → Each t.source (cite_jsdoc i)
  jsdoc_placed i among = let (place, h) = (d.jsdoc t of).right.placed i among in ((place, h.range), tt)

  lines_placed : Each t.source (lines (numbers_of (noted t)) m)
  unfolding lines
  lines_placed =
      let texts = d.texts t of in
      let P : Line → Type 0 = λ l. Placed t.source l.range in
      let numbers = numbers_of (noted t) in
      let D = cite_each cite_noted numbers m.dependencies in
      let R = flat_map cite_reference m.ts_references in
      let S = cite_optional (code "S") m.self_types_specifier in
      let X = cite_optional (code "X") m.jsx_import_source in
      let Y = cite_optional (code "Y") m.jsx_import_source_types in
      let J = flat_map cite_jsdoc m.jsdoc_imports in
      let M = cite_optional (code "M") m.source_map_url in
      let dependencies : All P D = all_each P cite_noted numbers m.dependencies (of_members (λ x. (number : ℕ) → All P
      (cite_noted number x)) m.dependencies (λ x i number. dependency_placed (dependency_letter number) x (own x i)
      (all_member (λ x. IfThere (TypesShown t) (types_of x)) m.dependencies texts.types i))) in
      let references : All P R = all_flat_map P cite_reference m.ts_references (of_members (λ x. All P (cite_reference x)) m.ts_references
      (λ x i. reference_placed x (all_member (ReferenceShown t) m.ts_references texts.references i))) in
      let self : All P S = optional_placed t.source (code "S") (ShownInMarks ts_self_types_row t) (λ x h. (_, h.stands.range)) m.self_types_specifier
      texts.self_types in
      let jsx : All P X = optional_placed t.source (code "X") (ShownBare jsx_import_source_row t) (λ x h. (_, h.stands.range)) m.jsx_import_source
      texts.jsx_import_source in
      let jsx_types_lem : All P Y = optional_placed t.source (code "Y") (ShownBare jsx_import_source_types_row t) (λ x h. (_, h.stands.range))
      m.jsx_import_source_types texts.jsx_import_source_types in
      let imports : All P J = all_flat_map P cite_jsdoc m.jsdoc_imports (of_members (λ x. All P (cite_jsdoc x)) m.jsdoc_imports jsdoc_placed) in
      let map : All P M = optional_placed t.source (code "M") (ShownBare source_mapping_url_row t) (λ x h. (_, h.stands.range)) m.source_map_url
      texts.source_map_url in
      all_append P D (R ++ (S ++ (X ++ (Y ++ (J ++ M))))) dependencies
      (all_append P R (S ++ (X ++ (Y ++ (J ++ M)))) references
      (all_append P S (X ++ (Y ++ (J ++ M))) self
      (all_append P X (Y ++ (J ++ M)) jsx
      (all_append P Y (J ++ M) jsx_types_lem
      (all_append P J M imports map)))))

pub editor_columns : {s buffer : List ℕ} {size : ℕ} {outcome : Outcome} → Demands s size outcome buffer → EditorColumns s
editor_columns d = λ t of.
    let source = of.encodes.within.fields.source in
    columns_right t.source (omega (arith, source.0)) source.1 (lines_placed d t of)
