-- What the answers of the code stand for, and the bounds that they keep.
use Rattle.std.specs.Prelude.{◌≡◌, Bool, List, ◌∷◌, ℕ, ◌≤◌, ◌<◌, length, None, Option, option_map, Some, Result, Ok, Err}
use Rattle.std.specs.Borrow.{Bor}
use Rattle.laws.specs.Decoded.{Decoded}
use Rattle.wire.specs.Number.{largest}
use Rattle.wire.specs.code.Views.{ReadResult, read_with, PastWith}
use Rattle.wire.specs.declared.refusals.Refusal.{Refusal}
use Rattle.wire.specs.declared.refusals.Refusal.TheVariants as refusal
use Rattle.sheet.specs.Limits.{property_limit}
use Rattle.sheet.specs.declared.fields.Span.{Span}
use Rattle.sheet.specs.Tree.{Quoted, Pieces}
use Rattle.sheet.specs.code.Views.{SpanIn}
use Rattle.sheet_heads.specs.code.Head.{Head, other_head, string_head, name_head, template_head, binary_head, object_head, import_call_head, call_head}
use Rattle.sheet_heads.specs.code.Head.{import_head, named_export_head, export_from_head, export_all_head, import_type_head, import_equals_head}
use Rattle.sheet_heads.specs.code.Head.{import_require_head, module_head}
use Rattle.sheet_heads.specs.code.Parts.{PropertyHead, spread_head, other_property_head, child_key_head, string_key_head, name_key_head}
use Rattle.sheet_heads.specs.declared.quoted.Tag.{Tag}
use Rattle.sheet_heads.specs.declared.quoted.Tag.TheVariants as tag
use Rattle.sheet_heads.specs.declared.quoted.Quoted as q
use Rattle.sheet_heads.specs.declared.node.Head as h
use Rattle.sheet_heads.specs.declared.node.Head.TheVariants as head
use Rattle.sheet_heads.specs.declared.parts.Property.{Property}
use Rattle.sheet_heads.specs.declared.parts.Property.TheVariants as property

abbrev pub tag_number : Tag → ℕ
tag_number tag.Other = 0
tag_number tag.String = 1
tag_number tag.Name = 2
tag_number tag.Template = 3
tag_number tag.Binary = 4
tag_number tag.Object = 5
tag_number tag.Call = 6
tag_number tag.Import = 7
tag_number tag.NamedExport = 8
tag_number tag.ExportAll = 9
tag_number tag.ImportType = 10
tag_number tag.ImportEquals = 11
tag_number tag.Module = 12

-- the kind that has a tag; no kind has one of 13 or more, which gives refusal 3
abbrev pub OfTag : ℕ → Result Tag Refusal → Type 0
OfTag t (Ok kind) = t ≡ tag_number kind
OfTag t (Err r) = (13 ≤ t) × (r ≡ refusal.Byte)

abbrev pub tag_as : ReadResult Tag → Decoded ℕ
tag_as = read_with tag_number

abbrev pub quoted_of : q.Quoted → Quoted
quoted_of x = record { span = x.span; text = x.text.now }

abbrev pub quoted_as : ReadResult q.Quoted → Decoded Quoted
quoted_as = read_with quoted_of

abbrev pub specifier_as : ReadResult (q.Quoted × Bool) → Decoded (Quoted × Bool)
specifier_as = read_with (λ p. (quoted_of p.0, p.1))

abbrev pub head_of : h.Head → Head
head_of (head.Other n) = other_head n
head_of (head.String x) = string_head x.now
head_of (head.Name x) = name_head x.now
head_of (head.Template holes) = template_head holes
head_of (head.Binary plus) = binary_head plus
head_of (head.Object n) = object_head n
head_of (head.ImportCall phase) = import_call_head phase
head_of head.Call = call_head
head_of (head.Import d) = import_head d.type_only d.phase d.side_effect (quoted_of d.specifier) d.has_object
head_of (head.NamedExport type_only) = named_export_head type_only
head_of (head.ExportFrom d) = export_from_head d.type_only (quoted_of d.specifier) d.has_object
head_of (head.ExportAll d) = export_all_head d.type_only (quoted_of d.specifier) d.has_object
head_of (head.ImportType x n) = import_type_head (quoted_of x) n
head_of head.ImportEquals = import_equals_head
head_of (head.ImportRequire d) = import_require_head d.type_only d.export (quoted_of d.specifier)
head_of (head.Module x n) = module_head (option_map quoted_of x) n

abbrev pub fields_as : ReadResult h.Head → Decoded Head
fields_as = read_with head_of

abbrev pub head_as : ReadResult (Span × h.Head) → Decoded (Span × Head)
head_as = read_with (λ p. (p.0, head_of p.1))

-- a piece, cooked with its text or uncooked, stands for what it adds to the pieces behind it
abbrev pub piece_of : Option (Bor (List ℕ)) → Pieces → Pieces
piece_of (Some x) = Some x.now ∷◌
piece_of None = None ∷◌

abbrev pub piece_as : ReadResult (Option (Bor (List ℕ))) → Decoded (Pieces → Pieces)
piece_as = read_with piece_of

abbrev pub property_of : Property → PropertyHead
property_of property.Spread = spread_head
property_of property.Other = other_property_head
property_of property.ChildKey = child_key_head
property_of (property.StringKey x) = string_key_head x.now
property_of (property.NameKey x) = name_key_head x.now

-- how many nodes a property holds
abbrev pub nodes_of : Property → ℕ
nodes_of property.Spread = 1
nodes_of property.Other = 1
nodes_of property.ChildKey = 2
nodes_of (property.StringKey x) = 1
nodes_of (property.NameKey x) = 1

abbrev pub property_as : ReadResult Property → Decoded PropertyHead
property_as = read_with property_of

-- no more holes than a number can say, and at most 64 properties
abbrev pub HeadWithin : h.Head → Type 0
HeadWithin (head.Template holes) = holes ≤ largest
HeadWithin (head.Object k) = k ≤ property_limit
HeadWithin _ = Unit {0}

-- a head's String has a span of the source
abbrev pub Spanned : List ℕ → h.Head → Type 0
Spanned source (head.Import d) = SpanIn source d.specifier.span
Spanned source (head.ExportFrom d) = SpanIn source d.specifier.span
Spanned source (head.ExportAll d) = SpanIn source d.specifier.span
Spanned source (head.ImportType x n) = SpanIn source x.span
Spanned source (head.ImportRequire d) = SpanIn source d.specifier.span
Spanned source (head.Module (Some x) n) = SpanIn source x.span
Spanned source _ = Unit {0}

-- no more than n bytes are left
abbrev pub NoMore : {A : Type 0} → ℕ → ReadResult A → Type 0
NoMore n = PastWith (λ v next. length next.now ≤ n)

-- fewer than n bytes are left; after a tag also a level was
abbrev pub PastTag : {A : Type 0} → ℕ → ℕ → ReadResult A → Type 0
PastTag n levels = PastWith (λ t next. (0 < levels) × (length next.now < n))

-- a String, an argument's head and a head's fields were read, with spans of the source
abbrev pub PastQuoted : List ℕ → ℕ → ReadResult q.Quoted → Type 0
PastQuoted source n = PastWith (λ x next. (length next.now < n) × SpanIn source x.span)

abbrev pub PastSpecifier : List ℕ → ℕ → ReadResult (q.Quoted × Bool) → Type 0
PastSpecifier source n = PastWith (λ p next. (length next.now < n) × SpanIn source p.0.span)

abbrev pub PastArgument : List ℕ → ℕ → ReadResult (Bool × Span) → Type 0
PastArgument source n = PastWith (λ p next. (length next.now < n) × SpanIn source p.1)

abbrev pub PastFields : List ℕ → ℕ → ReadResult h.Head → Type 0
PastFields source n = PastWith (λ x next. (length next.now < n) × HeadWithin x × Spanned source x)

-- the same of fields without a String that the node holds, whatever the source
abbrev pub PastPlain : ℕ → ReadResult h.Head → Type 0
PastPlain n r = (source : List ℕ) → PastFields source n r

abbrev pub PastHead : List ℕ → ℕ → ℕ → ReadResult (Span × h.Head) → Type 0
PastHead source n levels = PastWith (λ p next. (0 < levels) × (length next.now < n) × HeadWithin p.1 × Spanned source p.1)

abbrev pub PastAttributes : ℕ → ℕ → ReadResult (Span × ℕ) → Type 0
PastAttributes n levels = PastWith (λ p next. (0 < levels) × (length next.now < n) × (p.1 ≤ property_limit))
