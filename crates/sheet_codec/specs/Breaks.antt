-- Refusals 2 to 7 and 13 as document 01 states them, each of the bytes from a field on; and how they are judged, at each field from the front.
use Rattle.std.specs.Prelude.{◌≡◌, ◌⊎◌, ℕ, ◌+◌, ◌≤◌, ◌<◌, length, Some}
use mathlib.Core.List.{List, [], ◌∷◌, ◌++◌, flat_map}
use Rattle.laws.specs.Codec.{All}
use Rattle.text.specs.declared.utf8.Encoding.{Encoding}
use Rattle.text.specs.WellFormed.{WellFormed}
use Rattle.text.specs.Position.{Boundary}
use Rattle.wire.specs.Refusals as refusals
use Rattle.wire.specs.Number.{largest, encode_number}
use Rattle.sheet.specs.declared.groups.Group.{Group}
use Rattle.sheet.specs.declared.names.CommentKind.{CommentKind}
use Rattle.sheet.specs.declared.names.Side.{Side}
use Rattle.sheet.specs.Names.{side_number}
use Rattle.sheet.specs.Comments.{opening, closing, slice}
use Rattle.sheet.specs.Quotation.{Quotation}
use Rattle.sheet.specs.Fit.{HeldBySome}
use Rattle.sheet_codec.specs.Field.{Byte, values, Count, limit, Position, end, string_end, comment_start, comment_end, group_position, Number}
use Rattle.sheet_codec.specs.Field.{limited, position, group_count, Allowed, any_node, a_string, an_object, Field, byte, tag, number, text}
use Rattle.sheet_codec.specs.Field.{every_comment, Entry}

-- a number that is not too large stands in front, in its shortest form
pub record Shows (u : List ℕ) (n : ℕ) : Type 0 where
  pub rest : List ℕ
  pub small : n ≤ largest
  pub bytes : u ≡ encode_number n ++ rest

-- the tags that a place allows
abbrev pub Allows : Allowed → ℕ → Type 0
Allows any_node t = t < 13
Allows a_string t = t ≡ 1
Allows an_object t = t ≡ 5

-- a number n that is refused where it stands
pub data Wrong : Number → ℕ → ℕ → Type 0 where
  -- 4. A count or length is over its limit
  over : {c : Count} {n : ℕ} → limit c < n → Wrong (limited c) n refusals.limit
  -- 6. A position is past the source or inside a character
  outside : {source : List ℕ} {at : Position} {n : ℕ} → (Boundary source n → ⊥) → Wrong (position source at) n refusals.position
  -- or an end precedes its start
  reversed : {source : List ℕ} {start n : ℕ} → n < start → Wrong (position source (end start)) n refusals.position
  string_reversed : {source : List ℕ} {start n : ℕ} → n < start → Wrong (position source (string_end start)) n refusals.position
  comment_reversed : {source : List ℕ} {kind : CommentKind} {start n : ℕ} → n < start → Wrong (position source (comment_end kind start)) n refusals.position
  -- 7. A comment starts before the last one's end
  early : {source : List ℕ} {last n : ℕ} → n < last → Wrong (position source (comment_start last)) n refusals.comments
  -- lacks its marks, or is shorter than them
  unmarked : {source : List ℕ} {kind : CommentKind} {start n : ℕ}
      → ((body : List ℕ) → slice source (record { start = start; end = n }) ≡ opening kind ++ (body ++ closing kind) → ⊥)
      → Wrong (position source (comment_end kind start)) n refusals.comments
  -- or a group is out of order
  disordered : {source : List ℕ} {g : Group} {side : Side} {n : ℕ} → ((side_number g.side < side_number side) ⊎ ((g.side ≡ side) × (g.position < n)) → ⊥)
      → Wrong (position source (group_position (Some g) side)) n refusals.comments
  -- has count 0, or reaches past the comments
  empty : {total first n : ℕ} → n ≡ 0 → Wrong (group_count total first) n refusals.comments
  beyond : {total first n : ℕ} → total < first + n → Wrong (group_count total first) n refusals.comments
  -- 13. A String does not begin and end with the same mark
  unquoted : {source : List ℕ} {start n : ℕ} → (Quotation (slice source (record { start = start; end = n })) → ⊥)
      → Wrong (position source (string_end start)) n refusals.quotation

-- the bytes u from a field on are refused at it
pub data Breaks : Field → List ℕ → ℕ → Type 0 where
  -- 2. A field is cut off, or a number is not shortest or too large
  no_byte : {b : Byte} → Breaks (byte b) [] refusals.cut_off
  no_tag : {place : Allowed} {levels : ℕ} → Breaks (tag place levels) [] refusals.cut_off
  no_number : {f : Number} {u : List ℕ} → ((n : ℕ) → Shows u n → ⊥) → Breaks (number f) u refusals.cut_off
  few_bytes : {e : Encoding} {n : ℕ} {u : List ℕ} → length u < n → Breaks (text e n) u refusals.cut_off
  -- 3. A byte or flag is outside its stated values, or a node has a tag its place doesn't allow
  other_byte : {b : Byte} {x : ℕ} {u : List ℕ} → values b ≤ x → Breaks (byte b) (x ∷ u) refusals.byte
  other_tag : {place : Allowed} {levels t : ℕ} {u : List ℕ} → (Allows place t → ⊥) → Breaks (tag place levels) (t ∷ u) refusals.byte
  -- 4. A depth is over its limit
  too_deep : {place : Allowed} {levels : ℕ} {u : List ℕ} → levels ≡ 0 → Breaks (tag place levels) u refusals.limit
  -- 5. A text is not well-formed
  ill_formed : {e : Encoding} {n : ℕ} {u : List ℕ} (x rest : List ℕ) → u ≡ x ++ rest → length x ≡ n → (WellFormed e x → ⊥) → Breaks (text e n) u refusals.text
  -- 4, 6, 7 and 13 of a number
  wrong : {f : Number} {u : List ℕ} {n r : ℕ} → Shows u n → Wrong f n r → Breaks (number f) u r
  -- 7. A comment is in no group
  alone : {gs : List Group} {n : ℕ} {u : List ℕ} (i : ℕ) → i < n → (HeldBySome gs i → ⊥) → Breaks (every_comment gs n) u refusals.comments

-- none of them is met at a field
abbrev pub Unbroken : Entry → Type 0
Unbroken e = (r : ℕ) → Breaks e.field e.bytes r → ⊥

abbrev pub bytes_of : Entry → List ℕ
bytes_of e = e.bytes

-- the bytes s, which should be those fields, meet a refusal: some fields stand there unbroken, and at the next one what is left is refused, by no lower number
pub record Meets (fields : List Entry) (s : List ℕ) (r : ℕ) : Type 0 where
  pub front : List Entry
  pub at : Entry
  pub back : List Entry
  pub among : fields ≡ front ++ at ∷ back
  pub unbroken : All Unbroken front
  pub rest : List ℕ
  pub bytes : s ≡ flat_map bytes_of front ++ rest
  pub breaks : Breaks at.field rest r
  pub lowest : (q : ℕ) → q < r → Breaks at.field rest q → ⊥
