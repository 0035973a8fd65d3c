-- Document 01's refusals by name: their numbers, and where they are judged.
use Rattle.wire.specs.declared.refusals.Refusal.{Refusal}
use Rattle.wire.specs.declared.refusals.Refusal.TheVariants as is
use Rattle.std.specs.Prelude.{Bool, false, ◌||◌, List, [], ◌∷◌, ◌++◌, ℕ, eqb}

-- the sheet has more than 65,536 bytes
abbrev pub sheet_length : ℕ
sheet_length = 1

-- a field is cut off, or a number is not shortest or too large
abbrev pub cut_off : ℕ
cut_off = 2

-- a byte or flag is outside its stated values, or a node has a tag its place doesn't allow
abbrev pub byte : ℕ
byte = 3

-- a count, length or depth is over its limit
abbrev pub limit : ℕ
limit = 4

-- a text is not well-formed UTF-8, or WTF-8 where that is named
abbrev pub text : ℕ
text = 5

-- a position is past the source or inside a character, or an end precedes its start
abbrev pub position : ℕ
position = 6

-- a comment or a group of comments is not as 01 asks
abbrev pub comments : ℕ
comments = 7

-- bytes follow the root node
abbrev pub trailing : ℕ
trailing = 8

-- the first argument of a walked import or `require` is a template with an uncooked piece
abbrev pub uncooked : ℕ
uncooked = 9

-- the report is longer than the buffer
abbrev pub buffer : ℕ
buffer = 10

-- a delivery is cut off, too long, has trailing bytes, a count outside 1 to 64, or a number or name text that a sheet could not have
abbrev pub delivery : ℕ
delivery = 11

-- a name occurs twice in a delivery
abbrev pub name_twice : ℕ
name_twice = 12

-- a String's span has fewer than two bytes, or does not begin and end with the same mark, `"` or `'`
abbrev pub quotation : ℕ
quotation = 13

-- the rules are longer than the second buffer
abbrev pub rules : ℕ
rules = 16

-- the number of a refusal
abbrev pub number_of : Refusal → ℕ
number_of is.SheetLength = sheet_length
number_of is.CutOff = cut_off
number_of is.Byte = byte
number_of is.Limit = limit
number_of is.Text = text
number_of is.Position = position
number_of is.Comments = comments
number_of is.Trailing = trailing
number_of is.Uncooked = uncooked
number_of is.Buffer = buffer
number_of is.Delivery = delivery
number_of is.NameTwice = name_twice
number_of is.Quotation = quotation
number_of is.Rules = rules

-- those that are judged at a field
abbrev pub at_fields : List ℕ
at_fields = cut_off ∷ byte ∷ limit ∷ text ∷ position ∷ comments ∷ quotation ∷ []

-- those of a sheet
abbrev pub of_sheets : List ℕ
of_sheets = sheet_length ∷ (at_fields ++ trailing ∷ uncooked ∷ [])

-- is a number one of a list?
unfoldable pub one_of : List ℕ → ℕ → Bool
one_of [] r = false
one_of (n ∷ l) r = eqb r n || one_of l r
