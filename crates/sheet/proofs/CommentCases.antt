-- Comments and groups that are refused, and where, as the definitions compute.
use Rattle.laws.proofs.Prelude.{◌≡◌, refl, List, [], ◌∷◌, ◌++◌, map, ℕ}
use Rattle.laws.specs.Decoded.{Decoder, ◌>>=◌, ◌>>◌, return, require}
use Rattle.laws.{specs.Ascii.ascii, proofs.Decoding.refusal}
use Rattle.text.specs.{Bytes.begins, Position.is_boundary}
use Rattle.wire.specs.Fields.{byte, below, numbered}
use Rattle.wire.specs.{Number.last_group, Number.number, Text.count}
use Rattle.sheet.specs.{Limits.comment_limit, Limits.group_limit, declared.groups.Group.Group, Fields.position, Fields.end_from}
use Rattle.sheet.specs.Comments.{enclosed, marked, comment, comments, group, groups, anywhere, covered, chained}

-- a block comment, whose first three bytes have both its marks; a line comment that touches it, at 5; "é", at 7
abbrev source : List ℕ
source = ascii "/*/*///" ++ (0xC3 ∷ 0xA9 ∷ [])

-- the fields of a sheet from the comment count up to the last group
abbrev fields : Decoder (List Group)
fields = do
  n ← count comment_limit
  cs ← comments source 0 n
  m ← count group_limit
  gs ← groups source n anywhere m
  require (covered gs n) 7
  return gs

-- the two comments
abbrev both : List ℕ
both = 2 ∷ 1 ∷ 0 ∷ 5 ∷ 0 ∷ 5 ∷ 7 ∷ []

-- fields, and the number of their refusal, 0 for none
abbrev cases : List (List ℕ × ℕ)
cases =
    (both ++ (2 ∷ 0 ∷ 9 ∷ 0 ∷ 1 ∷ 1 ∷ 0 ∷ 1 ∷ 1 ∷ []), 0)
    ∷ (both ++ (1 ∷ 0 ∷ 9 ∷ 0 ∷ 1 ∷ []), 7)  -- a comment in no group
    ∷ (1 ∷ 1 ∷ 0 ∷ 3 ∷ [], 7)  -- a block comment of three bytes
    ∷ (1 ∷ 0 ∷ 0 ∷ 5 ∷ [], 7)  -- the marks of another kind
    ∷ (2 ∷ 1 ∷ 0 ∷ 5 ∷ 0 ∷ 4 ∷ 3 ∷ [], 7)  -- before the last end: at its start, though its end precedes that
    ∷ (1 ∷ 0 ∷ 5 ∷ 0 ∷ [], 6)  -- an end before its start
    ∷ (1 ∷ 0 ∷ 8 ∷ [], 6)  -- inside a character
    ∷ (1 ∷ 0 ∷ 5 ∷ 8 ∷ [], 6)
    ∷ (1 ∷ 0 ∷ 10 ∷ [], 6)  -- past the source
    ∷ (both ++ (2 ∷ 0 ∷ 9 ∷ 0 ∷ 1 ∷ 0 ∷ 7 ∷ []), 7)  -- groups out of order by position
    ∷ (both ++ (2 ∷ 0 ∷ 9 ∷ 0 ∷ 1 ∷ 0 ∷ 9 ∷ []), 7)  -- two at one position
    ∷ (both ++ (2 ∷ 1 ∷ 7 ∷ 0 ∷ 1 ∷ 0 ∷ 9 ∷ []), 7)  -- out of order by side
    ∷ (both ++ (2 ∷ 1 ∷ 7 ∷ 0 ∷ 1 ∷ 0 ∷ 8 ∷ []), 6)  -- and inside a character
    ∷ (both ++ (1 ∷ 0 ∷ 9 ∷ 0 ∷ 0 ∷ []), 7)  -- count 0
    ∷ (both ++ (1 ∷ 0 ∷ 9 ∷ 1 ∷ 2 ∷ []), 7)  -- reach past the comments
    ∷ []

as_stated : map (λ c. refusal (fields c.0)) cases ≡ map (λ c. c.1) cases
unfolding byte below numbered last_group Rattle.wire.specs.Number.groups number count begins is_boundary position end_from enclosed marked comment group
    covered chained
as_stated = refl
