-- The fields of a sheet by their names in document 01, each with what it is judged by.
use Rattle.std.specs.Prelude.{List, ℕ, Option}
use Rattle.text.specs.declared.utf8.Encoding.{Encoding}
use Rattle.sheet.specs.Limits.{source_limit, text_limit, comment_limit, group_limit, property_limit}
use Rattle.sheet.specs.declared.groups.Group.{Group}
use Rattle.sheet.specs.declared.names.CommentKind.{CommentKind}
use Rattle.sheet.specs.declared.names.Side.{Side}

-- bytes and flags
pub data Byte : Type 0 where
  media kind side flag phase callee property key : Byte

-- their stated values are those below
abbrev pub values : Byte → ℕ
values media = 11  -- JavaScript to Tsx
values kind = 4  -- line, block, and the HTML-like ones
values side = 2  -- leading, trailing
values flag = 2
values phase = 3  -- evaluation, source, defer
values callee = 4  -- import, source phase, defer phase, expression
values property = 3  -- spread, other, with a key
values key = 3  -- child, string text, name text

-- counts and lengths that have a limit
pub data Count : Type 0 where
  source_length text_length comments groups properties : Count

abbrev pub limit : Count → ℕ
limit source_length = source_limit
limit text_length = text_limit
limit comments = comment_limit
limit groups = group_limit
limit properties = property_limit

-- positions
pub data Position : Type 0 where
  start : Position  -- of a node, an argument, the program or its first item
  end : ℕ → Position  -- with the start
  string_end : ℕ → Position  -- of a String, with its start
  comment_start : ℕ → Position  -- with the end of the comment before, 0 for the first
  comment_end : CommentKind → ℕ → Position  -- with its kind and its start
  group_position : Option Group → Side → Position  -- with the group before, if there is one, and its side

-- numbers
pub data Number : Type 0 where
  limited : Count → Number
  free : Number  -- a count of children, holes or arguments, or the index of a group's first comment
  position : List ℕ → Position → Number  -- in a source
  group_count : ℕ → ℕ → Number  -- how many comments a group has, with the number of all and the index of its first

-- the node that a place allows
pub data Allowed : Type 0 where
  any_node a_string an_object : Allowed

pub data Field : Type 0 where
  byte : Byte → Field
  tag : Allowed → ℕ → Field  -- where so many levels are left
  number : Number → Field
  text : Encoding → ℕ → Field  -- the bytes of a text, so many
  every_comment : List Group → ℕ → Field  -- judged after the last group, with the groups and the number of comments: no byte

-- a field and its bytes
pub record Entry : Type 0 where
  pub field : Field
  pub bytes : List ℕ
