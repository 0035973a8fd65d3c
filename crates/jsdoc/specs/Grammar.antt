-- The grammar of JSDoc imports, with no parser. A piece P is a relation: `P s t` says that the bytes s are the piece, followed by the bytes t.
-- Where a piece is made of others, r1, r2 and so on are the bytes that are left between them.
use Rattle.std.specs.Prelude.{◌≡◌, cond, ◌⊎◌, List, [], ◌∷◌, ◌++◌, ℕ, ◌≤◌, ◌<◌, length, drop}
use Rattle.std.specs.Prelude.{None}
use Prim.Native.Char.{code}
use Rattle.laws.specs.Ascii.{ascii}
use Rattle.text.specs.declared.class.Class.{Class}
use Rattle.text.specs.declared.class.Class.TheVariants.{White, Alphabetic, NameRest}
use Rattle.text.specs.Characters.{OneOf}
use Rattle.text.specs.Bytes.{Mark, same}
use Rattle.analysis.specs.Mode.{Mode, mode_of}

abbrev pub Bytes : Type 0
Bytes = List ℕ

-- the longest run of characters of the class
pub data LongestRun (c : Class) : Bytes → Bytes → Type 0 where
  done : {t : Bytes} → ((u : Bytes) → OneOf c t u → ⊥) → LongestRun c t t
  more : {s u t : Bytes} → OneOf c s u → LongestRun c u t → LongestRun c s t

abbrev pub W* : Bytes → Bytes → Type 0
W* s t = LongestRun White s t

abbrev pub W+ : Bytes → Bytes → Type 0
W+ s t = (u : Bytes) × OneOf White s u × W* u t

-- the word w, then W*
abbrev pub Word : Bytes → Bytes → Bytes → Type 0
Word w s t = (u : Bytes) × (s ≡ w ++ u) × W* u t

-- m is not in w
abbrev pub Without : ℕ → Bytes → Type 0
Without m [] = Unit {0}
Without m (x ∷ w) = (x ≡ m → ⊥) × Without m w

-- bytes w without m, then m
abbrev pub Upto : ℕ → Bytes → Bytes → Bytes → Type 0
Upto m w s t = Without m w × (s ≡ w ++ m ∷ t)

-- `"` or `'`, bytes k without that mark, the mark
pub record Quote (k s t : Bytes) : Type 0 where
  pub mark : ℕ
  pub r1 : Bytes
  pub of_mark : Mark mark
  pub first : s ≡ mark ∷ r1
  pub rest : Upto mark k r1 t

-- an alphabetic character, then the longest run without W, `:` or `-`; k in all
pub record Name (k s t : Bytes) : Type 0 where
  pub r1 : Bytes
  pub first : OneOf Alphabetic s r1
  pub rest : LongestRun NameRest r1 t
  pub all : s ≡ k ++ t

-- Quote or Name, W* `:` W* Quote: the key k and the value v
pub record Attribute (k v s t : Bytes) : Type 0 where
  pub r1 : Bytes
  pub r2 : Bytes
  pub r3 : Bytes
  pub key : Quote k s r1 ⊎ Name k s r1
  pub white : W* r1 r2
  pub colon : Word (ascii ":") r2 r3
  pub value : Quote v r3 t

-- a key and a value
pub data Pair : Type 0 where
  pair : Bytes → Bytes → Pair

-- attributes parted by W* `,` W*, a last comma allowed after one
pub data Attributes : List Pair → Bytes → Bytes → Type 0 where
  none : {t : Bytes} → Attributes [] t t
  last : {k v s t : Bytes} → Attribute k v s t → Attributes (pair k v ∷ []) s t
  next : {k v s r1 r2 r3 t : Bytes} {l : List Pair} → Attribute k v s r1 → W* r1 r2 → Word (ascii ",") r2 r3 → Attributes l r3 t
      → Attributes (pair k v ∷ l) s t

-- Mode: that of the first attribute `resolution-mode`; none where there is no such one
unfoldable pub mode_in : List Pair → Mode
mode_in [] = None
mode_in (pair k v ∷ l) = cond (same k (ascii "resolution-mode")) (mode_of v) (mode_in l)

-- `{` W*, attributes, W* `}`
pub record Block (mode : Mode) (s t : Bytes) : Type 0 where
  pub r1 : Bytes
  pub r2 : Bytes
  pub r3 : Bytes
  pub list : List Pair
  pub brace : Word (ascii "{") s r1
  pub attributes : Attributes list r1 r2
  pub white : W* r2 r3
  pub end : r3 ≡ ascii "}" ++ t
  pub mode_is : mode ≡ mode_in list

-- a run without `}` up to the first `import`, which t begins with
pub record ToImport (s t : Bytes) : Type 0 where
  pub run : Bytes
  pub free : Without (code "}") run
  pub all : s ≡ run ++ t
  pub first : (k : ℕ) → k < length run → (r : Bytes) → drop k s ≡ ascii "import" ++ r → ⊥

-- `,` W* `{` W* `with` W* `:` W* Block W* `}` W*
pub record SecondParam (mode : Mode) (s t : Bytes) : Type 0 where
  pub r1 : Bytes
  pub r2 : Bytes
  pub r3 : Bytes
  pub r4 : Bytes
  pub r5 : Bytes
  pub r6 : Bytes
  pub comma : Word (ascii ",") s r1
  pub brace : Word (ascii "{") r1 r2
  pub word : Word (ascii "with") r2 r3
  pub colon : Word (ascii ":") r3 r4
  pub block : Block mode r4 r5
  pub white : W* r5 r6
  pub end : Word (ascii "}") r6 t

-- W*, optionally the part with the Block, then `)`, a run without `}`, `}`
pub record Tail (mode : Mode) (s t : Bytes) : Type 0 where
  pub r1 : Bytes
  pub r2 : Bytes
  pub r3 : Bytes
  pub run : Bytes
  pub white : W* s r1
  pub part : SecondParam mode r1 r2 ⊎ ((mode ≡ None) × (r1 ≡ r2))
  pub paren : r2 ≡ ascii ")" ++ r3
  pub rest : Upto (code "}") run r3 t

-- a Brace reading that begins s; its place is the Quote, which begins where q is left and ends where e is left
pub record Brace (s q e : Bytes) (mode : Mode) : Type 0 where
  pub r1 : Bytes
  pub r2 : Bytes
  pub r3 : Bytes
  pub text : Bytes
  pub end : Bytes
  pub brace : s ≡ ascii "{" ++ r1
  pub run : ToImport r1 r2
  pub word : Word (ascii "import") r2 r3
  pub paren : Word (ascii "(") r3 q
  pub quote : Quote text q e
  pub tail : Tail mode e end

-- Name W+
abbrev pub Named : Bytes → Bytes → Type 0
Named s t = (k : Bytes) × (u : Bytes) × Name k s u × W+ u t

-- `*` W* `as` W+ Name W+
pub record Starred (s t : Bytes) : Type 0 where
  pub r1 : Bytes
  pub r2 : Bytes
  pub r3 : Bytes
  pub star : Word (ascii "*") s r1
  pub word : r1 ≡ ascii "as" ++ r2
  pub white : W+ r2 r3
  pub name : Named r3 t

-- `{` no `}` `}`
abbrev pub Braced : Bytes → Bytes → Type 0
Braced s t = (u : Bytes) × (w : Bytes) × (s ≡ ascii "{" ++ u) × Upto (code "}") w u t

abbrev pub Clause : Bytes → Bytes → Type 0
Clause s t = Braced s t ⊎ (Starred s t ⊎ Named s t)

-- W* `with` W* Block
pub record With (mode : Mode) (s t : Bytes) : Type 0 where
  pub r1 : Bytes
  pub r2 : Bytes
  pub white : W* s r1
  pub word : Word (ascii "with") r1 r2
  pub block : Block mode r2 t

-- a Declaration that begins s; its place is the Quote, which begins where q is left and ends where e is left
pub record Declaration (s q e : Bytes) (mode : Mode) : Type 0 where
  pub r1 : Bytes
  pub r2 : Bytes
  pub r3 : Bytes
  pub r4 : Bytes
  pub text : Bytes
  pub word : s ≡ ascii "@import" ++ r1
  pub white : W+ r1 r2
  pub clause : Clause r2 r3
  pub white2 : W* r3 r4
  pub word2 : Word (ascii "from") r4 q
  pub quote : Quote text q e
  pub after : ((t : Bytes) × With mode e t) ⊎ (((m : Mode) (t : Bytes) → With m e t → ⊥) × (mode ≡ None))

abbrev pub Reading : Bytes → Bytes → Bytes → Mode → Type 0
Reading s q e mode = Brace s q e mode ⊎ Declaration s q e mode

-- a reading from place k of a body whose place, from q to `end`, is inside the body
pub record From (R : Bytes → Bytes → Bytes → Mode → Type 0) (body : Bytes) (k q : ℕ) (mode : Mode) : Type 0 where
  pub end : ℕ
  pub inside : end ≤ length body
  pub reads : R (drop k body) (drop q body) (drop end body) mode

-- from some place of the body there is such a reading whose place begins at q
abbrev pub ListedBy : (Bytes → Bytes → Bytes → Mode → Type 0) → Bytes → ℕ → Mode → Type 0
ListedBy R body q mode = (k : ℕ) × From R body k q mode

-- some `{` or `@import` of the body has a reading whose place begins at q
abbrev pub Listed : Bytes → ℕ → Mode → Type 0
Listed body q mode = ListedBy Reading body q mode
