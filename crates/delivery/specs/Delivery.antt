-- A delivery: a count from 1 to 64, then per module a name text, a sheet length and the sheet. Just their encodings are decoded
-- (`OrderPromised.decodes`).
use Rattle.std.specs.Prelude.{◌≡◌, cond, ◌&&◌, List, ◌++◌, ℕ, ◌≤◌, leb, length}
use Rattle.laws.specs.Decoded.{no, Decoder, ◌>>=◌, ◌>>◌, return, require}
use Rattle.laws.specs.Codec.{All}
use Rattle.text.specs.declared.utf8.Encoding.TheVariants.{Utf8}
use Rattle.wire.specs.Number.{number}
use Rattle.wire.specs.Text.{text, encode_text}
use Rattle.sheet.specs.Limits.{text_limit}
use Rattle.sheet.specs.Sheet.{ending}
use Rattle.sheet_codec.specs.Limits.{TextFits}
use Rattle.report.specs.Encode.{encode_list}
use Rattle.report.specs.Decode as report
use Rattle.report.specs.Decode.{times}
use Rattle.wire.specs.Refusals as refusals

-- the bytes of a name, and of a sheet, of which there may be none
pub record Module : Type 0 where
  pub name : List ℕ
  pub sheet : List ℕ

-- bytes of a delivery
abbrev pub delivery_limit : ℕ
delivery_limit = 65536

-- modules of a delivery
abbrev pub module_limit : ℕ
module_limit = 64

-- a name text, a sheet length and the sheet
unfoldable pub encode_module : Module → List ℕ
encode_module m = encode_text m.name ++ encode_text m.sheet

-- a count, then the modules
abbrev pub encode_delivery : List Module → List ℕ
encode_delivery = encode_list encode_module

-- the name is UTF-8 of at most 4,096 bytes; nothing is asked of the sheet here
abbrev pub NameFits : Module → Type 0
NameFits m = TextFits Utf8 text_limit m.name

-- the bytes s are a delivery of these modules
pub record DeliveryOf (s : List ℕ) (ms : List Module) : Type 0 where
  pub bytes : encode_delivery ms ≡ s
  pub size : length s ≤ delivery_limit
  pub some : 1 ≤ length ms
  pub few : length ms ≤ module_limit
  pub names : All NameFits ms

-- a module; the sheet is a length and as many bytes, whatever they are
unfoldable pub named_sheet : Decoder Module
named_sheet = do
  name ← text Utf8 text_limit
  sheet ← report.text
  return (record { name = name; sheet = sheet })

-- so many modules, and nothing behind them
unfoldable pub last_modules : ℕ → Decoder (List Module)
last_modules n = do
  ms ← times named_sheet n
  ending
  return ms

-- a count from 1 to 64, and as many modules
unfoldable pub counted_modules : Decoder (List Module)
counted_modules = do
  n ← number
  require (leb 1 n && leb n module_limit) refusals.delivery
  last_modules n

-- whatever number a refusal has here, a delivery's is 11
unfoldable pub decode_delivery : Decoder (List Module)
decode_delivery s = cond (leb (length s) delivery_limit) (counted_modules s) (no refusals.delivery)
