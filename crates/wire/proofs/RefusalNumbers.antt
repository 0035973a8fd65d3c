-- The numbers of refusals.
use Rattle.laws.proofs.Prelude.{◌<◌, arith}
use Rattle.wire.specs.declared.refusals.Refusal.{Refusal}
use Rattle.wire.specs.declared.refusals.Refusal.TheVariants as is
use Rattle.wire.specs.Refusals.{number_of}

-- none is 0
pub some_number : (r : Refusal) → 0 < number_of r
some_number is.SheetLength = omega arith
some_number is.CutOff = omega arith
some_number is.Byte = omega arith
some_number is.Limit = omega arith
some_number is.Text = omega arith
some_number is.Position = omega arith
some_number is.Comments = omega arith
some_number is.Trailing = omega arith
some_number is.Uncooked = omega arith
some_number is.Buffer = omega arith
some_number is.Delivery = omega arith
some_number is.NameTwice = omega arith
some_number is.Quotation = omega arith
some_number is.Rules = omega arith
