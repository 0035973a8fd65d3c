-- Fields without a String that the node holds are fields of any source.
use Rattle.laws.proofs.Prelude.{List, ℕ}
use Rattle.laws.specs.Decoded.{Decoded}
use Rattle.laws.specs.code.Told.{Told}
use Rattle.wire.specs.code.Views.{ReadResult}
use Rattle.sheet_heads.specs.declared.node.Head as h
use Rattle.sheet_heads.specs.code.Head.{Head}
use Rattle.sheet_heads.specs.code.Views.{fields_as, PastFields, PastPlain}

pub plain_fields : (source : List ℕ) {v : Decoded Head} {n : ℕ} {r : ReadResult h.Head} → Told fields_as v (PastPlain n) r
    → Told fields_as v (PastFields source n) r
plain_fields source t = record { answer = t.answer; bounds = t.bounds source }
