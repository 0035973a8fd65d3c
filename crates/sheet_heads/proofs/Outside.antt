-- A tag, and the bytes of a property and of its key, outside their values.
use Rattle.laws.proofs.Prelude.{◌≡◌, List, ℕ, ◌≤◌, get_or-eq_default}
use Rattle.laws.specs.Decoded.{ok, no, refuse}
use Rattle.wire.{specs.Fields.byte}
use Rattle.sheet.specs.declared.fields.Span.{Span}
use Rattle.sheet_heads.specs.code.{Head.start, Parts.key_head, Parts.property_head}

pub no_start : (source : List ℕ) (levels : ℕ) (sp : Span) (t : ℕ) (s : List ℕ) → 13 ≤ t → start source levels sp t s ≡ no 3
unfolding start
no_start source levels sp t s h = rw (get_or-eq_default _ (refuse 3) h)

pub no_key : (kind : ℕ) (s : List ℕ) → 3 ≤ kind → key_head kind s ≡ no 3
unfolding key_head
no_key kind s h = rw (get_or-eq_default _ (refuse 3) h)

pub no_property : (kind : ℕ) (s : List ℕ) {t : List ℕ} → byte s ≡ ok kind t → 3 ≤ kind → property_head s ≡ no 3
unfolding property_head
no_property kind s e h = rw (e, get_or-eq_default _ (refuse 3) h)
