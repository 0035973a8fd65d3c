-- A list that ends another.
use Rattle.laws.proofs.Prelude.{◌≡◌, sym, ap, ◌∙◌, ◌++◌, append_assoc, ℕ, ◌-◌, ◌≤◌, arith, length, take, drop, length-append, drop-append_seam}
use lib.ListN.{take-append-drop}
use Rattle.jsdoc.specs.Grammar.{Bytes}

abbrev pub Ends : Bytes → Bytes → Type 0
Ends s t = (p : Bytes) × (s ≡ p ++ t)

abbrev pub ends_trans : {s t u : Bytes} → Ends s t → Ends t u → Ends s u
ends_trans {u} (p, e) (r, f) = (p ++ r, e ∙ ap (λ (l : Bytes). p ++ l) f ∙ sym (append_assoc p r u))

pub ends_drop : (k : ℕ) (s : Bytes) → Ends s (drop k s)
ends_drop k s = (take k s, sym (take-append-drop k s))

pub ends_shorter : {s t : Bytes} → Ends s t → length t ≤ length s
ends_shorter {t} (p, e) = omega (arith, ap length e, length-append p t)

pub ends_at : {s t : Bytes} → Ends s t → drop (length s - length t) s ≡ t
ends_at {s} {t} (p, e) =
    let n : length s - length t ≡ length p = omega (arith, ap length e, length-append p t) in
    rw n (rw e (drop-append_seam p t))
