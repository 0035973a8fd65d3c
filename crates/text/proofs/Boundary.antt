-- The test for a boundary of a text.
use Rattle.laws.proofs.Prelude.{◌≡◌, true, not, and-eq-true_iff, List, ℕ, leb, length, get_or, leb-true, le-leb}
use borrow.Author.Tests.{not-true}
use Rattle.text.specs.{Ranges.within, Utf8.continuation, Position.Boundary, Position.is_boundary}

pub is_boundary_iff : (s : List ℕ) (p : ℕ) → (is_boundary s p ≡ true → Boundary s p) × (Boundary s p → is_boundary s p ≡ true)
unfolding is_boundary
is_boundary_iff s p =
    let inside = within continuation (get_or s p 0) in (
      λ e. let (l, n) = (and-eq-true_iff (leb p (length s)) (not inside)).0 e in (leb-true p (length s) l, not-true inside n),
      λ b. rw (le-leb p (length s) b.0, b.1),
    )
