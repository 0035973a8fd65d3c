-- The ticks of the readings from the places before one, and what the reading from that place adds.
use Rattle.laws.proofs.Prelude.{◌≡◌, sym, ap, ◌∙◌, ◌⊎◌, ⊎_elim, inl, inr, List, none-some, ℕ, ◌+◌, ◌<◌, arith, length}
use Rattle.laws.proofs.Prelude.{drop, replicate, ◌-◌, length-drop, drop-drop}
use Rattle.std.specs.Prelude.{Option, Some, None}
use Rattle.analysis.specs.Mode.{Mode}
use Rattle.jsdoc.specs.Grammar.{Bytes, Brace, Declaration, Reading, From, Listed}
use Rattle.jsdoc.specs.{Parsed.Parser, Parsed.value, code.Ticks.Ticks, Listing.tick_at}
use Rattle.jsdoc.specs.Reader.{Hit, hit, parse_jsdoc_dynamic_import, parse_jsdoc_import_decl}
use Rattle.jsdoc.proofs.{Texts.quote_shorter, Ends.Ends, Ends.ends_at, Ends.ends_shorter, Ends.ends_trans, Suffixes.reading_ends}
use Rattle.jsdoc.proofs.Agrees.{Agrees, brace_agrees, declaration_agrees}
use Rattle.jsdoc.proofs.ReadingPlace.{with_kind, one_place, place_quote}
use Rattle.jsdoc.proofs.Ticked.{ticks_iff, ticks_set, ticks_nothing}

-- a kind of readings, and the parser that reads them
pub record Kind (R : Bytes → Bytes → Bytes → Mode → Type 0) (p : Parser Hit) : Type 0 where
  pub agrees : Agrees R p
  pub reading : {s q e : Bytes} {m : Mode} → R s q e m → Reading s q e m

pub braces : Kind Brace parse_jsdoc_dynamic_import
braces = record { agrees = brace_agrees; reading = inl }

pub declarations : Kind Declaration parse_jsdoc_import_decl
declarations = record { agrees = declaration_agrees; reading = inr }

pub place_below : {b : Bytes} {k q : ℕ} {m : Mode} → From Reading b k q m → q < length b
place_below {b} {q} r = let (t, i) = place_quote r.reads in omega (arith, quote_shorter i, length-drop q b)

module _ {R : Bytes → Bytes → Bytes → Mode → Type 0} {p : Parser Hit} (K : Kind R p) (b : Bytes) (i : ℕ) (h : i < length b) where
  -- the place in b of what is left of its rest from i on
  abbrev pub place : Bytes → ℕ
  place t = i + (length (drop i b) - length t)

  ends_there : {t : Bytes} → Ends (drop i b) t → drop (place t) b ≡ t
  ends_there {t} e = sym (drop-drop (length (drop i b) - length t) i b) ∙ ends_at e

  pub found : {q e : Bytes} {m : Mode} → value (p (drop i b)) ≡ Some (hit q e m) → From R b i (place q) m
  found {q} {e} {m} is =
      let r = (K.agrees (drop i b) q e m).1 is in
      let (x, y) = reading_ends (K.reading r) in
      record {
        end = place e;
        inside = omega (arith, length-drop i b);
        reads = rw (ends_there x, ends_there (ends_trans x y)) r;
      }

  -- from one place there is one reading
  pub only_one : {q e : Bytes} {m : Mode} → value (p (drop i b)) ≡ Some (hit q e m) → {k : ℕ} {n : Mode} → From R b i k n → (k ≡ place q) × (n ≡ m)
  only_one {q} {e} {m} is {k} g =
      let u = (K.agrees _ _ _ _).0 g.reads in
      let s : drop k b ≡ q = cc in
      let x = place_below (with_kind g (K.reading g.reads)) in
      let y = ends_shorter (reading_ends (K.reading g.reads)).0 in
      (omega (arith, ap length s, length-drop k b, length-drop i b, y), (cc))

  -- one turn: the reading from place i, if there is one, is ticked
  pub ticks_turn : {P : ℕ → Mode → Type 0} {l : List ℕ} → Ticks P (length b) l → ((q : ℕ) (m : Mode) → P q m → Listed b q m)
      → (o : Option Hit) → value (p (drop i b)) ≡ o → Ticks (λ q m. P q m ⊎ From R b i q m) (length b) (tick_at i (drop i b) o l)
  ticks_turn {P} k listed (Some (hit q e m)) is =
      let f = found is in
      let w = with_kind f (K.reading f.reads) in
      ticks_set (place q) m (place_below w) k
      (λ x y t. inl t)
      (inr f)
      (λ x y t. ⊎_elim inl (λ g. inr (only_one is g)) t)
      (λ y t. let (j, g) = listed (place q) y t in (one_place g w).1)
  ticks_turn k listed None is =
      ticks_iff (λ q m t. inl t) (λ q m t. ⊎_elim (λ x. x) (λ g. absurd (none-some _ (sym is ∙ (K.agrees _ _ _ _).0 g.reads))) t) k

-- a reading begins inside the body
pub from_below : {b : Bytes} {k q : ℕ} {m : Mode} → From Reading b k q m → k < length b
from_below {b} {k} {q} f = omega (arith, place_below f, ends_shorter (reading_ends f.reads).0, length-drop k b, length-drop q b)

-- the readings from the places before i
abbrev pub Before : (Bytes → Bytes → Bytes → Mode → Type 0) → Bytes → ℕ → ℕ → Mode → Type 0
Before R b i q m = (k : ℕ) × (k < i) × From R b k q m

-- a reading from i or before it is one from before a later place
pub later : {R : Bytes → Bytes → Bytes → Mode → Type 0} {b : Bytes} {i j : ℕ} → i < j → (q : ℕ) (m : Mode) → Before R b i q m ⊎ From R b i q m
    → Before R b j q m
later h q m (inl (k, l, f)) = (k, omega arith, f)
later {i} h q m (inr f) = (i, h, f)

pub ticks_none : {R : Bytes → Bytes → Bytes → Mode → Type 0} (b : Bytes) → Ticks (Before R b 0) (length b) (replicate (length b) 0)
ticks_none b = ticks_nothing (λ q m r. omega (arith, r.1)) (length b)
