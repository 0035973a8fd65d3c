-- Where a sheet is refused, what each refusal says, and that those at fields are judged from the front.
use Rattle.laws.proofs.Prelude.{◌≡◌, refl, sym, ap, ◌∙◌, Bool, true, false, true≢false, cond, not, ◌&&◌, ◌||◌, List, [], ◌∷◌, ◌++◌, inl, inr, ◌↔◌, ℕ, ◌+◌}
use Rattle.laws.proofs.Prelude.{◌≤◌, ◌<◌, arith, eqb, leb, length, take, drop, length-append, eqb-true, leb-true, leb-false, le-leb, lt-leb}
use lib.Seq.{take-append-le, drop-append-le}
use Rattle.laws.specs.Decoded.{Decoded, ok, no, and_then, ◌>>=◌, ◌>>◌, return, require}
use Rattle.laws.proofs.Decoding.{refused as not_ok}
use Rattle.laws.proofs.Answers.{Answer, Answers, answers_kept}
use Rattle.laws.proofs.Steady.{Followed, Steady, steady_kept}
use Rattle.wire.specs.Refusals.{at_fields, of_sheets, one_of}
use Rattle.wire.specs.Refusals as refusals
use Rattle.wire.specs.Fields.{byte, below, numbered, bytes}
use Rattle.wire.proofs.Kept.{AtField, OfFields, two}
use Rattle.sheet.{specs.Limits.sheet_limit, specs.Walked.uncooked, specs.Judge.Judged, specs.Judge.judge, proofs.Kept.sheet_kept, proofs.Reaches.nine_exactly}
use Rattle.sheet.specs.Sheet.{Sheet, sheet, ending, decode_sheet, accept}
use Rattle.sheet_codec.specs.SheetOf.{Encodes, Uncooked}
use Rattle.sheet_codec.specs.Refused.{TooLong, MetAtField, BytesFollow}
use Rattle.sheet_codec.proofs.Sheets.{sheet_codec_lem, encoded, decoded}
use Rattle.sheet_codec.proofs.{FieldBytes.fields_bytes, SheetFields.sheet_fields}

-- a test that every number of a list passes
abbrev every : (ℕ → Bool) → List ℕ → Bool
every test [] = true
every test (n ∷ l) = test n && every test l

pub passes : (test : ℕ → Bool) (l : List ℕ) → every test l ≡ true → (r : ℕ) → one_of l r ≡ true → test r ≡ true
unfolding one_of
passes test [] p r h = absurd (true≢false (sym h))
passes test (n ∷ l) p r h = by (test n) refl p (λ q. passes test l q r) (eqb r n) refl h
  where
    by : (a : Bool) → test n ≡ a → (a && every test l) ≡ true → (every test l ≡ true → one_of l r ≡ true → test r ≡ true)
        → (b : Bool) → eqb r n ≡ b → (b || one_of l r) ≡ true → test r ≡ true
    by true t p rest true e h = rw (eqb-true r n e) t
    by true t p rest false e h = rest p h
    by false t p rest b e h = absurd (true≢false (sym p))

-- a number of a list is not one that is outside it
pub apart : (l : List ℕ) {r q : ℕ} → one_of l r ≡ true → r ≡ q → one_of l q ≡ false → ⊥
apart l h e f = true≢false (sym h ∙ (ap (one_of l) e ∙ f))

-- the refusals that are judged at the fields are those of the list
fields_numbered : OfFields (λ A d. Answers (λ (a : A). Unit {0}) AtField d)
unfolding byte bytes
fields_numbered =
    record { kept = answers_kept; a_byte = record { at = a_byte }; some_bytes = λ n. record { at = λ s. some_bytes n s (leb n (length s)) } }
  where
    a_byte : (s : List ℕ) → Answer (λ (b : ℕ). Unit {0}) AtField (byte s)
    a_byte [] = two
    a_byte (b ∷ s) = tt

    some_bytes : (n : ℕ) (s : List ℕ) (b : Bool) → Answer (λ (x : List ℕ). Unit {0}) AtField (cond b (ok (take n s) (drop n s)) (no refusals.cut_off))
    some_bytes n s true = tt
    some_bytes n s false = two

-- and they are judged from the front
fields_steady : OfFields (λ A d. Steady d)
unfolding byte bytes
fields_steady =
    record {
      kept = steady_kept;
      a_byte = record { followed = a_byte };
      some_bytes = λ n. record { followed = λ s u. some_bytes n s u (leb n (length s)) refl };
    }
  where
    a_byte : (s u : List ℕ) → Followed u (byte s) (byte (s ++ u))
    a_byte [] u = inl refl
    a_byte (b ∷ s) u = refl

    some_bytes : (n : ℕ) (s u : List ℕ) (b : Bool) → leb n (length s) ≡ b
        → Followed u (cond b (ok (take n s) (drop n s)) (no refusals.cut_off))
        (cond (leb n (length (s ++ u))) (ok (take n (s ++ u)) (drop n (s ++ u))) (no refusals.cut_off))
    some_bytes n s u true e =
        let l = leb-true n (length s) e in
        rw (length-append, le-leb n (length s + length u) (omega arith), take-append-le, drop-append-le)
    some_bytes n s u false e = inl refl

-- where a sheet is refused, or that it is not
data Stage (s : List ℕ) : Decoded Sheet → Type 0 where
  size : TooLong s → Stage s (no refusals.sheet_length)
  field : {r : ℕ} → AtField r → sheet s ≡ no r → Stage s (no r)
  bytes_follow : (t : Sheet) (b : ℕ) (u : List ℕ) → sheet s ≡ ok t (b ∷ u) → length s ≤ sheet_limit → Stage s (no refusals.trailing)
  call : (t : Sheet) → decode_sheet s ≡ ok t [] → uncooked t.root ≡ true → Stage s (no refusals.uncooked)
  nowhere : (t : Sheet) → accept s ≡ ok t [] → Stage s (ok t [])

stage : (s : List ℕ) → Stage s (accept s)
unfolding accept decode_sheet
stage s = by_size (leb (length s) sheet_limit) refl
  where
    by_calls : (t : Sheet) → decode_sheet s ≡ ok t [] → (b : Bool) → uncooked t.root ≡ b → Stage s ((require (not b) refusals.uncooked >> return t) [])
    by_calls t e true is = call t e is
    by_calls t e false is = nowhere t (rw (e, is))

    by_end : length s ≤ sheet_limit → (t : Sheet) (u : List ℕ) → sheet s ≡ ok t u → decode_sheet s ≡ (ending >> return t) u
        → Stage s (((ending >> return t) >>= λ t. require (not (uncooked t.root)) refusals.uncooked >> return t) u)
    by_end few t [] x e = by_calls t e (uncooked t.root) refl
    by_end few t (b ∷ u) x e = bytes_follow t b u x few

    by_fields : length s ≤ sheet_limit → (x : Decoded Sheet) → sheet s ≡ x → Answer (λ t. Unit {0}) AtField x
        → Stage s (and_then (and_then x (λ t. ending >> return t)) (λ t. require (not (uncooked t.root)) refusals.uncooked >> return t))
    by_fields few (ok t u) e h = by_end few t u e (rw (le-leb (length s) sheet_limit few, e))
    by_fields few (no r) e h = field h e

    by_size : (b : Bool) → leb (length s) sheet_limit ≡ b
        → Stage s ((require b refusals.sheet_length >> (sheet >>= λ t. ending >> return t) >>= λ t. require (not (uncooked t.root))
        refusals.uncooked >> return t) s)
    by_size true i = by_fields (leb-true (length s) sheet_limit i) (sheet s) refl ((sheet_kept fields_numbered).at s)
    by_size false i = size (leb-false (length s) sheet_limit i)

-- there are no bytes, or a sheet is accepted, or refused with one of its numbers
pub data Decision (s : List ℕ) : Type 0 where
  empty : s ≡ [] → Decision s
  accepted : (t : Sheet) → accept s ≡ ok t [] → Decision s
  refused : (r : ℕ) → one_of of_sheets r ≡ true → 0 < length s → accept s ≡ no r → Decision s

pub decided : (s : List ℕ) → Decision s
unfolding one_of
decided [] = empty refl
decided (b ∷ s) = by (accept (b ∷ s)) refl (stage (b ∷ s))
  where
    some : 0 < length (b ∷ s)
    some = omega arith

    by : (x : Decoded Sheet) → accept (b ∷ s) ≡ x → Stage (b ∷ s) x → Decision (b ∷ s)
    by x e (size h) = refused refusals.sheet_length refl some e
    by x e (field {r = r} n h) = refused r (passes (one_of of_sheets) at_fields refl r n) some e
    by x e (bytes_follow t b u i few) = refused refusals.trailing refl some e
    by x e (call t d h) = refused refusals.uncooked refl some e
    by x e (nowhere t h) = accepted t e

-- of no bytes the first field is cut off
pub cut_off_lem : accept [] ≡ no refusals.cut_off
unfolding byte below numbered sheet decode_sheet accept
cut_off_lem = refl

-- where there are bytes, `judge` says what `accept` says
pub judged_sheet : (s : List ℕ) {t : Sheet} → accept s ≡ ok t [] → judge s ≡ Judged.sheet t
unfolding judge
judged_sheet [] e = absurd (not_ok (sym cut_off_lem ∙ e))
judged_sheet (b ∷ s) e = rw e

pub judged_refusal : (s : List ℕ) {r : ℕ} → 0 < length s → accept s ≡ no r → judge s ≡ Judged.refusal r
unfolding judge
judged_refusal [] some e = absurd (omega (arith, some))
judged_refusal (b ∷ s) some e = rw e

-- what each refusal says
module _ (s : List ℕ) where
  pub one : (accept s ≡ no refusals.sheet_length) ↔ TooLong s
  unfolding one_of accept decode_sheet
  one = (λ e. there refusals.sheet_length refl (rw e at (stage s)), back)
    where
      there : (r : ℕ) → r ≡ refusals.sheet_length → Stage s (no r) → TooLong s
      there r i (size h) = h
      there r i (field n h) = absurd (apart at_fields n i refl)
      there r i (bytes_follow t b u h few) = absurd (omega arith)
      there r i (call t d h) = absurd (omega arith)

      back : TooLong s → accept s ≡ no refusals.sheet_length
      back l = rw (lt-leb (length s) sheet_limit l)

  pub at_field : {r : ℕ} → AtField r → accept s ≡ no r → MetAtField s r
  unfolding one_of
  at_field {r} among e = by r refl (rw e at (stage s))
    where
      by : (q : ℕ) → q ≡ r → Stage s (no q) → MetAtField s r
      by q i (size h) = absurd (apart at_fields among (sym i) refl)
      by q i (field n h) =
          let (t, l, is, meets) = sheet_fields.refuses s r (rw i at h) in
          record { sheet = t; its_bytes = fields_bytes t; meets = rw is.1 at meets }
      by q i (bytes_follow t b u h few) = absurd (apart at_fields among (sym i) refl)
      by q i (call t d h) = absurd (apart at_fields among (sym i) refl)

  pub eight : (accept s ≡ no refusals.trailing) ↔ BytesFollow s
  unfolding one_of accept decode_sheet
  eight = (λ e. there refusals.trailing refl (rw e at (stage s)), back)
    where
      there : (r : ℕ) → r ≡ refusals.trailing → Stage s (no r) → BytesFollow s
      there r i (size h) = absurd (omega arith)
      there r i (field n h) = absurd (apart at_fields n i refl)
      there r i (bytes_follow t b u h few) =
          let (bytes, fit) = sheet_codec_lem.sound s t (b ∷ u) h in
          record { sheet = t; fit = fit; next = b; behind = u; bytes = bytes; few = few }
      there r i (call t d h) = absurd (omega arith)

      back : BytesFollow s → accept s ≡ no refusals.trailing
      back h =
          let read : sheet s ≡ ok h.sheet (h.next ∷ h.behind) = rw h.bytes (sheet_codec_lem.complete h.sheet h.fit (h.next ∷ h.behind)) in
          rw (le-leb (length s) sheet_limit h.few, read)

  -- the bytes are those of a sheet within the limits, and a walked call of it meets 9
  pub nine : (accept s ≡ no refusals.uncooked) ↔ ((t : Sheet) × Encodes s t × Uncooked t)
  unfolding one_of accept
  nine = (λ e. there refusals.uncooked refl (rw e at (stage s)), back)
    where
      there : (r : ℕ) → r ≡ refusals.uncooked → Stage s (no r) → (t : Sheet) × Encodes s t × Uncooked t
      there r i (size h) = absurd (omega arith)
      there r i (field n h) = absurd (apart at_fields n i refl)
      there r i (bytes_follow t b u h few) = absurd (omega arith)
      there r i (call t d h) = (t, encoded d, (nine_exactly t.root).0 h)

      back : (t : Sheet) × Encodes s t × Uncooked t → accept s ≡ no refusals.uncooked
      back (t, e, c) = rw (decoded e, (nine_exactly t.root).1 c)

-- a refusal at a field, other than 2, stays the answer where more bytes follow, up to the limit of refusal 1
pub stays : (s u : List ℕ) {r : ℕ} → AtField r → (r ≡ refusals.cut_off → ⊥) → accept s ≡ no r → length (s ++ u) ≤ sheet_limit → accept (s ++ u) ≡ no r
unfolding one_of accept decode_sheet
stays s u {r} among not_cut e fits = by r refl (rw e at (stage s))
  where
    followed : (q : ℕ) → q ≡ r → Followed u (no q) (sheet (s ++ u)) → accept (s ++ u) ≡ no r
    followed q i (inl cut) = absurd (not_cut (sym i ∙ cut))
    followed q i (inr e) = rw (le-leb (length (s ++ u)) sheet_limit fits, e, i)

    by : (q : ℕ) → q ≡ r → Stage s (no q) → accept (s ++ u) ≡ no r
    by q i (size h) = absurd (apart at_fields among (sym i) refl)
    by q i (field n h) = followed q i (rw h at ((sheet_kept fields_steady).followed s u))
    by q i (bytes_follow t b v h few) = absurd (apart at_fields among (sym i) refl)
    by q i (call t d h) = absurd (apart at_fields among (sym i) refl)
