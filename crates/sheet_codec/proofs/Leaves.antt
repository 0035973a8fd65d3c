-- What is judged at each field but numbers.
use Rattle.laws.proofs.Prelude.{◌≡◌, refl, sym, ap, ◌∙◌, Bool, true, false, cond, ◌&&◌, true≢false, ⊎_elim, List, [], ◌∷◌, ◌++◌, append-nil, ℕ, zero, suc}
use Rattle.laws.proofs.Prelude.{◌≤◌, ◌<◌, not-suc-le-zero, arith, eqb, leb, ltb, length, take, drop, replicate, length-replicate, length-append, ltb-true}
use Rattle.laws.proofs.Prelude.{ltb-false, leb-false, eqb-true, lt-ltb, eq-eqb}
use Rattle.std.proofs.lemmas.List.{nil_from_length}
use Rattle.laws.specs.Decoded.{ok, no, ◌>>=◌, ◌>>◌, return, require}
use Rattle.laws.proofs.Decoding.{refused, then_ok, then_refused, require_ok}
use Rattle.text.{specs.declared.utf8.Encoding.Encoding, specs.Utf8.well_formed, proofs.WellFormed.well_formed_iff}
use Rattle.wire.specs.Fields as wire
use Rattle.wire.{specs.Fields.below, proofs.Numbered.Numbers, proofs.TextCodec.below_codec, proofs.TextCodec.bytes_codec}
use Rattle.sheet.{specs.declared.groups.Group.Group, specs.Comments.in_some, specs.Comments.covered, proofs.Coverings.covered_iff, proofs.Coverings.in_held}
use Rattle.sheet.specs.Nodes as nodes
use Rattle.sheet_codec.specs.Field.{Byte, media, kind, side, flag, phase, callee, property, key, values, Allowed, any_node, a_string, an_object, byte}
use Rattle.sheet_codec.specs.Field.{tag, text, every_comment}
use Rattle.sheet_codec.specs.Breaks.{Allows, Breaks, no_byte, no_tag, few_bytes, other_byte, other_tag, too_deep, ill_formed, alone}
use Rattle.sheet_codec.specs.FieldsOf.{a_byte, a_flag, a_tag}
use Rattle.sheet_codec.proofs.Strings.{tag_codec}
use Rattle.sheet_codec.proofs.Fields.{FieldsOf, Any, last, field}

-- a byte has some value
some_value : (b : Byte) → 0 < values b
some_value media = omega arith
some_value kind = omega arith
some_value side = omega arith
some_value flag = omega arith
some_value phase = omega arith
some_value callee = omega arith
some_value property = omega arith
some_value key = omega arith

pub byte_field : (b : Byte) → FieldsOf (below (values b)) (λ x. x < values b) (λ x. a_byte b x ∷ [])
unfolding below wire.byte
byte_field b = field (byte b) (λ x. x ∷ []) 0 (some_value b) passes refuses
  where
    stated : (x : ℕ) → x < values b → (r : ℕ) → Breaks (byte b) (x ∷ []) r → ⊥
    stated x l r (other_byte h) = omega arith

    passes : (s : List ℕ) (x : ℕ) (u : List ℕ) → below (values b) s ≡ ok x u → (x < values b) × (s ≡ x ∷ u) × ((r : ℕ) → Breaks (byte b) (x ∷ []) r → ⊥)
    passes s x u e = let (i, l) = (below_codec (values b)).sound s x u e in (l, i, stated x l)

    none_first : (q : ℕ) → q < 2 → Breaks (byte b) [] q → ⊥
    none_first q l no_byte = omega arith

    other_first : (x : ℕ) (u : List ℕ) (q : ℕ) → q < 3 → Breaks (byte b) (x ∷ u) q → ⊥
    other_first x u q l (other_byte h) = omega arith

    judged : (x : ℕ) (u : List ℕ) (r : ℕ) (c : Bool) → ltb x (values b) ≡ c → (require c 3 >> return x) u ≡ no r
        → Breaks (byte b) (x ∷ u) r × ((q : ℕ) → q < r → Breaks (byte b) (x ∷ u) q → ⊥)
    judged x u r true i e = absurd (refused (sym e))
    judged x u r false i e = let three : r ≡ 3 = cc in rw three (other_byte (ltb-false x (values b) i), other_first x u)

    refuses : (s : List ℕ) (r : ℕ) → below (values b) s ≡ no r → Breaks (byte b) s r × ((q : ℕ) → q < r → Breaks (byte b) s q → ⊥)
    refuses [] r e = let two : r ≡ 2 = cc in rw two (no_byte, none_first)
    refuses (x ∷ u) r e = judged x u r (ltb x (values b)) refl e

-- a value by its number
pub numbered_field : (b : Byte) {A : Type 0} {number : A → ℕ} {named : wire.Values A} → Numbers number named → values b ≡ suc (length named.front)
    → FieldsOf (wire.numbered named) Any (λ a. a_byte b (number a) ∷ [])
unfolding wire.numbered
numbered_field b {named = named} k e =
    rw (← e) (last (wire.value_of named) (byte_field b) (λ n l. (tt, ap (λ m. a_byte b m ∷ []) (sym (k.forth n (rw e at l))))))

pub flag_field : FieldsOf wire.flag Any (λ b. a_flag b ∷ [])
unfolding wire.flag
flag_field = last (λ x. eqb x 1) (byte_field flag) (λ x l. (tt, bit x l))
  where
    bit : (x : ℕ) → x < 2 → a_byte flag x ∷ [] ≡ a_flag (eqb x 1) ∷ []
    bit zero l = refl
    bit (suc zero) l = refl
    bit (suc (suc x)) l = absurd (omega arith)

-- a tag that a place allows
module _ (place : Allowed) (levels : ℕ) (allowed : ℕ → Bool) (sound : (t : ℕ) → allowed t ≡ true → Allows place t)
    (complete : (t : ℕ) → Allows place t → allowed t ≡ true) where
  tag_refuses : (s : List ℕ) (r : ℕ) → nodes.tag allowed levels s ≡ no r
      → Breaks (tag place levels) s r × ((q : ℕ) → q < r → Breaks (tag place levels) s q → ⊥)
  unfolding nodes.tag wire.byte
  tag_refuses [] r e = let two : r ≡ 2 = cc in rw two (no_tag, none_first)
    where
      none_first : (q : ℕ) → q < 2 → Breaks (tag place levels) [] q → ⊥
      none_first q l no_tag = omega arith
      none_first q l (too_deep h) = omega arith
  tag_refuses (t ∷ u) r e = judged (allowed t) refl (ltb 0 levels) refl e
    where
      other_first : (q : ℕ) → q < 3 → Breaks (tag place levels) (t ∷ u) q → ⊥
      other_first q l (other_tag h) = omega arith
      other_first q l (too_deep h) = omega arith

      deep_first : allowed t ≡ true → (q : ℕ) → q < 4 → Breaks (tag place levels) (t ∷ u) q → ⊥
      deep_first i q l (other_tag h) = h (sound t i)
      deep_first i q l (too_deep h) = omega arith

      judged : (b : Bool) → allowed t ≡ b → (c : Bool) → ltb 0 levels ≡ c → (require b 3 >> (require c 4 >> return t)) u ≡ no r
          → Breaks (tag place levels) (t ∷ u) r × ((q : ℕ) → q < r → Breaks (tag place levels) (t ∷ u) q → ⊥)
      judged true i true j e = absurd (refused (sym e))
      judged true i false j e =
          let four : r ≡ 4 = cc in
          let none : levels ≡ 0 = omega (arith, ltb-false 0 levels j) in
          rw four (too_deep none, deep_first i)
      judged false i c j e =
          let three : r ≡ 3 = cc in
          rw three (other_tag (λ a. true≢false (sym (complete t a) ∙ i)), other_first)

  tag_field : (t : ℕ) → Allows place t → FieldsOf (nodes.tag allowed levels) (Allows place) (λ t. a_tag place levels t ∷ [])
  tag_field t h = field (tag place levels) (λ t. t ∷ []) t h passes tag_refuses
    where
      fits : (t : ℕ) → Allows place t → 0 < levels → (r : ℕ) → Breaks (tag place levels) (t ∷ []) r → ⊥
      fits t h l r (other_tag o) = o h
      fits t h l r (too_deep e) = omega arith

      passes : (s : List ℕ) (t : ℕ) (u : List ℕ) → nodes.tag allowed levels s ≡ ok t u
          → Allows place t × (s ≡ t ∷ u) × ((r : ℕ) → Breaks (tag place levels) (t ∷ []) r → ⊥)
      passes s t u e = let (i, v) = (tag_codec allowed levels).sound s t u e in (sound t v.0, i, fits t (sound t v.0) v.1)

-- where no level is left, no tag passes
pub no_level : (allowed : ℕ → Bool) (s : List ℕ) (t : ℕ) (u : List ℕ) → nodes.tag allowed 0 s ≡ ok t u → ⊥
no_level allowed s t u e = not-suc-le-zero ((tag_codec allowed 0).sound s t u e).1.1

pub any_tag_refuses : (levels : ℕ) (s : List ℕ) (r : ℕ) → nodes.tag (λ t. ltb t 13) levels s ≡ no r
    → Breaks (tag any_node levels) s r × ((q : ℕ) → q < r → Breaks (tag any_node levels) s q → ⊥)
any_tag_refuses levels = tag_refuses any_node levels (λ t. ltb t 13) (λ t e. ltb-true t 13 e) (λ t l. lt-ltb t 13 l)

pub object_tag_refuses : (levels : ℕ) (s : List ℕ) (r : ℕ) → nodes.tag (eqb 5) levels s ≡ no r
    → Breaks (tag an_object levels) s r × ((q : ℕ) → q < r → Breaks (tag an_object levels) s q → ⊥)
object_tag_refuses levels = tag_refuses an_object levels (eqb 5) (λ t e. sym (eqb-true 5 t e)) (λ t e. eq-eqb 5 t (sym e))

pub any_tag : (levels : ℕ) → FieldsOf (nodes.tag (λ t. ltb t 13) levels) (λ t. t < 13) (λ t. a_tag any_node levels t ∷ [])
any_tag levels = tag_field any_node levels (λ t. ltb t 13) (λ t e. ltb-true t 13 e) (λ t l. lt-ltb t 13 l) 0 (omega arith)

pub string_tag : (levels : ℕ) → FieldsOf (nodes.tag (eqb 1) levels) (λ t. t ≡ 1) (λ t. a_tag a_string levels t ∷ [])
string_tag levels = tag_field a_string levels (eqb 1) (λ t e. sym (eqb-true 1 t e)) (λ t e. eq-eqb 1 t (sym e)) 1 refl

pub object_tag : (levels : ℕ) → FieldsOf (nodes.tag (eqb 5) levels) (λ t. t ≡ 5) (λ t. a_tag an_object levels t ∷ [])
object_tag levels = tag_field an_object levels (eqb 5) (λ t e. sym (eqb-true 5 t e)) (λ t e. eq-eqb 5 t (sym e)) 5 refl

-- fewer bytes than are asked for
bytes_cut : (n : ℕ) (s : List ℕ) (r : ℕ) → wire.bytes n s ≡ no r → (r ≡ 2) × (length s < n)
unfolding wire.bytes
bytes_cut n s r e = go (leb n (length s)) refl e
  where
    go : (b : Bool) → leb n (length s) ≡ b → cond b (ok (take n s) (drop n s)) (no 2) ≡ no r → (r ≡ 2) × (length s < n)
    go true i e = absurd (refused (sym e))
    go false i e = (cc, leb-false n (length s) i)

-- the bytes of a text
module _ (e : Encoding) (n : ℕ) where
  bytes_refuses : (s : List ℕ) (r : ℕ) → (wire.bytes n >>= λ x. require (well_formed e x) 5 >> return x) s ≡ no r
      → Breaks (text e n) s r × ((q : ℕ) → q < r → Breaks (text e n) s q → ⊥)
  bytes_refuses s r q = ⊎_elim cut_off (λ (x, u, i, j). judged x u i (well_formed e x) refl j)
      (then_refused (wire.bytes n s) (λ x. require (well_formed e x) 5 >> return x) q)
    where
      few_first : (q : ℕ) → q < 2 → Breaks (text e n) s q → ⊥
      few_first q l (few_bytes h) = omega arith
      few_first q l (ill_formed x rest i j h) = omega arith

      cut_off : wire.bytes n s ≡ no r → Breaks (text e n) s r × ((q : ℕ) → q < r → Breaks (text e n) s q → ⊥)
      cut_off i = let (two, few) = bytes_cut n s r i in rw two (few_bytes few, few_first)

      ill_first : n ≤ length s → (q : ℕ) → q < 5 → Breaks (text e n) s q → ⊥
      ill_first m q l (few_bytes h) = omega arith
      ill_first m q l (ill_formed x rest i j h) = omega arith

      judged : (x u : List ℕ) → wire.bytes n s ≡ ok x u → (b : Bool) → well_formed e x ≡ b → (require b 5 >> return x) u ≡ no r
          → Breaks (text e n) s r × ((q : ℕ) → q < r → Breaks (text e n) s q → ⊥)
      judged x u i true is j = absurd (refused (sym j))
      judged x u i false is j =
          let (front, long) = (bytes_codec n).sound s x u i in
          let five : r ≡ 5 = cc in
          let enough : n ≤ length s = omega (arith, ap length front, length-append x u) in
          rw five (ill_formed x u front long (λ w. true≢false (sym ((well_formed_iff e x).1 w) ∙ is)), ill_first enough)

  pub bytes_field : FieldsOf (wire.bytes n >>= λ x. require (well_formed e x) 5 >> return x) (λ x. length x ≡ n)
      (λ x. record { field = text e n; bytes = x } ∷ [])
  bytes_field = field (text e n) (λ x. x) (replicate n 0) (length-replicate n 0) passes bytes_refuses
    where
      fits : (x : List ℕ) → length x ≡ n → well_formed e x ≡ true → (r : ℕ) → Breaks (text e n) x r → ⊥
      fits x long formed r (few_bytes h) = omega arith
      fits x long formed r (ill_formed y rest i j h) =
          let none : rest ≡ [] = nil_from_length rest (omega (arith, ap length i, length-append y rest)) in
          let same : x ≡ y = i ∙ ap (y ++◌) none ∙ append-nil y in
          h ((well_formed_iff e y).0 (rw same at formed))

      passes : (s x u : List ℕ) → (wire.bytes n >>= λ x. require (well_formed e x) 5 >> return x) s ≡ ok x u
          → (length x ≡ n) × (s ≡ x ++ u) × ((r : ℕ) → Breaks (text e n) x r → ⊥)
      passes s x u q =
          let (y, v, i, q) = then_ok (wire.bytes n s) _ q in
          let (formed, q) = require_ok (well_formed e y) 5 v _ q in
          let same : y ≡ x = cc in
          let (front, long) = (bytes_codec n).sound s x u (i ∙ q) in
          (long, front, fits x long (rw same at formed))

-- where not every comment is in some group, there is one that is in none
uncovered : (gs : List Group) (n : ℕ) → covered gs n ≡ false → (i : ℕ) × (i < n) × (in_some gs i ≡ false)
unfolding covered
uncovered gs zero e = absurd (true≢false e)
uncovered gs (suc n) e = go (covered gs n) refl e (uncovered gs n)
  where
    go : (b : Bool) → covered gs n ≡ b → (b && in_some gs n) ≡ false → (covered gs n ≡ false → (i : ℕ) × (i < n) × (in_some gs i ≡ false))
        → (i : ℕ) × (i < suc n) × (in_some gs i ≡ false)
    go true is e on = (n, omega arith, e)
    go false is e on = let (i, l, f) = on is in (i, omega arith, f)

-- that each comment is in some group
pub every_comment_lem : (gs : List Group) (n : ℕ) → FieldsOf (require (covered gs n) 7) Any (λ u. record { field = every_comment gs n; bytes = [] } ∷ [])
every_comment_lem gs n = field (every_comment gs n) (λ u. []) tt tt (λ s a u. passes s a u (covered gs n) refl) (λ s r. refuses s r (covered gs n) refl)
  where
    all_in : covered gs n ≡ true → (r : ℕ) → Breaks (every_comment gs n) [] r → ⊥
    all_in is r (alone i l h) = h ((covered_iff gs n).0 is i l)

    passes : (s : List ℕ) (a : Unit {0}) (u : List ℕ) (b : Bool) → covered gs n ≡ b → require b 7 s ≡ ok a u
        → Unit {0} × (s ≡ u) × ((r : ℕ) → Breaks (every_comment gs n) [] r → ⊥)
    passes s a u true is e = (tt, cc, all_in is)
    passes s a u false is e = absurd (refused e)

    lowest : (s : List ℕ) (q : ℕ) → q < 7 → Breaks (every_comment gs n) s q → ⊥
    lowest s q l (alone i k h) = omega arith

    refuses : (s : List ℕ) (r : ℕ) (b : Bool) → covered gs n ≡ b → require b 7 s ≡ no r
        → Breaks (every_comment gs n) s r × ((q : ℕ) → q < r → Breaks (every_comment gs n) s q → ⊥)
    refuses s r true is e = absurd (refused (sym e))
    refuses s r false is e =
        let seven : r ≡ 7 = cc in
        let (i, l, f) = uncovered gs n is in
        rw seven (alone i l (λ r. true≢false (sym (in_held gs i r.group r.member r.holds) ∙ f)), lowest s)
