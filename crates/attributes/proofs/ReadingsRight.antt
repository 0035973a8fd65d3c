-- The readings from the front give the attributes that they should.
use Rattle.std.specs.Prelude.{Some, None}
use Rattle.laws.proofs.Prelude.{◌≡◌, refl, sym, ap, ◌∙◌, Bool, true, false, cond, not, ◌&&◌, ◌||◌, false≢true, ◌⊎◌, inl, inr, ⊎_elim, ◌↔◌, List, [], ◌∷◌}
use Rattle.laws.proofs.Prelude.{◌++◌, Memᴰ, Memᴰ_head, Memᴰ_tail, Memᴰ_not_nil, Memᴰ_cases_cons, ℕ, ◌≤◌, arith, length}
use Rattle.laws.proofs.Prelude.{length-append}
use mathlib.Core.List.Memᴰ
use Rattle.laws.proofs.Lists.{middle_member}
use Rattle.text.{specs.Bytes.same, specs.Lossy.exact, proofs.Words.same_sound, proofs.Words.same_refl}
use Rattle.sheet.specs.Shape.{Shape, text, named, pieces, operation, properties, anything, shape}
use Rattle.sheet.specs.Tree.{Arguments, no_arguments, argument, Properties, Attributes, without, with_object}
use Rattle.report.specs.Ascending.{Ascends}
use Rattle.report.specs.ModuleInfo.{ImportAttribute, KeyValue, ImportAttributes, none, unknown, known}
use Rattle.attributes.specs.Attributes.{insert, value_of, Prop, keyless, keyed, props, insert_known, static_pairs, static_attributes, object_attributes}
use Rattle.attributes.specs.Attributes.{type_attributes, of_object, on_known, argument_properties, dynamic_attributes}
use Rattle.attributes.specs.Right.{IsString, Any, Value, SomeOf, NoneOf, LastOf, here, behind, PairsOf, StaticOf, ObjectOf, TypeOf, Holds, with'}
use Rattle.attributes.specs.Right.{assert', Asserted, Counting, Readable, SecondOf, DynamicOf}
use Rattle.attributes.proofs.Ascending.{less_apart, insert_member, insert_ascends, HasKey, insert_keys}

-- ---- values

value_of_lem : (v : Shape) → Value v (value_of v)
value_of_lem (text x) = go (exact x) refl
  where
    go : (b : Bool) → exact x ≡ b → Value (text x) (cond b (Some x) None)
    go true e = (refl, e)
    go false e = λ (y, i, f). let same : x ≡ y = cc in false≢true (sym e ∙ rw same f)
value_of_lem (named x) = λ (y, i, f). let z : ◌≡◌ {A = ℕ} 0 1 = cc in absurd (omega arith)
value_of_lem (pieces ps) = λ (y, i, f). let z : ◌≡◌ {A = ℕ} 0 1 = cc in absurd (omega arith)
value_of_lem (operation plus l r) = λ (y, i, f). let z : ◌≡◌ {A = ℕ} 0 1 = cc in absurd (omega arith)
value_of_lem (properties ps) = λ (y, i, f). let z : ◌≡◌ {A = ℕ} 0 1 = cc in absurd (omega arith)
value_of_lem anything = λ (y, i, f). let z : ◌≡◌ {A = ℕ} 0 1 = cc in absurd (omega arith)

-- a value is reported in one way only
one_value : (v : Shape) (a b : ImportAttribute) → Value v a → Value v b → a ≡ b
one_value v None None p q = refl
one_value v None (Some y) p q = absurd (p (y, q.0, q.1))
one_value v (Some x) None p q = absurd (q (x, p.0, p.1))
one_value v (Some x) (Some y) p q = let same : x ≡ y = cc in rw same

pair_is : (b : KeyValue) {k : List ℕ} {x : ImportAttribute} → b.key ≡ k → b.value ≡ x → b ≡ record { key = k; value = x }
pair_is b e f = rw (← e, ← f)

-- ---- pairs, from those that were found before

module _ (Counts : Shape → Type 0) where
  last_cases : {k : List ℕ} {v : Shape} {e : Prop} {es : List Prop} → LastOf Counts k v (e ∷ es) →
      ((keyed k v ≡ e) × Counts v × NoneOf Counts k es) ⊎ LastOf Counts k v es
  last_cases (here i c n) = inl (i, c, n)
  last_cases (behind l) = inr l

  no_last : {k : List ℕ} {v : Shape} → LastOf Counts k v [] → ⊥
  no_last l = elim l [ ]

  abbrev OfLast : List Prop → KeyValue → Type 0
  OfLast es a = (v : Shape) × LastOf Counts a.key v es × Value v a.value

  -- r is l and what the properties add
  record Made (l : List KeyValue) (es : List Prop) (r : List KeyValue) : Type 0 where
    ascend : Ascends r
    each : (a : KeyValue) → Memᴰ a r ↔ (OfLast es a ⊎ (Memᴰ a l × NoneOf Counts a.key es))
    keys : (k : List ℕ) → HasKey k r ↔ (SomeOf Counts k es ⊎ HasKey k l)

  made_none : {l : List KeyValue} → Ascends l → Made l [] l
  made_none up = record {
    ascend = up;
    each = λ a. (λ m. inr (m, λ (v, c, i). Memᴰ_not_nil i), ⊎_elim (λ (v, l, x). absurd (no_last l)) (λ (m, n). m));
    keys = λ k. (λ q. inr q, ⊎_elim (λ (v, c, i). absurd (Memᴰ_not_nil i)) (λ q. q));
  }

  -- a property that does not count
  passes : {e : Prop} → ((k : List ℕ) (v : Shape) → Counts v → keyed k v ≡ e → ⊥) → {l r : List KeyValue} {es : List Prop} → Made l es r → Made l (e ∷ es) r
  passes {e} unseen {l} {r} {es} m = record {
    ascend = m.ascend;
    each = λ a. (
      λ i. ⊎_elim (λ (v, x, y). inl (v, behind x, y)) (λ (j, n). inr (j, λ s. n (shorter s))) ((m.each a).0 i),
      λ o. (m.each a).1 (⊎_elim (λ (v, x, y). inl (v, ⊎_elim (λ (i, c, n). absurd (unseen a.key v c i)) (λ x. x) (last_cases x), y))
          (λ (j, n). inr (j, λ s. n (longer s))) o),
    );
    keys = λ k. (
      λ q. ⊎_elim (λ s. inl (longer s)) (λ q. inr q) ((m.keys k).0 q),
      λ o. (m.keys k).1 (⊎_elim (λ s. inl (shorter s)) (λ q. inr q) o),
    );
  }
    where
      longer : {k : List ℕ} → SomeOf Counts k es → SomeOf Counts k (e ∷ es)
      longer (v, c, i) = (v, c, Memᴰ_tail i)

      shorter : {k : List ℕ} → SomeOf Counts k (e ∷ es) → SomeOf Counts k es
      shorter {k} (v, c, i) = (v, c, ⊎_elim (λ j. absurd (unseen k v c j)) (λ j. j) (Memᴰ_cases_cons i))

  -- one that counts
  puts : {k : List ℕ} {v : Shape} (x : ImportAttribute) → Counts v → Value v x → {l r : List KeyValue} {es : List Prop} → Ascends l
      → Made (insert (record { key = k; value = x }) l) es r → Made l (keyed k v ∷ es) r
  puts {k} {v} x counts is {l} {r} {es} up m = record {
    ascend = m.ascend;
    each = λ b. (λ i. ⊎_elim (λ (w, y, z). inl (w, behind y, z)) (λ (j, n). on b n ((added b).0 j)) ((m.each b).0 i), λ o. (m.each b).1 (back b o));
    keys = λ q. (
      λ h. ⊎_elim (λ s. inl (longer s)) (λ h. ⊎_elim (λ i. inl (own i)) (λ h. inr h) ((put_keys q).0 h)) ((m.keys q).0 h),
      λ o. (m.keys q).1 (⊎_elim (λ s. ⊎_elim (λ s. inl s) (λ i. inr ((put_keys q).1 (inl i))) (split s)) (λ h. inr ((put_keys q).1 (inr h))) o),
    );
  }
    where
      a : KeyValue
      a = record { key = k; value = x }

      added : (b : KeyValue) → Memᴰ b (insert a l) ↔ ((b ≡ a) ⊎ (Memᴰ b l × (b.key ≡ k → ⊥)))
      added b = insert_member a l up b

      put_keys : (q : List ℕ) → HasKey q (insert a l) ↔ ((k ≡ q) ⊎ HasKey q l)
      put_keys q = insert_keys a l up q

      longer : {q : List ℕ} → SomeOf Counts q es → SomeOf Counts q (keyed k v ∷ es)
      longer (w, c, i) = (w, c, Memᴰ_tail i)

      own : {q : List ℕ} → k ≡ q → SomeOf Counts q (keyed k v ∷ es)
      own e = (v, counts, Memᴰ_head (ap (λ (q : List ℕ). keyed q v) (sym e)))

      split : {q : List ℕ} → SomeOf Counts q (keyed k v ∷ es) → SomeOf Counts q es ⊎ (k ≡ q)
      split {q} (w, c, i) = ⊎_elim (λ (j : keyed q w ≡ keyed k v). inr (cc)) (λ j. inl (w, c, j)) (Memᴰ_cases_cons i)

      on : (b : KeyValue) → NoneOf Counts b.key es → (b ≡ a) ⊎ (Memᴰ b l × (b.key ≡ k → ⊥))
          → OfLast (keyed k v ∷ es) b ⊎ (Memᴰ b l × NoneOf Counts b.key (keyed k v ∷ es))
      on b n (inl e) = inl (rw e (v, here refl counts (rw e at n), is))
      on b n (inr (j, differs)) = inr (j, λ s. ⊎_elim n (λ e. differs (sym e)) (split s))

      back : (b : KeyValue) → OfLast (keyed k v ∷ es) b ⊎ (Memᴰ b l × NoneOf Counts b.key (keyed k v ∷ es))
          → OfLast es b ⊎ (Memᴰ b (insert a l) × NoneOf Counts b.key es)
      back b (inl (w, y, z)) =
          ⊎_elim
          (λ (i, c, n).
          let key : b.key ≡ k = cc in
          let shape : w ≡ v = cc in
          let value : b.value ≡ x = one_value v b.value x (rw shape at z) is in
          inr ((added b).1 (inl (pair_is b key value)), n))
          (λ y. inl (w, y, z))
          (last_cases y)
      back b (inr (j, n)) = inr ((added b).1 (inr (j, λ e. n (own (sym e)))), λ s. n (longer s))

  -- with nothing before them
  pairs_of : {es : List Prop} {r : List KeyValue} → Made [] es r → PairsOf Counts es r
  pairs_of m = record {
    ascend = m.ascend;
    each = λ a. (λ i. ⊎_elim (λ o. o) (λ (j, n). absurd (Memᴰ_not_nil j)) ((m.each a).0 i), λ o. (m.each a).1 (inl o));
    keys = λ k. (
      λ (a, i, e). ⊎_elim (λ s. s) (λ q. absurd (Memᴰ_not_nil q.among)) ((m.keys k).0 (record { pair = a; among = i; its_key = e })),
      λ s. let q = (m.keys k).1 (inl s) in (q.pair, q.among, q.its_key),
    );
  }

-- there are no more of them than properties
member_split : {A : Type 0} {a : A} {l : List A} → Memᴰ a l → (front : List A) × (back : List A) × (l ≡ front ++ a ∷ back)
member_split (Memᴰ_head {xs = xs} e) = ([], xs, rw e)
member_split (Memᴰ_tail {x = x} m) = let (front, back, e) = member_split m in (x ∷ front, back, ap (x ∷◌) e)

few : (l : List KeyValue) (es : List Prop) → Ascends l → ((a : KeyValue) → Memᴰ a l → (v : Shape) × Memᴰ (keyed a.key v) es) → length l ≤ length es
few [] es up in_them = omega arith
few (a ∷ l) es up in_them =
    let (v, m) = in_them a (Memᴰ_head refl) in
    let (front, back, e) = member_split m in
    let more = few l (front ++ back) up.1 (λ b i. let (w, j) = in_them b (Memᴰ_tail i) in (w, others b v w front back i (rw e at j))) in
    omega (arith, ap length e, length-append front (keyed a.key v ∷ back), length-append front back)
  where
    others : (b : KeyValue) (v w : Shape) (front back : List Prop) → Memᴰ b l → Memᴰ (keyed b.key w) (front ++ keyed a.key v ∷ back) →
        Memᴰ (keyed b.key w) (front ++ back)
    others b v w front back i m =
        ⊎_elim (Memᴰ.append_left back)
        (λ m. ⊎_elim (λ (j : keyed b.key w ≡ keyed a.key v). absurd (less_apart {a = a.key} {b = b.key} (up.0 b i) (cc))) (Memᴰ.append_right front)
        (Memᴰ_cases_cons m))
        (Memᴰ.append_cases front m)

pub last_among : {Counts : Shape → Type 0} {k : List ℕ} {v : Shape} {es : List Prop} → LastOf Counts k v es → Memᴰ (keyed k v) es
last_among (here e c n) = Memᴰ_head e
last_among (behind l) = Memᴰ_tail (last_among l)

pub pairs_few : {Counts : Shape → Type 0} {es : List Prop} {l : List KeyValue} → PairsOf Counts es l → length l ≤ length es
pairs_few {es = es} {l = l} p = few l es p.ascend (λ a i. let (v, last, x) = (p.each a).0 i in (v, last_among last))

unkeyed : {k : List ℕ} {v : Shape} → keyed k v ≡ keyless → ⊥
unkeyed e = let z : ◌≡◌ {A = ℕ} 0 1 = cc in omega arith

-- ---- static attributes

static_made : (l : List KeyValue) (es : List Prop) → Ascends l → Made IsString l es (static_pairs l es)
unfolding static_pairs
static_made l [] up = made_none IsString up
static_made l (keyless ∷ es) up = passes IsString (λ k v c e. unkeyed e) (static_made l es up)
static_made l (keyed k v ∷ es) up = by_value (value_of v) (value_of_lem v) (λ l up. static_made l es up)
  where
    by_value : (x : ImportAttribute) → Value v x → ((l : List KeyValue) → Ascends l → Made IsString l es (static_pairs l es))
        → Made IsString l (keyed k v ∷ es) (static_pairs (insert_known k x l) es)
    by_value None is more = passes IsString (λ j w c (e : keyed j w ≡ keyed k v). let same : w ≡ v = cc in is (rw same at c)) (more l up)
    by_value (Some x) is more =
        let a : KeyValue = record { key = k; value = Some x } in
        puts IsString (Some x) (x, is.0, is.1) is up (more (insert a l) (insert_ascends a l up))

pub static_right : (a : Attributes) → StaticOf a (static_attributes a)
unfolding static_attributes
static_right without = StaticOf.no_object
static_right (with_object sp ps) = StaticOf.pairs (pairs_of IsString (static_made [] (props ps) tt))

-- ---- an Object of an import type or a dynamic import

data ObjectMade (l : List KeyValue) (es : List Prop) : ImportAttributes → Type 0 where
  unreadable : Memᴰ keyless es → ObjectMade l es unknown
  made : {r : List KeyValue} → (Memᴰ keyless es → ⊥) → Made Any l es r → ObjectMade l es (known r)

object_made : (l : List KeyValue) (es : List Prop) → Ascends l → ObjectMade l es (object_attributes l es)
unfolding object_attributes
object_made l [] up = ObjectMade.made Memᴰ_not_nil (made_none Any up)
object_made l (keyless ∷ es) up = ObjectMade.unreadable (Memᴰ_head refl)
object_made l (keyed k v ∷ es) up =
    let a : KeyValue = record { key = k; value = value_of v } in
    go (object_made (insert a l) es (insert_ascends a l up))
  where
    go : {x : ImportAttributes} → ObjectMade (insert (record { key = k; value = value_of v }) l) es x → ObjectMade l (keyed k v ∷ es) x
    go (ObjectMade.unreadable i) = ObjectMade.unreadable (Memᴰ_tail i)
    go (ObjectMade.made n m) =
        ObjectMade.made
        (λ i. ⊎_elim (λ (e : keyless ≡ keyed k v). unkeyed (sym e)) n (Memᴰ_cases_cons i))
        (puts Any (value_of v) tt (value_of_lem v) up m)

pub object_right : (es : List Prop) → ObjectOf es (object_attributes [] es)
object_right es = go (object_made [] es tt)
  where
    go : {x : ImportAttributes} → ObjectMade [] es x → ObjectOf es x
    go (ObjectMade.unreadable i) = ObjectOf.unreadable i
    go (ObjectMade.made n m) = ObjectOf.pairs n (pairs_of Any m)

pub type_right : (a : Attributes) → TypeOf a (type_attributes a)
unfolding type_attributes
type_right without = TypeOf.no_object
type_right (with_object sp ps) = TypeOf.object (object_right (props ps))

-- ---- the second argument of a dynamic import

-- a value that is to hold attributes
abbrev held : Shape → ImportAttributes
held v = of_object (object_attributes []) v

of_object_lem : (P : Shape → ImportAttributes → Type 0) (of : List Prop → ImportAttributes) → ((ps : Properties) → P (properties ps) (of (props ps)))
    → ((v : Shape) → ((ps : Properties) → v ≡ properties ps → ⊥) → P v unknown) → (v : Shape) → P v (of_object of v)
of_object_lem P of object other (text x) = other (text x) (λ ps e. let z : ◌≡◌ {A = ℕ} 0 1 = cc in omega arith)
of_object_lem P of object other (named x) = other (named x) (λ ps e. let z : ◌≡◌ {A = ℕ} 0 1 = cc in omega arith)
of_object_lem P of object other (pieces ps) = other (pieces ps) (λ qs e. let z : ◌≡◌ {A = ℕ} 0 1 = cc in omega arith)
of_object_lem P of object other (operation plus l r) = other (operation plus l r) (λ ps e. let z : ◌≡◌ {A = ℕ} 0 1 = cc in omega arith)
of_object_lem P of object other (properties ps) = object ps
of_object_lem P of object other anything = other anything (λ ps e. let z : ◌≡◌ {A = ℕ} 0 1 = cc in omega arith)

holds : (v : Shape) → Holds v (held v)
holds = of_object_lem Holds (object_attributes []) (λ ps. Holds.object refl (object_right (props ps))) (λ v n. Holds.other n)

keyless_unknown : (l : List KeyValue) (es : List Prop) → Memᴰ keyless es → object_attributes l es ≡ unknown
unfolding object_attributes
keyless_unknown l [] i = absurd (Memᴰ_not_nil i)
keyless_unknown l (keyless ∷ es) i = refl
keyless_unknown l (keyed k v ∷ es) i =
    ⊎_elim (λ (e : keyless ≡ keyed k v). absurd (unkeyed (sym e))) (keyless_unknown (insert (record { key = k; value = value_of v }) l) es) (Memᴰ_cases_cons i)

-- what is unknown is nothing else
held_unknown : {v : Shape} → Holds v unknown → held v ≡ unknown
held_unknown {v} (Holds.object {ps = ps} e (ObjectOf.unreadable i)) = rw e (keyless_unknown [] (props ps) i)
held_unknown {v} (Holds.other n) = of_object_lem (λ v a. ((ps : Properties) → v ≡ properties ps → ⊥) → a ≡ unknown) (object_attributes [])
    (λ ps m. absurd (m ps refl)) (λ v m k. refl) v n

never_none : {v : Shape} → Holds v none → ⊥
never_none (Holds.object e o) = elim o [ ]

never_both : {v : Shape} {l : List KeyValue} → held v ≡ known l → Holds v unknown → ⊥
never_both e h = let u = held_unknown h in let z : ◌≡◌ {A = ℕ} 0 1 = cc in omega arith

other_keys : with' ≡ assert' → ⊥
other_keys e = let n : ◌≡◌ {A = ℕ} 4 6 = ap length e in omega arith

-- where it is known whether a `with` stands before
abbrev CountingIf : Bool → Shape → List Prop → Type 0
CountingIf had v es = Memᴰ (keyed with' v) es ⊎ ((had ≡ false) × Asserted v es)

record ReadableIf (had : Bool) (es : List Prop) : Type 0 where
  keys : Memᴰ keyless es → ⊥
  values : (v : Shape) → CountingIf had v es → Holds v unknown → ⊥

data From (had : Bool) (found : ImportAttributes) (es : List Prop) : ImportAttributes → Type 0 where
  unreadable : Memᴰ keyless es → From had found es unknown
  unknown_value : {v : Shape} → CountingIf had v es → Holds v unknown → From had found es unknown
  kept : ReadableIf had es → NoneOf Any with' es → (had ≡ false → NoneOf Any assert' es) → From had found es found
  last_with : {v : Shape} {l : List KeyValue} → ReadableIf had es → LastOf Any with' v es → Holds v (known l) → From had found es (known l)
  last_assert : {v : Shape} {l : List KeyValue} → ReadableIf had es → had ≡ false → NoneOf Any with' es → LastOf Any assert' v es → Holds v (known l) →
      From had found es (known l)

-- a property in front
same_key : {q k : List ℕ} {w v : Shape} → keyed q w ≡ keyed k v → q ≡ k
same_key i = cc

none_longer : {q k : List ℕ} {v : Shape} {es : List Prop} → (q ≡ k → ⊥) → NoneOf Any q es → NoneOf Any q (keyed k v ∷ es)
none_longer n absent (w, c, i) = ⊎_elim (λ j. n (same_key j)) (λ j. absent (w, c, j)) (Memᴰ_cases_cons i)

module _ {k : List ℕ} {v : Shape} {es : List Prop} where
  readable_key : (Memᴰ keyless es → ⊥) → Memᴰ keyless (keyed k v ∷ es) → ⊥
  readable_key n i = ⊎_elim (λ (j : keyless ≡ keyed k v). unkeyed (sym j)) n (Memᴰ_cases_cons i)

  asserted_cases : {w : Shape} → Asserted w (keyed k v ∷ es) → (keyed assert' w ≡ keyed k v) ⊎ ((with' ≡ k → ⊥) × Asserted w es)
  asserted_cases {w} a = go a.front a.among a.no_with
    where
      go : (front : List Prop) → keyed k v ∷ es ≡ front ++ keyed assert' w ∷ a.back → NoneOf Any with' front →
          (keyed assert' w ≡ keyed k v) ⊎ ((with' ≡ k → ⊥) × Asserted w es)
      go [] i n = inl (cc)
      go (f ∷ front) i n =
          let first : f ≡ keyed k v = cc in
          let rest : es ≡ front ++ keyed assert' w ∷ a.back = cc in
          inr (
            λ j. n (v, tt, Memᴰ_head (ap (λ (q : List ℕ). keyed q v) j ∙ sym first)),
            record { front = front; back = a.back; among = rest; no_with = λ (x, c, m). n (x, c, Memᴰ_tail m) },
          )

  asserted_longer : {w : Shape} → (with' ≡ k → ⊥) → Asserted w es → Asserted w (keyed k v ∷ es)
  asserted_longer n a =
      record { front = keyed k v ∷ a.front; back = a.back; among = ap (λ (l : List Prop). keyed k v ∷ l) a.among; no_with = none_longer n a.no_with }

  -- that is no `with`
  module _ (had : Bool) (n : with' ≡ k → ⊥) where
    counting_longer : {w : Shape} → CountingIf had w es → CountingIf had w (keyed k v ∷ es)
    counting_longer (inl i) = inl (Memᴰ_tail i)
    counting_longer (inr (f, a)) = inr (f, asserted_longer n a)

    readable_other : ((w : Shape) → had ≡ false → keyed assert' w ≡ keyed k v → Holds w unknown → ⊥) → ReadableIf had es → ReadableIf had (keyed k v ∷ es)
    readable_other own r = record { keys = readable_key r.keys; values = values }
      where
        values : (w : Shape) → CountingIf had w (keyed k v ∷ es) → Holds w unknown → ⊥
        values w (inl i) h = ⊎_elim (λ j. n (same_key j)) (λ j. r.values w (inl j) h) (Memᴰ_cases_cons i)
        values w (inr (f, a)) h = ⊎_elim (λ j. own w f j h) (λ (m, b). r.values w (inr (f, b)) h) (asserted_cases a)

    -- that does not count
    passed_over : (had ≡ false → assert' ≡ k → ⊥) → {found x : ImportAttributes} → From had found es x → From had found (keyed k v ∷ es) x
    passed_over m f = go f
      where
        r' : ReadableIf had es → ReadableIf had (keyed k v ∷ es)
        r' = readable_other (λ w f j h. m f (same_key j))

        go : {found x : ImportAttributes} → From had found es x → From had found (keyed k v ∷ es) x
        go (From.unreadable i) = From.unreadable (Memᴰ_tail i)
        go (From.unknown_value c h) = From.unknown_value (counting_longer c) h
        go (From.kept r p q) = From.kept (r' r) (none_longer n p) (λ f. none_longer (m f) (q f))
        go (From.last_with r l h) = From.last_with (r' r) (behind l) h
        go (From.last_assert r f p l h) = From.last_assert (r' r) f (none_longer n p) (behind l) h

-- an `assert` that no `with` stands before
asserts : {v : Shape} {es : List Prop} {found : ImportAttributes} (l : List KeyValue) → held v ≡ known l → Holds v (known l) → {x : ImportAttributes} →
    From false (known l) es x → From false found (keyed assert' v ∷ es) x
asserts {v} {es} {found} l is h f = go f
  where
    r' : ReadableIf false es → ReadableIf false (keyed assert' v ∷ es)
    r' = readable_other false other_keys (λ w f (j : keyed assert' w ≡ keyed assert' v) u. let same : w ≡ v = cc in never_both is (rw same at u))

    go : {x : ImportAttributes} → From false (known l) es x → From false found (keyed assert' v ∷ es) x
    go (From.unreadable i) = From.unreadable (Memᴰ_tail i)
    go (From.unknown_value c u) = From.unknown_value (counting_longer false other_keys c) u
    go (From.kept r p q) = From.last_assert (r' r) refl (none_longer other_keys p) (here refl tt (q refl)) h
    go (From.last_with r k u) = From.last_with (r' r) (behind k) u
    go (From.last_assert r e p k u) = From.last_assert (r' r) e (none_longer other_keys p) (behind k) u

-- a `with`
withs : {had : Bool} {v : Shape} {es : List Prop} {found : ImportAttributes} (l : List KeyValue) → held v ≡ known l → Holds v (known l) →
    {x : ImportAttributes} → From true (known l) es x → From had found (keyed with' v ∷ es) x
withs {had} {v} {es} {found} l is h f = go f
  where
    r' : ReadableIf true es → ReadableIf had (keyed with' v ∷ es)
    r' r = record { keys = readable_key r.keys; values = values }
      where
        values : (w : Shape) → CountingIf had w (keyed with' v ∷ es) → Holds w unknown → ⊥
        values w (inl i) u =
            ⊎_elim (λ (j : keyed with' w ≡ keyed with' v). let same : w ≡ v = cc in never_both is (rw same at u)) (λ j. r.values w (inl j) u)
            (Memᴰ_cases_cons i)
        values w (inr (f, a)) u = ⊎_elim (λ (j : keyed assert' w ≡ keyed with' v). other_keys (cc)) (λ (n, b). n refl) (asserted_cases a)

    go : {x : ImportAttributes} → From true (known l) es x → From had found (keyed with' v ∷ es) x
    go (From.unreadable i) = From.unreadable (Memᴰ_tail i)
    go (From.unknown_value (inl i) u) = From.unknown_value (inl (Memᴰ_tail i)) u
    go (From.unknown_value (inr (f, a)) u) = absurd (false≢true (sym f))
    go (From.kept r p q) = From.last_with (r' r) (here refl tt p) h
    go (From.last_with r k u) = From.last_with (r' r) (behind k) u
    go (From.last_assert r f p k u) = absurd (false≢true (sym f))

second_from : (had : Bool) (found : ImportAttributes) (es : List Prop) → From had found es (argument_properties had found es)
unfolding argument_properties
second_from had found [] = From.kept (record { keys = Memᴰ_not_nil; values = none_counts }) (λ (v, c, i). Memᴰ_not_nil i)
    (λ f (v, c, i). Memᴰ_not_nil i)
  where
    none_counts : (v : Shape) → CountingIf had v [] → Holds v unknown → ⊥
    none_counts v (inl i) h = Memᴰ_not_nil i
    none_counts v (inr (f, a)) h = let m = middle_member a.front a.back a.among in Memᴰ_not_nil m
second_from had found (keyless ∷ es) = From.unreadable (Memᴰ_head refl)
second_from had found (keyed k v ∷ es) = by_with had (same k with') refl (same k assert') refl (λ had found. second_from had found es)
  where
    rest : Bool → ImportAttributes → ImportAttributes
    rest had found = argument_properties had found es

    on : (is_with had : Bool) → ((l : List KeyValue) → held v ≡ known l → Holds v (known l) → From had found (keyed k v ∷ es) (rest is_with (known l)))
        → (Holds v unknown → From had found (keyed k v ∷ es) unknown) → (a : ImportAttributes) → held v ≡ a → Holds v a
        → From had found (keyed k v ∷ es) (on_known (rest is_with) a)
    on is_with had more unclear none i h = absurd (never_none h)
    on is_with had more unclear unknown i h = unclear h
    on is_with had more unclear (known l) i h = more l i h

    differs : (w : List ℕ) → same k w ≡ false → w ≡ k → ⊥
    differs w e i = false≢true (sym e ∙ rw i (same_refl k))

    by_with : (had is_with : Bool) → same k with' ≡ is_with → (is_assert : Bool) → same k assert' ≡ is_assert →
        ((had : Bool) (found : ImportAttributes) → From had found es (rest had found))
        → From had found (keyed k v ∷ es) (cond (is_with || (is_assert && not had)) (on_known (rest is_with) (held v)) (rest had found))
    by_with had true e is_assert f more =
        let key : k ≡ with' = same_sound k with' e in
        on true had
        (λ l i h. rw key (withs l i h (more true (known l))))
        (λ h. From.unknown_value {v = v} (inl (Memᴰ_head (ap (λ (q : List ℕ). keyed q v) (sym key)))) h)
        (held v) refl (holds v)
    by_with had false e false f more = passed_over had (differs with' e) (λ g. differs assert' f) (more had found)
    by_with true false e true f more = passed_over true (differs with' e) (λ g. absurd (false≢true (sym g))) (more true found)
    by_with false false e true f more =
        let key : k ≡ assert' = same_sound k assert' f in
        on false false
        (λ l i h. rw key (asserts l i h (more false (known l))))
        (λ h. From.unknown_value {v = v} (inr (refl, record { front = []; back = es; among = rw key; no_with = λ (w, c, i). Memᴰ_not_nil i })) h)
        (held v) refl (holds v)

second_right : (es : List Prop) → SecondOf es (argument_properties false none es)
second_right es = go (second_from false none es)
  where
    r' : ReadableIf false es → Readable es
    r' r = record { keys = r.keys; values = λ v c. r.values v (⊎_elim inl (λ a. inr (refl, a)) c) }

    counting : {v : Shape} → CountingIf false v es → Counting v es
    counting (inl i) = inl i
    counting (inr (f, a)) = inr a

    go : {x : ImportAttributes} → From false none es x → SecondOf es x
    go (From.unreadable i) = SecondOf.unreadable i
    go (From.unknown_value c h) = SecondOf.unknown_value (counting c) h
    go (From.kept r p q) = SecondOf.neither (r' r) p (q refl)
    go (From.last_with r l h) = SecondOf.last_with (r' r) l h
    go (From.last_assert r f p l h) = SecondOf.last_assert (r' r) p l h

pub dynamic_right : (xs : Arguments) → DynamicOf xs (dynamic_attributes xs)
unfolding dynamic_attributes
dynamic_right no_arguments = DynamicOf.no_second
dynamic_right (argument dots at n xs) = by_dots dots refl
  where
    by_dots : (b : Bool) → dots ≡ b → DynamicOf (argument dots at n xs) (cond b unknown (of_object (argument_properties false none) (shape n)))
    by_dots true e = DynamicOf.spread e
    by_dots false e =
        of_object_lem (λ v a. shape n ≡ v → DynamicOf (argument dots at n xs) a) (argument_properties false none)
        (λ ps i. DynamicOf.object e i (second_right (props ps)))
        (λ v m i. DynamicOf.no_object (λ ps j. m ps (sym i ∙ j)))
        (shape n) refl
