-- Keys in the order of their bytes, and a pair put in its place among them.
use Rattle.laws.proofs.Prelude.{◌≡◌, refl, sym, ap, ◌∙◌, ◌⊎◌, inl, inr, ⊎_elim, ◌↔◌, List, [], ◌∷◌, Memᴰ, Memᴰ_head}
use Rattle.laws.proofs.Prelude.{Memᴰ_tail, Memᴰ_not_nil, Memᴰ_cases_cons, ℕ}
use Rattle.std.specs.Cmp.{IsTotalOrder}
use Rattle.std.specs.Ordering.{ordering_reverse}
use Rattle.std.specs.declared.cmp.Ordering.{Ordering}
use Rattle.std.specs.declared.cmp.Ordering.TheVariants.{Less, Equal, Greater}
use Rattle.std.proofs.lemmas.Cmp.{nat_list_cmp_total}
use Rattle.text.{specs.Bytes.order, proofs.Words.order_is, proofs.Words.order_same}
use Rattle.report.specs.{Ascending.Ascends, ModuleInfo.KeyValue}
use Rattle.attributes.specs.Attributes.{placed, insert}

-- ---- the order, which is total as the library's is

pub order_total : IsTotalOrder order
order_total = record {
  antisymm = λ a b. order_is a b ∙ nat_list_cmp_total.antisymm a b ∙ ap ordering_reverse (sym (order_is b a));
  trans = λ a b c e f. order_is a c ∙ nat_list_cmp_total.trans a b c (sym (order_is a b) ∙ e) (sym (order_is b c) ∙ f);
  congr = λ a b c e. order_is a c ∙ nat_list_cmp_total.congr a b c (sym (order_is a b) ∙ e) ∙ sym (order_is b c);
}

-- what is greater one way is less the other way
order_flips : (a b : List ℕ) → order a b ≡ Greater → order b a ≡ Less
order_flips a b e = rw e at (order_total.antisymm b a)

-- what is less or greater is another text
pub less_apart : {a b : List ℕ} → order a b ≡ Less → a ≡ b → ⊥
less_apart {a} {b} e i =
    let less : order b b ≡ Less = rw i at e in
    let turned : Less ≡ Greater = rw less at (order_total.antisymm b b) in
    cc

greater_apart : {a b : List ℕ} → order a b ≡ Greater → a ≡ b → ⊥
greater_apart {a} {b} e i = less_apart {a = b} {b = a} (order_flips a b e) (sym i)

-- ---- a pair put in its place

abbrev pub InsertedIs : KeyValue → List KeyValue → KeyValue → Type 0
InsertedIs a l b = (b ≡ a) ⊎ (Memᴰ b l × (b.key ≡ a.key → ⊥))

pub insert_member : (a : KeyValue) (l : List KeyValue) → Ascends l → (b : KeyValue) → Memᴰ b (insert a l) ↔ InsertedIs a l b
unfolding insert
insert_member a [] h b = (λ m. ⊎_elim inl (λ i. absurd (Memᴰ_not_nil i)) (Memᴰ_cases_cons m), ⊎_elim Memᴰ_head (λ (i, n). Memᴰ_tail i))
insert_member a (c ∷ l) h b = by_order (order a.key c.key) refl (insert_member a l h.1 b)
  where
    by_order : (o : Ordering) → order a.key c.key ≡ o → Memᴰ b (insert a l) ↔ InsertedIs a l b →
        Memᴰ b (placed o a c l (insert a l)) ↔ InsertedIs a (c ∷ l) b
    by_order Less e k = (
      λ m. ⊎_elim inl (λ i. inr (i, λ j. later i (sym j))) (Memᴰ_cases_cons m),
      ⊎_elim Memᴰ_head (λ (i, n). Memᴰ_tail i),
    )
      where
        later : Memᴰ b (c ∷ l) → a.key ≡ b.key → ⊥
        later m =
            ⊎_elim
            (λ i. less_apart {a = a.key} {b = b.key} (rw i e))
            (λ i. less_apart {a = a.key} {b = b.key} (order_total.trans a.key c.key b.key e (h.0 b i)))
            (Memᴰ_cases_cons m)
    by_order Equal e k =
        let same = order_same a.key c.key e in (
          λ m. ⊎_elim inl (λ i. inr (Memᴰ_tail i, λ j. less_apart {a = c.key} {b = b.key} (h.0 b i) (cc))) (Memᴰ_cases_cons m),
          ⊎_elim Memᴰ_head (λ (i, n). ⊎_elim (λ j. absurd (n (cc))) Memᴰ_tail (Memᴰ_cases_cons i)),
        )
    by_order Greater e k = (
      λ m. ⊎_elim
          (λ i. inr (Memᴰ_head i, λ j. greater_apart {a = a.key} {b = c.key} e (cc)))
          (λ i. ⊎_elim inl (λ (j, n). inr (Memᴰ_tail j, n)) (k.0 i))
          (Memᴰ_cases_cons m),
      ⊎_elim (λ i. Memᴰ_tail (k.1 (inl i))) (λ (i, n). ⊎_elim Memᴰ_head (λ j. Memᴰ_tail (k.1 (inr (j, n)))) (Memᴰ_cases_cons i)),
    )

pub insert_ascends : (a : KeyValue) (l : List KeyValue) → Ascends l → Ascends (insert a l)
unfolding insert
insert_ascends a [] h = (λ b m. absurd (Memᴰ_not_nil m), tt)
insert_ascends a (c ∷ l) h = by_order (order a.key c.key) refl (insert_ascends a l h.1)
  where
    by_order : (o : Ordering) → order a.key c.key ≡ o → Ascends (insert a l) → Ascends (placed o a c l (insert a l))
    by_order Less e f = (λ b m. ⊎_elim (λ i. rw i e) (λ i. order_total.trans a.key c.key b.key e (h.0 b i)) (Memᴰ_cases_cons m), h)
    by_order Equal e f = let same = order_same a.key c.key e in (λ b m. rw same (h.0 b m), h.1)
    by_order Greater e f = (λ b m. ⊎_elim (λ i. rw i (order_flips a.key c.key e)) (λ (i, n). h.0 b i) ((insert_member a l h.1 b).0 m), f)

-- the keys that are there then
pub record HasKey (k : List ℕ) (l : List KeyValue) : Type 0 where
  pub pair : KeyValue
  pub among : Memᴰ pair l
  pub its_key : pair.key ≡ k

pub insert_keys : (a : KeyValue) (l : List KeyValue) → Ascends l → (k : List ℕ) → HasKey k (insert a l) ↔ ((a.key ≡ k) ⊎ HasKey k l)
insert_keys a l h k = (
  λ q. ⊎_elim (λ i. inl (sym (ap (λ (b : KeyValue). b.key) i) ∙ q.its_key)) (λ (i, n). inr (record { pair = q.pair; among = i; its_key = q.its_key }))
      ((insert_member a l h q.pair).0 q.among),
  ⊎_elim own (λ q. by_order q (order q.pair.key a.key) refl),
)
  where
    own : a.key ≡ k → HasKey k (insert a l)
    own e = record { pair = a; among = (insert_member a l h a).1 (inl refl); its_key = e }

    stays : (q : HasKey k l) → (q.pair.key ≡ a.key → ⊥) → HasKey k (insert a l)
    stays q n = record { pair = q.pair; among = (insert_member a l h q.pair).1 (inr (q.among, n)); its_key = q.its_key }

    by_order : (q : HasKey k l) (o : Ordering) → order q.pair.key a.key ≡ o → HasKey k (insert a l)
    by_order q Less e = stays q (less_apart {a = q.pair.key} {b = a.key} e)
    by_order q Equal e = own (sym (order_same q.pair.key a.key e) ∙ q.its_key)
    by_order q Greater e = stays q (greater_apart {a = q.pair.key} {b = a.key} e)
