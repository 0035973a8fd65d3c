-- Which entries are late: the tests and what they say.
use Rattle.std.specs.Prelude.{Some, None}
use Rattle.laws.proofs.Prelude.{◌≡◌, refl, sym, ap, ◌∙◌, Bool, true, false, false≢true, ◌||◌, or-true, inl, inr, ⊎_elim, List, [], ◌∷◌, Memᴰ}
use Rattle.laws.proofs.Prelude.{Memᴰ_head, Memᴰ_tail, Memᴰ_not_nil, Memᴰ_cases_cons, ℕ, arith, drop}
use mathlib.Core.List.Memᴰ
use Rattle.laws.specs.Ascii.{ascii}
use Rattle.text.specs.Bytes.{begins, same}
use Rattle.text.proofs.Words.{begins_sound, same_sound, same_refl}
use Rattle.report.specs.declared.names.StaticDependencyKind.{StaticDependencyKind}
use Rattle.report.specs.declared.names.StaticDependencyKind.TheVariants as statics
use Rattle.report.specs.ModuleInfo.{StaticDependencyDescriptor, DependencyDescriptor, static, dynamic}
use Rattle.sheet.specs.Shape.{is_relative}
use Rattle.delivery.specs.Asks.{LeftOut, Relative, Asks, left_out}
use Rattle.delivery.specs.{Order.among, Order.late_in, Right.EntryInOrder}

-- a text is among names exactly when it is a member
pub among_member : (x : List ℕ) (names : List (List ℕ)) → among x names ≡ true → Memᴰ x names
unfolding among
among_member x [] e = absurd (false≢true e)
among_member x (n ∷ names) e = by (same n x) refl e (among_member x names)
  where
    by : (b : Bool) → same n x ≡ b → (b || among x names) ≡ true → (among x names ≡ true → Memᴰ x names) → Memᴰ x (n ∷ names)
    by true h e rest = Memᴰ_head (sym (same_sound n x h))
    by false h e rest = Memᴰ_tail (rest e)

pub member_among : (x : List ℕ) (names : List (List ℕ)) → Memᴰ x names → among x names ≡ true
unfolding among
member_among x [] m = absurd (Memᴰ_not_nil m)
member_among x (n ∷ names) m =
    ⊎_elim (λ (e : x ≡ n). rw (ap (same n) e ∙ same_refl n)) (λ i. rw (member_among x names i) (or-true (same n x))) (Memᴰ_cases_cons m)

-- a kind is left out
left_out_lem : (kind : StaticDependencyKind) → left_out kind ≡ true → LeftOut kind
left_out_lem statics.Import e = absurd (false≢true e)
left_out_lem statics.ImportDefer e = absurd (false≢true e)
left_out_lem statics.ImportSource e = absurd (false≢true e)
left_out_lem statics.ImportType e = inl refl
left_out_lem statics.ImportEquals e = absurd (false≢true e)
left_out_lem statics.Export e = absurd (false≢true e)
left_out_lem statics.ExportType e = inr (inl refl)
left_out_lem statics.ExportEquals e = absurd (false≢true e)
left_out_lem statics.MaybeTsModuleAugmentation e = inr (inr refl)

out_left : {kind : StaticDependencyKind} → LeftOut kind → left_out kind ≡ true
out_left h = ⊎_elim (λ e. rw e) (λ h. ⊎_elim (λ e. rw e) (λ e. rw e) h) h

-- a text starts with `./`, `../` or `/`
is_relative_lem : (x : List ℕ) → is_relative x ≡ true → Relative x
is_relative_lem x e = by (begins (ascii "./") x) refl (begins (ascii "../") x) refl (begins (ascii "/") x) refl e
  where
    by : (a : Bool) → begins (ascii "./") x ≡ a → (b : Bool) → begins (ascii "../") x ≡ b → (c : Bool) → begins (ascii "/") x ≡ c → (a || b || c) ≡ true →
        Relative x
    by true p b q c r e = (drop 2 x, inl (begins_sound (ascii "./") x p))
    by false p true q c r e = (drop 3 x, inr (inl (begins_sound (ascii "../") x q)))
    by false p false q true r e = (drop 1 x, inr (inr (begins_sound (ascii "/") x r)))
    by false p false q false r e = absurd (false≢true e)

relative_is : (x : List ℕ) → Relative x → is_relative x ≡ true
unfolding begins
relative_is x (rest, inl e) = rw e
relative_is x (rest, inr (inl e)) = rw e
relative_is x (rest, inr (inr e)) = rw e

-- an entry asks for one text
module _ {d : StaticDependencyDescriptor} {x : List ℕ} (a : Asks (static d) x) where
  same_descriptor : d ≡ a.descriptor
  same_descriptor = let e = a.is_static in cc

  asks_text : d.specifier.text ≡ x
  asks_text = ap (λ (d : StaticDependencyDescriptor). d.specifier.text) same_descriptor ∙ a.specifier

asks_one : (d : DependencyDescriptor) {x y : List ℕ} → Asks d x → Asks d y → x ≡ y
asks_one (static d) a b = sym (asks_text a) ∙ asks_text b
asks_one (dynamic d) a b = let e = a.is_static in let z : ◌≡◌ {A = ℕ} 0 1 = cc in absurd (omega arith)

-- an entry is in order, or it is late
pub data LateOr (earlier : List (List ℕ)) (d : DependencyDescriptor) : Type 0 where
  fine : late_in earlier d ≡ None → EntryInOrder earlier d → LateOr earlier d
  late : (x : List ℕ) → late_in earlier d ≡ Some x → Asks d x → (Memᴰ x earlier → ⊥) → LateOr earlier d

pub late_or : (earlier : List (List ℕ)) (d : DependencyDescriptor) → LateOr earlier d
late_or earlier (dynamic d) = fine refl (λ x a. let e = a.is_static in let z : ◌≡◌ {A = ℕ} 0 1 = cc in absurd (omega arith))
late_or earlier (static d) = by (left_out d.kind) refl (is_relative x) refl (among x earlier) refl
  where
    x : List ℕ
    x = d.specifier.text

    by : (a : Bool) → left_out d.kind ≡ a → (b : Bool) → is_relative x ≡ b → (c : Bool) → among x earlier ≡ c → LateOr earlier (static d)
    by true p b q c r = fine (rw p) (λ y a. absurd (a.judged (rw (← (same_descriptor a)) (left_out_lem d.kind p))))
    by false p false q c r = fine (rw (p, q)) (λ y a. absurd (false≢true (sym q ∙ (rw (asks_text a) (relative_is y a.relative)))))
    by false p true q true r = fine (rw (p, q, r)) (λ y a. Memᴰ.cast (sym (asks_text a)) (among_member x earlier r))
    by false p true q false r =
        late x (rw (p, q, r))
        (record { descriptor = d; is_static = refl; judged = λ h. false≢true (sym p ∙ out_left h); specifier = refl; relative = is_relative_lem x q })
        (λ m. false≢true (sym r ∙ member_among x earlier m))

-- an entry in order is not late, and one that asks for no name is
pub in_time : {earlier : List (List ℕ)} (d : DependencyDescriptor) → EntryInOrder earlier d → late_in earlier d ≡ None
in_time {earlier} d o = by (late_or earlier d)
  where
    by : LateOr earlier d → late_in earlier d ≡ None
    by (fine e p) = e
    by (late x e a l) = absurd (l (o x a))

pub too_late : {earlier : List (List ℕ)} {d : DependencyDescriptor} {x : List ℕ} → Asks d x → (Memᴰ x earlier → ⊥) → late_in earlier d ≡ Some x
too_late {earlier} {d} {x} a l = by (late_or earlier d)
  where
    by : LateOr earlier d → late_in earlier d ≡ Some x
    by (fine e p) = absurd (l (p x a))
    by (late y e b m) = rw (asks_one d a b) e
