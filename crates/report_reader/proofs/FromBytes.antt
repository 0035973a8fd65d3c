-- What a report's fields read as, from the bytes that stand for them.
use Rattle.std.specs.Prelude.{not, Some, None, Ok, Err, MatchOption, unwrap_or}
use Rattle.std.specs.{Borrow.Bor, Result.result_unwrap_or, List.IsSplitAt}
use Rattle.laws.proofs.Prelude.{◌≡◌, refl, sym, ap, ◌∙◌, Bool, true, false, List, ◌∷◌, ◌++◌, append_assoc, Option, ℕ, ◌≤◌, ◌<◌, arith, length, take}
use Rattle.laws.proofs.Prelude.{drop, length-append, take-append_seam, drop-append_seam, eqb, lt-ltb}
use Rattle.laws.{specs.Decoded.ok, specs.Decoded.no, specs.Codec.IfThere, proofs.Decoding.refused}
use Rattle.wire.{specs.Fields.encode_flag, specs.Fields.value_of, specs.Text.encode_text, specs.Optional.encode_optional, proofs.NumberCodec.number_codec}
use Rattle.wire.specs.code.Views.{ReadResult, read_as}
use Rattle.wire.specs.Number.{largest, number, encode_groups, encode_number}
use Rattle.report.specs.declared.names.ArgumentKind.TheVariants as arguments
use Rattle.report.specs.ModuleInfo.{DynamicTemplatePart, DynamicArgument, expr, string, template}
use Rattle.report.specs.{code.Kinds.argument_kinds, Encode.encode_list, Encode.encode_argument, Valid.Short}
use Rattle.laws.specs.code.Among.{EndOf}
use Rattle.report_reader.specs.code.FromFront.{ReadsBack, Skips, ReadsNumber, Number, Flag}

-- a number, as the wire's reader answers it
module _ (s : List ℕ) where
  number_read : {value : ℕ} {next : List ℕ} → number s ≡ ok value next → (value ≤ largest) × ReadsNumber s value next
  number_read {value} {next} q = (
    (number_codec.sound s value next q).1,
    λ n v t e.
        let same : ok value next ≡ ok n t = sym q ∙ ap number e ∙ number_codec.complete n v t in
        (cc, cc),
  )

  number_refused : {r value : ℕ} {next : List ℕ} → number s ≡ no r → ReadsNumber s value next
  number_refused q n v t e = absurd (refused (sym q ∙ ap number e ∙ number_codec.complete n v t))

  -- or what stands for it
  pub number_or : (r : ReadResult ℕ) (d : ℕ × Bor (List ℕ)) → read_as r ≡ number s → d.0 ≤ largest →
      {v : ℕ × Bor (List ℕ)} → v ≡ result_unwrap_or r d → (v.0 ≤ largest) × ReadsNumber s v.0 v.1.now
  number_or (Ok p) d q small is = rw is (number_read (sym q))
  number_or (Err e) d q small is = rw is (small, number_refused (sym q))

  number_left : (r : ReadResult ℕ) (d : ℕ × Bor (List ℕ)) → read_as r ≡ number s → EndOf d.1.now s →
      {v : ℕ × Bor (List ℕ)} → v ≡ result_unwrap_or r d → EndOf v.1.now s
  number_left (Ok p) d q rest is = rw is (record { front = encode_number p.0; among = (number_codec.sound s p.0 p.1.now (sym q)).0 })
  number_left (Err e) d q rest is = rw is rest

  -- with what is left
  pub number_in : (r : ReadResult ℕ) (d : ℕ × Bor (List ℕ)) → read_as r ≡ number s → d.0 ≤ largest → EndOf d.1.now s →
      {v : ℕ × Bor (List ℕ)} → v ≡ result_unwrap_or r d → Number s v.0 v.1.now
  number_in r d q small rest is =
      let (bound, read) = number_or r d q small is in
      record { small = bound; rest = number_left r d q rest is; read = read }

-- what is read by a number first
module _ {s : List ℕ} {value : ℕ} {next : List ℕ} (read : ReadsNumber s value next) where
  -- a byte below 128 is a number
  pub byte_read : (b : ℕ) → b < 128 → (t : List ℕ) → s ≡ b ∷ t → (value ≡ b) × (next ≡ t)
  unfolding encode_number encode_groups
  byte_read b h t e = read b (omega arith) t (rw (lt-ltb b 128 h) e)

  pub flag_read : (b : Bool) (t : List ℕ) → s ≡ encode_flag b ++ t → next ≡ t
  flag_read true t e = (byte_read 1 (omega arith) t e).1
  flag_read false t e = (byte_read 0 (omega arith) t e).1

  -- the flag that it stands for
  pub flag_told : Flag s (not (eqb value 0)) next
  flag_told false v t e = let (n, d) = byte_read 0 (omega arith) t e in (rw n, d)
  flag_told true v t e = let (n, d) = byte_read 1 (omega arith) t e in (rw n, d)

  -- a dynamic argument, by its kind
  pub expr_argument : arguments.Expr ≡ value_of argument_kinds value → (x : DynamicArgument) (t : List ℕ)
      → s ≡ encode_argument x ++ t
      → (x ≡ expr) × (next ≡ t)
  unfolding encode_argument
  expr_argument h expr t e = (refl, (byte_read 0 (omega arith) t e).1)
  expr_argument h (string y) t e = let h = rw (byte_read 1 (omega arith) (encode_text y ++ t) e).0 at h in cc
  expr_argument h (template l) t e = let h = rw (byte_read 2 (omega arith) (encode_list (encode_optional encode_text) l ++ t) e).0 at h in cc

  pub string_argument : arguments.String ≡ value_of argument_kinds value → (x : DynamicArgument) (t : List ℕ)
      → s ≡ encode_argument x ++ t
      → (y : List ℕ) × (x ≡ string y) × (next ≡ encode_text y ++ t)
  unfolding encode_argument
  string_argument h expr t e = let h = rw (byte_read 0 (omega arith) t e).0 at h in cc
  string_argument h (string y) t e = (y, refl, (byte_read 1 (omega arith) (encode_text y ++ t) e).1)
  string_argument h (template l) t e = let h = rw (byte_read 2 (omega arith) (encode_list (encode_optional encode_text) l ++ t) e).0 at h in cc

  pub template_argument : arguments.Template ≡ value_of argument_kinds value → (x : DynamicArgument) (t : List ℕ)
      → s ≡ encode_argument x ++ t
      → (l : List DynamicTemplatePart) × (x ≡ template l) × (next ≡ encode_list (encode_optional encode_text) l ++ t)
  unfolding encode_argument
  template_argument h expr t e = let h = rw (byte_read 0 (omega arith) t e).0 at h in cc
  template_argument h (string y) t e = let h = rw (byte_read 1 (omega arith) (encode_text y ++ t) e).0 at h in cc
  template_argument h (template l) t e = (l, refl, (byte_read 2 (omega arith) (encode_list (encode_optional encode_text) l ++ t) e).1)

  -- a text, by the number of its bytes
  text_read : value ≤ length next → ReadsBack encode_text Short s (take value next) (drop value next)
  unfolding encode_text
  text_read h x v t e =
      let (n, d) = read (length x) v (x ++ t) (e ∙ append_assoc (encode_number (length x)) x t) in
      rw (n, d) (take-append_seam x t, drop-append_seam x t)

  text_short : (y z : List ℕ) → length next < value → ReadsBack encode_text Short s y z
  unfolding encode_text
  text_short y z h x v t e =
      let (n, d) = read (length x) v (x ++ t) (e ∙ append_assoc (encode_number (length x)) x t) in
      absurd (omega (arith, ap length d, length-append x t))

  -- or what stands for it
  pub text_or : (r : Option (Bor (List ℕ) × Bor (List ℕ))) (d : Bor (List ℕ) × Bor (List ℕ))
      → MatchOption r (length next < value) (λ p. IsSplitAt next value p.0.now p.1.now)
      → {v : Bor (List ℕ) × Bor (List ℕ)} → v ≡ unwrap_or r d → ReadsBack encode_text Short s v.0.now v.1.now
  text_or (Some p) d h is = rw (is, h.1, h.2) (text_read h.0)
  text_or None d h is = text_short _ _ h

-- what may be there, by the flag before it
module _ {s next : List ℕ} {value : Bool} (flag : Flag s value next) {A : Type 0} (f : A → List ℕ) where
  pub none_there : value ≡ false → (o : Option A) (t : List ℕ) → s ≡ encode_optional f o ++ t
      → (o ≡ None) × (next ≡ t)
  unfolding encode_optional
  none_there z None t e = (refl, (flag false tt t e).1)
  none_there z (Some a) t e = let h = (flag true tt (f a ++ t) e).0 in cc

  pub some_there : value ≡ true → (o : Option A) (t : List ℕ) → s ≡ encode_optional f o ++ t
      → (a : A) × (o ≡ Some a) × (next ≡ f a ++ t)
  unfolding encode_optional
  some_there z None t e = let h = (flag false tt t e).0 in cc
  some_there z (Some a) t e = (a, refl, (flag true tt (f a ++ t) e).1)

  pub none_skipped : (P : A → Type 0) → value ≡ false → Skips (encode_optional f) (IfThere P) s next
  none_skipped P z o v t e = (none_there z o t e).1

  pub some_skipped : (P : A → Type 0) {behind : List ℕ} → value ≡ true → Skips f P next behind
      → Skips (encode_optional f) (IfThere P) s behind
  some_skipped P z skips o v t e = let (a, p, e) = some_there z o t e in skips a (rw p at v) t e
