-- Just the encodings of deliveries within the limits are decoded.
use Rattle.laws.proofs.Prelude.{◌≡◌, refl, sym, ap, ◌∙◌, Bool, true, false, cond, ◌&&◌, and-eq-true_iff, ◌↔◌, List, [], ◌∷◌, ◌++◌, append_assoc, append-nil}
use Rattle.laws.proofs.Prelude.{flat_map, Memᴰ, ℕ, zero, suc, ◌≤◌, arith, leb, length, length-append, leb-true, le-leb}
use Rattle.laws.specs.Decoded.{Decoded, ok, no, Decoder, ◌>>◌, return, and_then, on_ok}
use Rattle.laws.specs.Codec.{Codec, All}
use Rattle.laws.proofs.Decoding.{refused, then_ok, require_ok}
use Rattle.laws.proofs.Codecs.{built_then, codec_of, built_end}
use Rattle.laws.proofs.Lists.{all_member, of_members, part_flat_map}
use Rattle.text.specs.declared.utf8.Encoding.TheVariants.{Utf8}
use Rattle.wire.{specs.Number.number, specs.Number.encode_number, specs.Text.encode_text, specs.Fields.bytes, proofs.NumberCodec.number_codec}
use Rattle.wire.proofs.TextCodec.{bytes_codec, text_codec}
use Rattle.sheet.{specs.Limits.text_limit, specs.Sheet.ending, specs.Comments.chained, proofs.Chains.Chained, proofs.Chains.chained_codec}
use Rattle.report.specs.{Encode.encode_list, Decode.times, Valid.Short}
use Rattle.report.specs.Decode as report
use Rattle.delivery.specs.Delivery.{Module, delivery_limit, module_limit, encode_module, encode_delivery, NameFits, DeliveryOf, named_sheet, last_modules}
use Rattle.delivery.specs.Delivery.{counted_modules, decode_delivery}

-- so many items are a chain in which each leaves nothing
pub times_chained : {A : Type 0} (d : Decoder A) (n : ℕ) (s : List ℕ) → times d n s ≡ chained (λ (u : Unit {0}). d) (λ a. tt) tt n s
unfolding times chained
times_chained d zero s = refl
times_chained {A} d (suc n) s = go (times_chained d n) (d s)
  where
    go : ((t : List ℕ) → times d n t ≡ chained (λ (u : Unit {0}). d) (λ a. tt) tt n t) → (x : Decoded A)
        → and_then x (λ a t. on_ok (a ∷◌) (times d n t)) ≡ and_then x (λ a t. on_ok (a ∷◌) (chained (λ (u : Unit {0}). d) (λ a. tt) tt n t))
    go e (ok a t) = rw (e t)
    go e (no r) = refl

module _ {A : Type 0} {d : Decoder A} {f : A → List ℕ} {P : A → Type 0} (k : Codec d f P) where
  each : (l : List A) → Chained (λ (u : Unit {0}). P) (λ a. tt) tt l ≡ All P l
  each [] = refl
  each (a ∷ l) = rw (each l)

  times_codec : (n : ℕ) → Codec (times d n) (flat_map f) (λ l. (length l ≡ n) × All P l)
  times_codec n =
      let c = chained_codec {leaves = λ a. tt} (λ (u : Unit {0}). k) tt n in
      record {
        complete = λ l v t. times_chained d n _ ∙ c.complete l (rw (each l) v) t;
        sound = λ s l t e. rw (each l) at (c.sound s l t (sym (times_chained d n s) ∙ e));
      }

-- the sheet: a length, and as many bytes
sheet_codec_lem : Codec report.text encode_text Short
unfolding report.text encode_text
sheet_codec_lem =
    record {
      complete = λ x v t. rw (append_assoc, number_codec.complete (length x) v, (bytes_codec (length x)).complete x refl);
      sound = λ s x t e.
          let (n, u, i, e) = then_ok (number s) bytes e in
          let (j, small) = number_codec.sound s n u i in
          let (l, long) = (bytes_codec n).sound u x t e in
          rw long (j ∙ ap (encode_number n ++◌) l ∙ sym (append_assoc (encode_number n) x t), small);
    }

-- a module
abbrev ModuleFits : Module → Type 0
ModuleFits m = NameFits m × Short m.sheet

module_codec : Codec named_sheet encode_module ModuleFits
unfolding named_sheet encode_module
module_codec =
    codec_of (built_then (text_codec Utf8 text_limit (omega arith)) (λ name. built_end sheet_codec_lem (λ sheet. record { name = name; sheet = sheet })))
    (λ m v. ((m.name, m.sheet), refl, (v.0, v.1)))
    (λ p v. (refl, (v.0, v.1)))

-- where modules are answered nothing is left
pub none_left : (n : ℕ) (u : List ℕ) {ms : List Module} {t : List ℕ} → last_modules n u ≡ ok ms t → (t ≡ []) × (times named_sheet n u ≡ ok ms [])
unfolding last_modules
none_left n u {ms} {t} e =
    let (l, w, x, e) = then_ok (times named_sheet n u) _ e in
    let (none, same) = all l w e in
    (none, x ∙ same)
  where
    all : (l : List Module) (w : List ℕ) → (ending >> return l) w ≡ ok ms t → (t ≡ []) × (ok l w ≡ ok ms [])
    all l [] e = (cc, cc)
    all l (b ∷ w) e = absurd (refused e)

-- what is decoded is a delivery
pub decoded : (s : List ℕ) {ms : List Module} {t : List ℕ} → decode_delivery s ≡ ok ms t → (t ≡ []) × DeliveryOf s ms
unfolding decode_delivery counted_modules encode_list
decoded s {ms} {t} e = by_size (leb (length s) delivery_limit) refl e
  where
    by_count : (n : ℕ) → (leb 1 n && leb n module_limit) ≡ true → (1 ≤ n) × (n ≤ module_limit)
    by_count n h =
        let (some, few) = (and-eq-true_iff (leb 1 n) (leb n module_limit)).0 h in
        (leb-true 1 n some, leb-true n module_limit few)

    by_size : (b : Bool) → leb (length s) delivery_limit ≡ b → cond b (counted_modules s) (no 11) ≡ ok ms t → (t ≡ []) × DeliveryOf s ms
    by_size true size e =
        let (n, u, x, e) = then_ok (number s) _ e in
        let (h, e) = require_ok (leb 1 n && leb n module_limit) 11 u _ e in
        let (none, e) = none_left n u e in
        let (i, _) = number_codec.sound s n u x in
        let (j, (long, fit)) = (times_codec module_codec n).sound u ms [] e in
        let (some, few) = by_count n h in (
          none,
          record {
            bytes = rw long (sym (i ∙ ap (encode_number n ++◌) (j ∙ append-nil (flat_map encode_module ms))));
            size = leb-true (length s) delivery_limit size;
            some = rw long some;
            few = rw long few;
            names = of_members NameFits ms (λ m k. (all_member ModuleFits ms fit k).0);
          },
        )
    by_size false size e = absurd (refused e)

-- the sheet of a module is no longer than all modules
sheet_short : {m : Module} {ms : List Module} → Memᴰ m ms → length m.sheet ≤ length (flat_map encode_module ms)
unfolding encode_module encode_text
sheet_short {m} {ms} i = omega (arith, simp length-append at (ap length (part_flat_map encode_module ms i).among))

-- a delivery is decoded
pub delivered : (s : List ℕ) {ms : List Module} → DeliveryOf s ms → decode_delivery s ≡ ok ms []
unfolding decode_delivery counted_modules last_modules encode_list
delivered s {ms} h =
    let long : length (encode_delivery ms) ≤ delivery_limit = rw h.bytes h.size in
    let short = length-append (encode_number (length ms)) (flat_map encode_module ms) in
    let fit = of_members ModuleFits ms (λ m i. (all_member NameFits ms h.names i, omega (arith, sheet_short i, short, long))) in
    let all = rw append-nil at ((times_codec module_codec (length ms)).complete ms (refl, fit) []) in
    rw (
      ← h.bytes,
      le-leb (length (encode_delivery ms)) delivery_limit long,
      number_codec.complete (length ms) (omega (arith, h.few)) (flat_map encode_module ms),
      le-leb 1 (length ms) h.some,
      le-leb (length ms) module_limit h.few,
      all,
    )

-- just these are decoded
pub decodes_exactly : (s : List ℕ) (ms : List Module) → (decode_delivery s ≡ ok ms []) ↔ DeliveryOf s ms
decodes_exactly s ms = (λ e. (decoded s e).1, λ h. delivered s h)
