-- Codecs of tags, short texts and Strings.
use Rattle.laws.proofs.Prelude.{◌≡◌, refl, sym, ap, ◌∙◌, Bool, true, List, [], ◌∷◌, ◌++◌, ℕ, ◌≤◌, ◌<◌, arith, eqb, ltb, length, ltb-true, lt-ltb, eqb-true}
use Rattle.laws.proofs.Prelude.{eq-eqb}
use Rattle.laws.{specs.Decoded.Decoder, specs.Decoded.◌>>◌, specs.Codec.Codec, proofs.Decoding.then_ok, proofs.Decoding.require_ok}
use Rattle.laws.proofs.Codecs.{Built, built_return, built_then, built_require, codec_of, built_end}
use Rattle.text.specs.declared.utf8.Encoding.{Encoding, TheVariants.Wtf8}
use Rattle.wire.{specs.Number.largest, specs.Text.text, specs.Text.encode_text, proofs.TextCodec.byte_codec, proofs.TextCodec.text_codec}
use Rattle.sheet.specs.{Limits.text_limit, declared.fields.Span.Span, Comments.slice, Quotation.Quotation, Quotation.looks_quoted}
use Rattle.sheet.specs.Nodes.{tag, text_behind, string_text, quoted}
use Rattle.sheet.proofs.Quotations.{looks_quoted_iff}
use Rattle.sheet_codec.specs.{Encode.encode_quoted, Limits.TextFits, Limits.QuotedFits}
use Rattle.sheet_codec.proofs.Parts.{span_codec}

pub tag_codec : (allowed : ℕ → Bool) (levels : ℕ) → Codec (tag allowed levels) (λ t. t ∷ []) (λ t. (allowed t ≡ true) × (0 < levels))
unfolding tag
tag_codec allowed levels =
    codec_of (built_then byte_codec (λ t. built_require (allowed t) 3 (built_require (ltb 0 levels) 4 (built_return t))))
    (λ t v. ((t, tt), refl, (tt, (v.0, (lt-ltb 0 levels v.1, tt)))))
    (λ p v. (refl, (v.1.0, ltb-true 0 levels v.1.1.0)))

-- the one tag that is allowed, and what follows it
module _ {A B : Type 0} {d : Decoder B} {build : A → B} {encode : A → List ℕ} {Valid : A → Type 0} (t levels : ℕ) where
  pub built_tag : Built d build encode Valid → Built (tag (eqb t) levels >> d) build (λ a. t ∷ encode a) (λ a. (0 < levels) × Valid a)
  built_tag k =
      record {
        complete = λ a v u. rw ((tag_codec (eqb t) levels).complete t (eq-eqb t t refl, v.0) (encode a ++ u)) (k.complete a v.1 u);
        sound = λ s b u e.
            let (x, w, y, e) = then_ok (tag (eqb t) levels s) (λ x. d) e in
            let (i, v) = (tag_codec (eqb t) levels).sound s x w y in
            let (a, p, j, z) = k.sound w b u e in
            (a, p, i ∙ ap (◌∷ w) (sym (eqb-true t x v.0)) ∙ ap (t ∷◌) j, (v.1, z));
      }

-- a text of at most 4,096 bytes
pub short_text_lem : (e : Encoding) → Codec (text e text_limit) encode_text (TextFits e text_limit)
short_text_lem e = text_codec e text_limit (omega arith)

-- of a String
pub string_text_lem : (source : List ℕ) (sp : Span) → Codec (string_text source sp) encode_text (λ x. Quotation (slice source sp) × TextFits Wtf8 text_limit x)
unfolding text_behind
string_text_lem source sp =
    record {
      complete = λ x v t. rw ((looks_quoted_iff (slice source sp)).1 v.0) ((short_text_lem Wtf8).complete x v.1 t);
      sound = λ s x t e.
          let (h, e) = require_ok (looks_quoted (slice source sp)) 13 s _ e in
          let (i, v) = (short_text_lem Wtf8).sound s x t e in
          (i, ((looks_quoted_iff (slice source sp)).0 h, v));
    }

module _ (source : List ℕ) (small : length source ≤ largest) (levels : ℕ) where
  pub quoted_codec : Codec (quoted source levels) encode_quoted (QuotedFits source levels)
  unfolding quoted
  quoted_codec =
      codec_of (built_tag 1 levels (built_then (span_codec source small) (λ sp. built_end (string_text_lem source sp) (λ x. record { span = sp; text = x }))))
      (λ q v. ((q.span, q.text), refl, (v.place.deep, (v.place.span, (v.quotation, v.text)))))
      (λ p v. (refl, record { place = record { deep = v.0; span = v.1.0 }; quotation = v.1.1.0; text = v.1.1.1 }))
