-- Codecs of spans and the program.
use Rattle.laws.proofs.Prelude.{refl, List, ℕ, ◌≤◌, arith, length}
use Rattle.laws.specs.Codec.{Codec}
use Rattle.laws.proofs.Codecs.{built_then, codec_of, codec_as, built_end, built_free}
use Rattle.text.specs.Position.{Boundary}
use Rattle.wire.{specs.Number.largest, proofs.TextCodec.flag_codec, proofs.OptionalCodec.optional_codec}
use Rattle.sheet.specs.{Fields.span, Fields.encode_span, Program.program}
use Rattle.sheet.proofs.CommentCodecs.{At, position_codec, end_codec}
use Rattle.sheet_codec.specs.{Encode.encode_program, Limits.SpanFits, Limits.ProgramFits}

module _ (source : List ℕ) (small : length source ≤ largest) where
  at : {p : ℕ} → Boundary source p → At source p
  at b = record { boundary = b; small = omega (arith, b.0) }

  pub span_codec : Codec (span source) encode_span (SpanFits source)
  unfolding span
  span_codec =
      codec_of (built_then (position_codec source) (λ start. built_end (end_codec source start) (λ end. record { start = start; end = end })))
      (λ sp v. ((sp.start, sp.end), refl, (at v.start, (at v.end, v.order))))
      (λ p v. (refl, record { start = v.0.boundary; end = v.1.0.boundary; order = v.1.1 }))

  pub program_codec : Codec (program source) encode_program (ProgramFits source)
  unfolding program
  program_codec =
      codec_of
      (built_free flag_codec (λ script. built_then span_codec
      (λ sp. built_free flag_codec (λ shebang. built_end (optional_codec (codec_as (position_codec source) (λ p. at) (λ p v. v.boundary))) (λ first.
      record { script = script; span = sp; shebang = shebang; first = first })))))
      (λ p v. ((p.script, (p.span, (p.shebang, p.first))), refl, (v.span, v.first)))
      (λ q v. (refl, record { span = v.0; first = v.1 }))
