-- Decoding and encoding sheets undo each other: what is decoded is within document 01's limits and stood there as its bytes, and each sheet within these
-- limits is decoded from its bytes.
use Rattle.laws.proofs.Prelude.{◌≡◌, refl, sym, ◌∙◌, Bool, true, false, not, true≢false, List, [], ◌∷◌, append-nil, ◌↔◌, ℕ, ◌≤◌, arith, leb, length}
use Rattle.laws.proofs.Prelude.{leb-true, le-leb}
use Rattle.laws.specs.Decoded.{ok, ◌>>◌, return}
use Rattle.laws.specs.Codec.{Codec}
use Rattle.laws.proofs.Decoding.{refused, value, then_ok, require_ok}
use Rattle.laws.proofs.Codecs.{built_given, built_then, built_require, codec_of, built_end, built_free}
use Rattle.text.specs.declared.utf8.Encoding.TheVariants.{Utf8}
use Rattle.wire.{specs.Number.largest, proofs.Numbered.numbered_codec, proofs.TextCodec.text_codec}
use Rattle.sheet.specs.Limits.{sheet_limit, source_limit, comment_limit, group_limit, depth_limit}
use Rattle.sheet.{specs.Comments.covered, specs.Walked.uncooked, proofs.EnumNumbers.media_numbers, proofs.Coverings.covered_iff}
use Rattle.sheet.specs.Sheet.{Sheet, sheet, ending, decode_sheet, accept}
use Rattle.sheet.proofs.{Decodes.comments_codec, Decodes.groups_codec, Reaches.nine_exactly}
use Rattle.sheet_codec.specs.{Encode.encode_sheet, Limits.FieldsFit, SheetOf.Encodes, SheetOf.SheetOf}
use Rattle.sheet_codec.proofs.{Building.limit_codec, Parts.program_codec, Levels.node_codec}

-- refusals 2 to 7
pub sheet_codec_lem : Codec sheet encode_sheet FieldsFit
unfolding sheet encode_sheet
sheet_codec_lem =
    codec_of
    (built_free (numbered_codec media_numbers) (λ media. built_given (text_codec Utf8 source_limit (omega arith)) (λ source fit.
    let small : length source ≤ largest = omega (arith, fit.0) in
    built_given (limit_codec comment_limit (omega arith)) (λ n few. built_then (comments_codec source small n) (λ cs.
    built_then (limit_codec group_limit (omega arith)) (λ m. built_then (groups_codec source n small (omega arith) m) (λ gs.
    built_require (covered gs n) 7 (built_then (program_codec source small) (λ p. built_end (node_codec source small depth_limit) (λ root.
    record { media = media; source = source; comments = cs; groups = gs; program = p; root = root }))))))))))
    (λ t v. (
      (t.media, (t.source, (length t.comments, (t.comments, (length t.groups, (t.groups, (t.program, t.root))))))),
      refl,
      (
        v.source,
        (
          v.comments.0,
          (
            (refl, v.comments.1),
            (v.groups.0, ((refl, (v.groups.1, v.places)), ((covered_iff t.groups (length t.comments)).1 v.grouped, (v.program, v.root)))),
          ),
        ),
      ),
    ))
    (λ a v.
    let (source, (few, ((long, comments), (few', ((long', (groups, places)), (all, (p, root))))))) = v in (
      rw (long, long'),
      record {
        source = source;
        comments = (rw long few, comments);
        groups = (rw long' few', rw long groups);
        places = places;
        grouped = λ i l. (covered_iff _ _).0 all i (rw long at l);
        program = p;
        root = root;
      },
    ))

-- what is decoded is within the limits, and stood there as its bytes
pub encoded : {s : List ℕ} {t : Sheet} → decode_sheet s ≡ ok t [] → Encodes s t
unfolding decode_sheet
encoded {s} {t} e =
    let (size, e) = require_ok (leb (length s) sheet_limit) 1 s _ e in
    let (r, u, x, e) = then_ok (sheet s) _ e in
    let (i, fit) = sheet_codec_lem.sound s t [] (x ∙ all r u e) in
    let same : encode_sheet t ≡ s = sym (i ∙ append-nil (encode_sheet t)) in
    let few = leb-true (length s) sheet_limit size in
    record { bytes = same; within = record { fields = fit; bytes = rw same few } }
  where
    all : (r : Sheet) (u : List ℕ) → (ending >> return r) u ≡ ok t [] → ok r u ≡ ok t []
    all r [] e = e
    all r (b ∷ u) e = absurd (refused e)

-- each sheet within the limits is decoded from its bytes
pub decoded : {s : List ℕ} {t : Sheet} → Encodes s t → decode_sheet s ≡ ok t []
unfolding decode_sheet
decoded {s} {t} h =
    let bytes = encode_sheet t in
    rw (← h.bytes, le-leb (length bytes) sheet_limit h.within.bytes, rw append-nil at (sheet_codec_lem.complete t h.within.fields []))

-- what is accepted meets none of refusals 1 to 9, and back
pub accepts_exactly : (s : List ℕ) (t : Sheet) → (accept s ≡ ok t []) ↔ SheetOf s t
unfolding accept
accepts_exactly s t = (there, back)
  where
    there : accept s ≡ ok t [] → SheetOf s t
    there e =
        let (r, u, x, e) = then_ok (decode_sheet s) _ e in
        let (cooked, e) = require_ok (not (uncooked r.root)) 9 u _ e in
        let same : r ≡ t = value e in
        record { encodes = encoded (x ∙ e); cooked = λ c. let met = (nine_exactly t.root).1 c in true≢false (sym (rw (same, met) at cooked)) }

    back : SheetOf s t → accept s ≡ ok t []
    back h = rw (decoded h.encodes, unmet (uncooked t.root) refl)
      where
        unmet : (b : Bool) → uncooked t.root ≡ b → b ≡ false
        unmet true e = absurd (h.cooked ((nine_exactly t.root).0 e))
        unmet false e = refl
