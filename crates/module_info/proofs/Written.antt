-- What the functions write one after the other is the report in pieces, and the pieces are the report.
use Rattle.laws.proofs.Prelude.{◌≡◌, sym, ap, ◌∙◌, List, [], ℕ, length}
use Rattle.laws.specs.{Decoded.ok, code.Told.Beside}
use Rattle.wire.specs.{Fields.encode_flag}
use Rattle.sheet.specs.{Limits.depth_limit, Tree.Node, Nodes.node, Walked.entries, Sheet.Sheet, code.Commented.Commented}
use Rattle.sheet_nodes.specs.code.Reach.{ReachesIn}
use Rattle.sheet_check.specs.declared.check.Parts.{Parts}
use Rattle.std.specs.Prelude.{Some}
use Rattle.std.specs.Borrow.{MutBor}
use Rattle.report.specs.{declared.writer.Writer.Writer, Encode.encode, Buffer.buffer_as, Buffer.Written, Buffer.written_as, Buffer.more, Buffer.Wrote}
use Rattle.report.specs.{Buffer.Keeps}
use Rattle.report.specs.Answer.{Outcome, outcome_as, answered, fitted}
use Rattle.report.proofs.{Answers.answered_fitted, Buffers.more_append, Buffers.more_cons, Buffers.wrote_keeps, Buffers.wrote_buffer}
use Rattle.dep_entries.specs.{declared.Items.Items, code.Notes.all_noted, code.Written.Collected, code.Written.items_as}
use Rattle.dep.specs.code.Walk.{with_dependencies}
use Rattle.module_info.specs.{Information.module_info, Replaced.noted}
use Rattle.module_info.specs.code.Pieces.{dependency_bytes, head_bytes, rest_bytes, commented, PartsOf}

-- once bytes are written into a new writer: the buffer is the one that was lent, and the answer that finishes it
module _ {new : Writer} {out : MutBor (List ℕ)} (begins : new ≡ record { out = out; at = Some 0 }) (w : Writer) (bytes : List ℕ) (h : Wrote new w bytes) where
  kept : Keeps (record { out = out; at = Some 0 }) w
  kept = wrote_keeps (record { out = out; at = Some 0 }) w bytes (rw begins at h)

  pub same_loan : out.ghost_name ≡ w.out.ghost_name
  same_loan = sym kept.loan

  pub finished : (o : Outcome) {left buffer : List ℕ} → buffer ≡ left → outcome_as o left ≡ answered (length w.out.now) (buffer_as w.out.now w.at)
      → outcome_as o buffer ≡ fitted (length out.now) bytes
  finished o back answer = rw back answer ∙ answered_fitted bytes kept.size (wrote_buffer (record { out = out; at = Some 0 }) w bytes (rw begins at h))

-- the script flag, and the dependencies by the items
pub dependencies_written : {t : Sheet} {s : List ℕ} {c : Commented} {p : Parts} → PartsOf t s p → c ≡ commented t → (before : Written) (mid after : Items)
    → written_as mid.writer.now ≡ more before (encode_flag p.tree.program.script)
    → ((n : Node) (l : List ℕ) → node c.source depth_limit p.tree.root.now ≡ ok n l → p.tree.entries ≡ entries n → ReachesIn p.tree.reach n
    → items_as after ≡ with_dependencies c (items_as mid) n)
    → Beside (written_as after.writer.now ≡ more before (dependency_bytes t)) (after.notes.now ≡ all_noted mid.notes.now (noted t))
unfolding dependency_bytes items_as
dependencies_written {t} o is before mid after flagged walked =
    let done = walked t.root [] (rw is o.root) (sym o.count) o.reaches in
    record {
      answer = ap (λ (w : Collected). w.written) done ∙ rw (is, ← o.program, more_cons, ← flagged);
      beside = ap (λ (w : Collected). w.notes) done ∙ rw is;
    }

-- the three pieces are the report
pub report_written : (t : Sheet) (u : Written) {v w x : Written} → v ≡ more u (dependency_bytes t) → w ≡ more v (head_bytes t) → x ≡ more w (rest_bytes t)
    → x ≡ more u (encode (module_info t))
unfolding encode module_info dependency_bytes head_bytes rest_bytes
report_written t u dependencies head rest = rw (rest, head, dependencies) (simp more_append)
