use Rattle.laws.proofs.Prelude.{told}
use Rattle.sheet.specs.Nodes.{node}
use Rattle.sheet_heads.proofs.FirstArgument.{first, no_first, no_arguments_lem}
use Rattle.dep_entries.specs.Entries.{call_entry}
use Rattle.dep_entries.proofs.Wrote.{adds_none, items_same}
use Rattle.dep_entries.proofs.Items.put_call_entry.Goals as goal

-- `put_call_entry`: the entry by the first argument, if there is one and the call is listed.

pub returns-in_default : goal.returns-in_default
returns-in_default c =
    let a = c.args in
    record { answer = λ xs t is. rw c.in_default.is (adds_none a.self.now); left = items_same a.self.now }

pub returns-in-Ok : goal.returns-in-Ok
returns-in-Ok c =
    let a = c.args in
    let source = a.comments.now.source in
    let read = told (rw c.source.ensures.value at c.read_argument.ensures) c.in-Ok.is in
    record {
      answer = λ xs t is.
          let f = first (node source a.levels) source a.count a.s.now c.if-count-gt0.true is read in
          rw (c.in-Some.is, f.are) (c.put_argument_entry.ensures.answer _ f.node f.others f.between t f.read f.behind);
      left = c.put_argument_entry.ensures.left;
    }

pub returns-in_default-read_argument : goal.returns-in_default-read_argument
returns-in_default-read_argument c =
    let a = c.args in
    let source = a.comments.now.source in
    let read = told (rw c.source.ensures.value at c.read_argument.ensures) c.in_default-read_argument.is in
    record {
      answer = λ xs t is. absurd (no_first (node source a.levels) source a.count a.s.now c.if-count-gt0.true is read);
      left = items_same a.self.now;
    }

pub returns-else-count-gt0 : goal.returns-else-count-gt0
unfolding call_entry
returns-else-count-gt0 c =
    let a = c.args in
    let source = a.comments.now.source in
    record {
      answer = λ xs t is.
          rw (c.in-Some.is, no_arguments_lem (node source a.levels) source a.count a.s.now c.if-count-gt0.false is) (adds_none a.self.now);
      left = items_same a.self.now;
    }
