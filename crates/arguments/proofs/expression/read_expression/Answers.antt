use Rattle.laws.proofs.Prelude.{told, bounded}
use Rattle.sheet_heads.proofs.Found.{head_found}
use Rattle.arguments.proofs.Expressions.{reads_string, reads_template}
use Rattle.arguments.proofs.expression.read_expression.Goals as goal

pub returns-in-String : goal.returns-in-String
returns-in-String c =
    let read = told c.read_head.ensures c.in-Ok.is in
    record {
      answer = λ n t e. reads_string _ _ _ _ e read c.in-String.is;
      bounds = ((bounded c.read_head.ensures c.in-Ok.is).0, rw c.in-String.is at ((head_found c.args.source.now c.args.levels).found _ read));
    }

pub returns-in-Template : goal.returns-in-Template
returns-in-Template c =
    let read = told c.read_head.ensures c.in-Ok.is in
    record {
      answer = λ n t e. reads_template _ _ _ _ e read c.in-Template.is;
      bounds = ((bounded c.read_head.ensures c.in-Ok.is).0, (head_found c.args.source.now c.args.levels).left _ read);
    }
