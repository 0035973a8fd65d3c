use Rattle.laws.proofs.Prelude.{told, bounded}
use Rattle.sheet_heads.proofs.Found.{head_found}
use Rattle.attributes.proofs.Shapes.{text_is, object_is}
use Rattle.attributes.proofs.props.read_value.Goals as goal

pub returns-in-String : goal.returns-in-String
returns-in-String c =
    let read = told c.read_head.ensures c.in-Ok.is in
    record {
      answer = λ v t e. text_is _ _ _ _ read e c.in-String.is;
      bounds = rw c.in-String.is at ((head_found c.args.source.now c.args.levels).found _ read);
    }

pub returns-in-Object : goal.returns-in-Object
returns-in-Object c =
    let read = told c.read_head.ensures c.in-Ok.is in
    let past = bounded c.read_head.ensures c.in-Ok.is in
    record {
      answer = λ v t e. object_is _ _ _ _ read e c.in-Object.is;
      bounds = (past.0, rw c.in-Object.is at past.2, (head_found c.args.source.now c.args.levels).left _ read);
    }
