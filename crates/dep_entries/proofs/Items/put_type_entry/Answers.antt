use Rattle.laws.proofs.Prelude.{ap, ◌∙◌}
use Rattle.dep_entries.specs.code.Written.{items_as, with_entries, static_of}
use Rattle.dep_entries.proofs.Wrote.{adds_keeps}
use Rattle.dep_entries.proofs.Items.put_type_entry.Goals as goal

-- `put_type_entry`: the entry with the attributes that were read.

pub returns : goal.returns
returns c =
    let a = c.args in
    record {
      answer = λ b t u is. c.put_static_entry.ensures
          ∙ ap (λ x. with_entries (items_as a.self.now) (static_of a.comments.now a.dependency x))
          (c.parse_type_attributes-attributes.ensures.value b t u (rw c.source-source.ensures.value is));
      left = adds_keeps a.self.now c.put_static_entry.new.self _ c.put_static_entry.ensures;
    }
