use Rattle.laws.proofs.Prelude.{◌∙◌, rules}
use Rattle.std.specs.Prelude.{is_some}
use borrow.Author.Tests.{tests}
use Rattle.std.proofs.lemmas.Iterator.Consumers.{count_from_yields_List, YieldsList-from_filter, YieldsList-from_first}
use Rattle.pragmas.specs.Pragmas.{reference, references_in}
use Rattle.pragmas.proofs.Turns.{count_placed}
use Rattle.pragmas.proofs.references.count_references.Goals as goal

pub returns : goal.returns
unfolding references_in
returns c =
    count_from_yields_List c.filter.result _ c.count.ensures.ran
    (YieldsList-from_filter _ (λ x. is_some (reference x.source x.comment))
    (YieldsList-from_first (λ x. x) (λ r. r) _ (c.filter.ensures.source ∙ c.iter.ensures)) c.filter.ensures.closure (λ x r q k. search (rules, tests)))
    ∙ count_placed c.args.comments.now.source (λ x. reference x.source x.comment) _
