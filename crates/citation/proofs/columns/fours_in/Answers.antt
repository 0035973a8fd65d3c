use Rattle.laws.proofs.Prelude.{◌∙◌, rules}
use borrow.Author.Tests.{tests}
use Rattle.std.proofs.lemmas.Iterator.{YieldsList-from_slice, YieldsList-from_take}
use Rattle.std.proofs.lemmas.Iterator.Consumers.{count_from_yields_List, YieldsList-at, YieldsList-from_filter}
use Rattle.citation.specs.Columns.{begins_four}
use Rattle.citation.proofs.Fours.{begins, fours_counted}
use Rattle.citation.proofs.columns.fours_in.Goals as goal

pub returns : goal.returns
returns c =
    count_from_yields_List c.filter-2.result _ c.count.ensures.ran
    (YieldsList-from_filter _ begins_four
    (YieldsList-at c.filter-2.ensures.source (YieldsList-from_take c.args.n
    (YieldsList-at c.take.ensures.source
    (YieldsList-from_filter _ begins (YieldsList-from_slice c.args.text.now cc) c.filter.ensures.closure (λ x r q k. search (rules, tests))))
    c.take.ensures.count)) c.filter-2.ensures.closure (λ x r q k. search (rules, tests)))
    ∙ fours_counted c.args.n c.args.text.now
