use Rattle.std.proofs.Common.{rules, tests, ◌∙◌}
use Rattle.std.specs.Prelude.{nat_lt}
use Rattle.std.proofs.lemmas.Iterator.{YieldsList-from_slice}
use Rattle.std.proofs.lemmas.Iterator.Consumers.{YieldsList-from_filter, count_from_yields_List}
use Rattle.reports.proofs.SpillLemmas.{as_many}
use Rattle.reports.proofs.commands.spill.spilled_count.Goals as goal

pub returns : goal.returns
returns c =
    count_from_yields_List c.filter.result c.count.result c.count.ensures.ran
    (YieldsList-from_filter _ (λ a. nat_lt 0 a) (YieldsList-from_slice c.args.amounts.now (cc)) c.filter.ensures.closure
    (λ x r q k. search (rules, tests)))
    ∙ as_many 1 c.args.amounts.now
