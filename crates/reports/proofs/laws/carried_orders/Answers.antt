use Rattle.reports.proofs.CarryLemmas.{AreCarryLaws, carry_says}
use Rattle.reports.proofs.laws.carried_orders.Goals as goal

pub returns : goal.returns
returns c =
    let laws : AreCarryLaws = record {
      read = c.read_law.ensures;
      named_traversal = c.named_term_law.ensures.traversal;
      named_peak = c.named_term_law.ensures.peak;
      named_least = c.named_term_law.ensures.least;
      shared_traversal = c.one_reader_law.ensures.traversal;
      shared_peak = c.one_reader_law.ensures.peak;
      shared_least = c.one_reader_law.ensures.least;
      told_traversal = c.told_term_law.ensures.traversal;
      told_peak = c.told_term_law.ensures.peak;
      told_least = c.told_term_law.ensures.least;
    } in
    carry_says laws
