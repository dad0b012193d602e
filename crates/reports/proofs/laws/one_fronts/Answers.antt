use Rattle.reports.proofs.FrontLemmas.{FrontParts, one_answer, factored}
use Rattle.reports.proofs.laws.one_fronts.Goals as goal

pub returns-clause-one : goal.returns-clause-one
returns-clause-one c =
    let parts : FrontParts = record {
      matrices = c.one_input.ensures.matrix;
      orders = c.one_analysis.ensures.order;
      supernodes = c.one_analysis.ensures.supernodes;
    } in
    one_answer c.rounds_of_assembly.ensures.rounds c.rounds_of_assembly.ensures.used parts c.one_analysis.ensures.tree

pub returns-clause-factored : goal.returns-clause-factored
returns-clause-factored c =
    factored c.one_input.ensures.matrix c.renumbered_pattern.ensures.pattern c.renumbered_pattern.ensures.within
    c.rounds_of_assembly.ensures.within c.columns_of_front.ensures
