use Rattle.reports.proofs.DemoLemmas.{Parts, one_demo, shown}
use Rattle.reports.proofs.laws.one_demo.Goals as goal

pub returns : goal.returns
returns c =
    let parts : Parts = record {
      forests = c.forest_law.ensures.one;
      forest_terms = c.tree_term.ensures.terms;
      forest_system = c.tree_term.ensures.system;
      own = c.accepted_law.ensures.own;
      renamed = c.accepted_law.ensures.renamed;
      not_both = c.accepted_or_objected.ensures.not_both;
      least = c.least_law.ensures;
      best = c.one_best_postorder.ensures;
      patterns = c.one_pattern.ensures.one;
      min_degrees = c.one_minimum_degree_order.ensures.one;
      fronts = c.one_front_tree.ensures;
      front_trees = c.front_tree_is_tree.ensures;
      trees = c.made_inputs.ensures.tree;
      workflows = c.made_inputs.ensures.workflow;
    } in
    record { one = one_demo parts; shown = shown parts }
