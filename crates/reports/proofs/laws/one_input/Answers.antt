use Rattle.reports.proofs.OneInput.{Parts, one_matrix, one_tree, one_system, one_task_system, one_list_of_positions, one_numbered_term}
use Rattle.reports.proofs.laws.one_input.Goals as goal

pub returns : goal.returns
returns c =
    let parts : Parts = record {
      trees = c.exactly_one.ensures.one_tree;
      tree = c.read_is_tree.ensures;
      tree_system = c.tree_system.ensures.system;
      forests = c.forest_law.ensures.one;
      forest_each = c.forest_law.ensures.each;
      patterns = c.exactly_one-2.ensures.one_pattern;
      perms = c.exactly_one_perm.ensures.one_order;
      perm = c.read_is_perm.ensures;
      inverses = c.exactly_one_inverse.ensures.one_order;
      inverse = c.inverse_is_perm.ensures.perm;
      min_degrees = c.one_minimum_degree_order.ensures.one;
      fronts = c.one_front_tree.ensures;
      front_tree = c.front_tree_is_tree.ensures;
      workflows = c.exactly_one-3.ensures.one_workflow;
      graphs = c.exactly_one-4.ensures.one_graph;
      graph = c.read_law-2.ensures;
      terms = c.read_law.ensures;
      denotes = c.terms_law.ensures.denotes;
      term_system = c.terms_law.ensures.system;
    } in
    record {
      matrix = one_matrix parts;
      tree = one_tree parts;
      system = one_system parts;
      tasks = one_task_system parts;
      term = one_list_of_positions parts;
      numbered = one_numbered_term parts;
    }
