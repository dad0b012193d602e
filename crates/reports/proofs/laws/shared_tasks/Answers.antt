use Rattle.reports.proofs.SharedTasks.{tasks_shared}
use Rattle.reports.proofs.laws.shared_tasks.Goals as goal

pub returns : goal.returns
returns c =
    tasks_shared (record {
      tree = λ input texts nodes is. (c.one_input.ensures.tree input texts nodes nodes is is).1;
      tree_system = c.tree_system.ensures.system;
      forest = c.forest_law.ensures.some;
      tree_terms = c.tree_term.ensures.terms;
      tree_names = c.tree_term.ensures.system;
      terms = c.read_law.ensures;
      denotes = c.terms_law.ensures.denotes;
      allowed = c.terms_law.ensures.allowed;
      term_system = c.terms_law.ensures.system;
      some = c.value_law.ensures.some;
      renamed = c.renaming_law.ensures.traversal;
      shared = c.one_reader_system_law.ensures.system;
      graph = c.read_law-2.ensures;
    })
