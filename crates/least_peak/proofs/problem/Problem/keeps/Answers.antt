use Rattle.std.proofs.Common.{◌∙◌, None, Some, refl, subst, sym}
use Rattle.sp_terms.specs.SystemOfTerm.{system_of_term}
use Rattle.sp_terms.specs.Values.{term_of}
use Rattle.trees.specs.Forest.{all_numbers}
use Rattle.trees.specs.Tree.{system_of_nodes}
use Rattle.trees.specs.TreeTerm.{forest_positions}
use Rattle.shared_systems.specs.Bounds.{IsSharedSystem}
use Rattle.shared_systems.specs.OneReader.{shared_of}
use Rattle.least_peak.specs.Problem.{system_of}
use Rattle.least_peak.specs.declared.problem.Origin.{Origin}
use Rattle.least_peak.proofs.SharedLemmas.{term_is_shared}
use Rattle.least_peak.proofs.problem.Problem.keeps.Goals as goal

pub returns-in-Tree : goal.returns-in-Tree
returns-in-Tree c =
    let nodes = c.in-Tree.tree in
    let tree = c.keeps.ensures in
    let (forest, stands) = c.forest_law.ensures.some nodes tree in
    subst (λ (o : Origin). IsSharedSystem (shared_of (system_of o))) (sym (sym c.self.view_is ∙ c.in-Tree.is))
    (term_is_shared c.terms_law.ensures.allowed c.value_law.ensures.some c.renaming_law.ensures.traversal c.one_reader_system_law.ensures.system
    (Some (all_numbers forest)) (forest_positions nodes forest) (system_of_nodes nodes) (record {
      terms = c.tree_term.ensures.terms nodes forest tree stands;
      within = c.tree_system.ensures.system nodes tree;
      named = c.tree_term.ensures.system nodes forest tree stands;
    }))

pub returns-in-Workflow : goal.returns-in-Workflow
returns-in-Workflow c =
    let own = c.in-Workflow.terms in
    let terms = c.keeps-in-Workflow.ensures in
    subst (λ (o : Origin). IsSharedSystem (shared_of (system_of o))) (sym (sym c.self.view_is ∙ c.in-Workflow.is))
    (term_is_shared c.terms_law.ensures.allowed c.value_law.ensures.some c.renaming_law.ensures.traversal c.one_reader_system_law.ensures.system
    None own (system_of_term (term_of own)) (record { terms = terms; within = c.terms_law.ensures.system own terms; named = refl }))
