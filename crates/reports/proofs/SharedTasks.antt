-- Tasks of files are a shared system within the limits: they can be ordered, as those of a term can.
use Rattle.std.proofs.Common.{◌≡◌, ◌∙◌, ◌↔◌, ◌≤◌, ◌++◌, ℕ, List, [], ◌∷◌, Some, None, map, refl, sym, ap, subst}
use Rattle.mp_system.specs.System.{TaskSystem, IsSystem}
use Rattle.mp_system.specs.Traversal.{IsTraversal}
use Rattle.mp_system.specs.Renaming.{IsRenamed, name_in}
use Rattle.sp_terms.specs.declared.position.Position.{Position}
use Rattle.sp_terms.specs.Postfix.{Denotes}
use Rattle.sp_terms.specs.SystemOfTerm.{system_of_term}
use Rattle.sp_terms.specs.Term.{Term, IsAllowed, least_of}
use Rattle.sp_terms.specs.Values.{IsTerms, term_of}
use Rattle.reports.proofs.OneInput.{one_term}
use Rattle.sp_term_laws.specs.Along.{memory_after}
use Rattle.trees.specs.declared.node.Node.{Node}
use Rattle.trees.specs.Forest.{Forest, IsForestOf, all_numbers}
use Rattle.trees.specs.Tree.{IsTree, system_of_nodes}
use Rattle.trees.specs.TreeTerm.{forest_positions}
use Rattle.shared_systems.specs.Shared.{SharedTaskSystem}
use Rattle.shared_systems.specs.Bounds.{IsSharedSystem}
use Rattle.shared_systems.specs.OneReader.{shared_of}
use Rattle.least_peak.proofs.SharedLemmas.{term_is_shared}
use Rattle.workflow_files.specs.WorkflowFile.{ReadsWorkflow}
use Rattle.shared_graph_files.specs.EitherVersion.{ReadsSharedGraph}
use Rattle.requests.specs.Request.{Input, TaskSource, TreeInput, graph_tasks, input_tasks, tree_input, workflow_named}
use Rattle.judging.specs.Files.{IsSystemOf, IsTaskSystemOf, IsTreeOf}

-- what is known of trees, of terms and of graphs
pub record Parts : Type 0 where
  pub tree : (input : TreeInput) (texts : List (List ℕ)) (nodes : List Node) → IsTreeOf input texts nodes → IsTree nodes
  pub tree_system : (nodes : List Node) → IsTree nodes → IsSystem (system_of_nodes nodes)
  pub forest : (nodes : List Node) → IsTree nodes → (f : Forest) × IsForestOf nodes f
  pub tree_terms : (nodes : List Node) (f : Forest) → IsTree nodes → IsForestOf nodes f → IsTerms (forest_positions nodes f)
  pub tree_names : (nodes : List Node) (f : Forest) → IsTree nodes → IsForestOf nodes f
      → IsRenamed (all_numbers f) (system_of_term (term_of (forest_positions nodes f))) (system_of_nodes nodes)
  pub terms : (bytes : List ℕ) (positions : List Position) → ReadsWorkflow bytes positions → IsTerms positions
  pub denotes : (positions : List Position) → IsTerms positions → Denotes positions (term_of positions)
  pub allowed : (positions : List Position) → IsTerms positions → IsAllowed (term_of positions)
  pub term_system : (positions : List Position) → IsTerms positions → IsSystem (system_of_term (term_of positions))
  pub some : (t : Term) → IsAllowed t
      → (done rest : List ℕ) × IsTraversal (system_of_term t) (done ++ rest) × (memory_after (system_of_term t) done ≡ least_of t)
  pub renamed : (names : List ℕ) (own named : TaskSystem) (order : List ℕ)
      → IsRenamed names own named → IsTraversal own order ↔ IsTraversal named (map (name_in names) order)
  pub shared : (system : TaskSystem) (order : List ℕ) → IsSystem system → IsTraversal system order → IsSharedSystem (shared_of system)
  pub graph : (bytes : List ℕ) (system : SharedTaskSystem) → ReadsSharedGraph bytes system → IsSharedSystem system

module _ (p : Parts) where
  tree_shared : (nodes : List Node) → IsTree nodes → IsSharedSystem (shared_of (system_of_nodes nodes))
  tree_shared nodes is =
      let (f, stands) = p.forest nodes is in
      term_is_shared p.allowed p.some p.renamed p.shared (Some (all_numbers f)) (forest_positions nodes f) (system_of_nodes nodes) (record {
        terms = p.tree_terms nodes f is stands;
        within = p.tree_system nodes is;
        named = p.tree_names nodes f is stands;
      })

  term_shared : (positions : List Position) → IsTerms positions → IsSharedSystem (shared_of (system_of_term (term_of positions)))
  term_shared positions terms =
      term_is_shared p.allowed p.some p.renamed p.shared None positions (system_of_term (term_of positions))
      (record { terms = terms; within = p.term_system positions terms; named = refl })

  input_shared : (input : Input) (texts : List (List ℕ)) (system : TaskSystem) → IsSystemOf input texts system
      → IsSharedSystem (shared_of system)
  input_shared (tree_input input) texts system (nodes, is, e) =
      subst (λ (s : TaskSystem). IsSharedSystem (shared_of s)) (sym e) (tree_shared nodes (p.tree input texts nodes is))
  input_shared (workflow_named name) [] system is = absurd is
  input_shared (workflow_named name) (text ∷ []) system (positions, term, is, denotes, e) =
      let terms = p.terms text positions is.1 in
      let own = e ∙ ap system_of_term (one_term positions term (term_of positions) denotes (p.denotes positions terms)) in
      subst (λ (s : TaskSystem). IsSharedSystem (shared_of s)) (sym own) (term_shared positions terms)
  input_shared (workflow_named name) (text ∷ more ∷ texts) system is = absurd is

  pub tasks_shared : (source : TaskSource) (texts : List (List ℕ)) (system : SharedTaskSystem)
      → IsTaskSystemOf source texts system → IsSharedSystem system
  tasks_shared (input_tasks input) texts system (own, is, e) = subst IsSharedSystem (sym e) (input_shared input texts own is)
  tasks_shared (graph_tasks name) [] system is = absurd is
  tasks_shared (graph_tasks name) (text ∷ []) system is = p.graph text system is.1
  tasks_shared (graph_tasks name) (text ∷ more ∷ texts) system is = absurd is
