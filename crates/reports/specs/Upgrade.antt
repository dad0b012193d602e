-- `upgrade`: a tree, a workflow, a task graph or a plan, written as version 2; and what that says: the file is read as what was upgraded.
use Rattle.std.specs.Prelude.{◌≡◌, ℕ, List, [], ◌∷◌, length, Some, None}
use Rattle.sp_terms.specs.declared.position.Position.{Position}
use Rattle.workflow_files.specs.WorkflowText.{workflow_text_2}
use Rattle.trees.specs.declared.node.Node.{Node}
use Rattle.tree_files.specs.TreeText.{tree_text_2}
use Rattle.shared_systems.specs.Shared.{SharedTaskSystem}
use Rattle.shared_graph_files.specs.SharedGraphText.{graph_text_2}
use Rattle.plans.specs.Plan.{PlanValue}
use Rattle.plan_files.specs.Printed.{plan_text_2}
use Rattle.requests.specs.Request.{Upgrade, tree_upgrade, workflow_upgrade, graph_upgrade, plan_upgrade}
use Rattle.judging.specs.declared.status.Status.TheVariants as status
use Rattle.judging.specs.Files.{Answer, IsTreeFile, IsWorkflowFile, IsSharedGraphFile, IsPlanFile, IsPermFile}

-- what files of two versions say
pub data Versioned : Type 0 where
  tree_value : List Node → Versioned
  workflow_value : List Position → Versioned
  graph_value : SharedTaskSystem → Versioned
  plan_value : PlanValue → Versioned

-- its text in version 2
abbrev pub text_2 : Versioned → List ℕ
text_2 (tree_value nodes) = tree_text_2 nodes
text_2 (workflow_value positions) = workflow_text_2 positions
text_2 (graph_value system) = graph_text_2 system
text_2 (plan_value plan) = plan_text_2 plan

-- a file that says it
abbrev pub IsFileOf : List ℕ → Versioned → Type 0
IsFileOf text (tree_value nodes) = IsTreeFile text nodes
IsFileOf text (workflow_value positions) = IsWorkflowFile text positions
IsFileOf text (graph_value system) = IsSharedGraphFile text system
IsFileOf text (plan_value plan) = IsPlanFile text plan

-- a plan, with this priority in place of its own
abbrev pub with_priority : PlanValue → List ℕ → PlanValue
with_priority plan priority = record { order = plan.order; peak = plan.peak; claims = plan.claims; priority = priority }

-- what is upgraded, over the texts of the files: what its file says, but for the priority of a plan where one is given
abbrev pub IsUpgradedFrom : Upgrade → List (List ℕ) → Versioned → Type 0
IsUpgradedFrom (tree_upgrade name) texts value =
    (text : List ℕ) × (nodes : List Node) × (texts ≡ text ∷ []) × IsTreeFile text nodes × (value ≡ tree_value nodes)
IsUpgradedFrom (workflow_upgrade name) texts value =
    (text : List ℕ) × (positions : List Position) × (texts ≡ text ∷ []) × IsWorkflowFile text positions × (value ≡ workflow_value positions)
IsUpgradedFrom (graph_upgrade name) texts value =
    (text : List ℕ) × (system : SharedTaskSystem) × (texts ≡ text ∷ []) × IsSharedGraphFile text system × (value ≡ graph_value system)
IsUpgradedFrom (plan_upgrade name None) texts value =
    (text : List ℕ) × (plan : PlanValue) × (texts ≡ text ∷ []) × IsPlanFile text plan × (value ≡ plan_value plan)
IsUpgradedFrom (plan_upgrade name (Some given)) texts value =
    (text : List ℕ) × (ranks : List ℕ) × (plan : PlanValue) × (priority : List ℕ) × (texts ≡ text ∷ ranks ∷ [])
    × IsPlanFile text plan × IsPermFile (length plan.order) ranks priority × (value ≡ plan_value (with_priority plan priority))

abbrev pub upgrade_answer : Versioned → Answer
upgrade_answer value = record { status = status.Done; text = text_2 value }

-- an upgrade: the texts of its files
abbrev pub IsUpgradeOf : Upgrade → List (List ℕ) → Answer → Type 0
IsUpgradeOf u texts answer = (value : Versioned) × IsUpgradedFrom u texts value × (answer ≡ upgrade_answer value)

-- what was printed is a file of version 2 that says what was upgraded
pub record IsUpgraded (u : Upgrade) (texts : List (List ℕ)) (printed : List ℕ) : Type 0 where
  pub value : Versioned
  pub upgraded : IsUpgradedFrom u texts value
  pub printed_is : printed ≡ text_2 value
  pub is_file : IsFileOf printed value

-- the upgrade of another file of the same kind, with no priority
abbrev pub upgrade_again : Upgrade → List ℕ → Upgrade
upgrade_again (tree_upgrade name) other = tree_upgrade other
upgrade_again (workflow_upgrade name) other = workflow_upgrade other
upgrade_again (graph_upgrade name) other = graph_upgrade other
upgrade_again (plan_upgrade name priority) other = plan_upgrade other None
