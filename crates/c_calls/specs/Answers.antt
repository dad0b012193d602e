-- What the calls answer where they are not refused.
use Rattle.std.specs.Prelude.{◌≡◌, ◌≢◌, ◌==◌, ℕ, ◌≤◌, ◌⊎◌, if◌then◌else◌, List, [], map}
use Rattle.mp_system.specs.Memory.{peak_of}
use Rattle.mp_system.specs.System.{IsSystem}
use Rattle.mp_system.specs.Traversal.{IsTraversal}
use Rattle.mp_system.specs.declared.given.GivenItem.{GivenItem}
use Rattle.mp_system.specs.declared.given.GivenTask.{GivenTask}
use Rattle.mp_system.specs.Given.{system_given}
use Rattle.shared_systems.specs.Bounds.{IsSharedSystem}
use Rattle.shared_systems.specs.SharedMemory.{shared_peak_of}
use Rattle.shared_systems.specs.SharedTraversal.{IsSharedTraversal, IsLeastShared}
use Rattle.shared_systems.specs.Shared.{SharedTaskSystem}
use Rattle.shared_systems.specs.declared.given.GivenSharedItem.{GivenSharedItem}
use Rattle.shared_systems.specs.Given.{shared_system_given}
use Rattle.sp_terms.specs.declared.position.Position.{Position}
use Rattle.trees.specs.declared.node.Node.{Node}
use Rattle.trees.specs.Tree.{IsTree, system_of_nodes}
use Rattle.plans.specs.declared.claim.Claim.{Claim as PlanClaim}
use Rattle.plans.specs.declared.claim.Direction.TheVariants.{Forward, Backward}
use Rattle.plans.specs.Plan.{PlanValue, IsPlan}
use Rattle.claim_check.specs.Accepted.{IsAccepted}
use Rattle.postorder_best.specs.Postorder.{IsTreePostorder}
use Rattle.postorder_best.specs.BestPostorder.{IsBestPostorder}
use Rattle.spill_plan.specs.SpillPlans.{IsLeastSpill}
use Rattle.bound_check.specs.Objections.{IsWithoutTerm}
use Rattle.graph_plan.specs.Planned.{IsPlainBound}
use Rattle.least_peak.specs.Best.{IsBestTraversal}
use Rattle.least_peak.specs.Problem.{IsTermOf}
use Rattle.least_peak.specs.declared.problem.Origin.TheVariants as origins
use Rattle.c_calls.specs.declared.claims.Claim.{Claim}

-- the nodes are a tree, and the order is a traversal of its system with this peak, which no traversal undercuts
pub record IsBestOrder (nodes : List Node) (order : List ℕ) (peak : ℕ) : Type 0 where
  pub tree : IsTree nodes
  pub best : IsBestTraversal (system_of_nodes nodes) order peak

-- the order is the best postorder of the tree, with this peak, which no postorder undercuts
pub record IsBestPost (nodes : List Node) (order : List ℕ) (peak : ℕ) : Type 0 where
  pub tree : IsTree nodes
  pub best : IsBestPostorder nodes order
  pub postorder : IsTreePostorder nodes order
  pub peak_is : peak ≡ peak_of (system_of_nodes nodes) order
  pub least : (other : List ℕ) → IsTreePostorder nodes other → peak ≤ peak_of (system_of_nodes nodes) other

-- the order is a traversal of the tree's system, with this peak
pub record IsReplayed (nodes : List Node) (order : List ℕ) (peak : ℕ) : Type 0 where
  pub tree : IsTree nodes
  pub traversal : IsTraversal (system_of_nodes nodes) order
  pub peak_is : peak ≡ peak_of (system_of_nodes nodes) order

-- the amounts of the blocks are a spill plan, and none has a lower volume
pub record IsTreeSpilled (nodes : List Node) (order : List ℕ) (bound : ℕ) (amounts : List ℕ) (volume : ℕ) : Type 0 where
  pub tree : IsTree nodes
  pub traversal : IsTraversal (system_of_nodes nodes) order
  pub least : IsLeastSpill (system_of_nodes nodes) order bound amounts volume

-- tasks and items that are a system, and an order that is a traversal of it, with this peak
pub record IsSystemReplayed (tasks : List GivenTask) (items : List GivenItem) (order : List ℕ) (peak : ℕ) : Type 0 where
  pub system : IsSystem (system_given tasks items)
  pub traversal : IsTraversal (system_given tasks items) order
  pub peak_is : peak ≡ peak_of (system_given tasks items) order

-- tasks, items and readers that are a system, and an order that is a traversal of it, with this peak
pub record IsSharedReplayed (tasks : List GivenTask) (items : List GivenSharedItem) (readers order : List ℕ) (peak : ℕ) : Type 0 where
  pub system : IsSharedSystem (shared_system_given tasks items readers)
  pub traversal : IsSharedTraversal (shared_system_given tasks items readers) order
  pub peak_is : peak ≡ shared_peak_of (shared_system_given tasks items readers) order

-- the bound is the peak, and no traversal has a lower one
pub record IsLeastFound (system : SharedTaskSystem) (peak bound : ℕ) : Type 0 where
  pub met : bound ≡ peak
  pub least : IsLeastShared system peak

-- tasks, items and readers that are a system; an order that is a traversal of it, with this peak; and a bound, which no traversal has a
-- peak below, and which is at least what is there at the start and what each task reads and needs. The peak is least, and the bound is the
-- peak, or the system is refused a series-parallel term that tells its orders: it has none, or one of too many arcs; and the peak is at most
-- that of the order at the start, where that has a place
pub record IsSharedPlanned (tasks : List GivenTask) (items : List GivenSharedItem) (readers start order : List ℕ) (peak bound : ℕ) : Type 0 where
  pub system : IsSharedSystem (shared_system_given tasks items readers)
  pub traversal : IsSharedTraversal (shared_system_given tasks items readers) order
  pub peak_is : peak ≡ shared_peak_of (shared_system_given tasks items readers) order
  pub below_none : (other : List ℕ) → IsSharedTraversal (shared_system_given tasks items readers) other
      → bound ≤ shared_peak_of (shared_system_given tasks items readers) other
  pub least_or_not : IsLeastFound (shared_system_given tasks items readers) peak bound
      ⊎ IsWithoutTerm (shared_system_given tasks items readers)
  pub plain : IsPlainBound (shared_system_given tasks items readers) bound
  pub no_worse : start ≢ [] → peak ≤ shared_peak_of (shared_system_given tasks items readers) start

-- ---- plans with claims

-- a claim of a caller's array: any number but 0 says backwards
abbrev pub claim_given : Claim → PlanClaim
claim_given c = record { position = c.position; dir = if c.backward == 0 then Forward else Backward; bound = c.bound; rest = c.rest }

abbrev pub plan_given : List ℕ → ℕ → List Claim → PlanValue
plan_given order peak claims = record { order = order; peak = peak; claims = map claim_given claims; priority = [] }

-- the claims of a plan certify it, position by position of the tree's term
pub record IsCertificate (nodes : List Node) (plan : PlanValue) : Type 0 where
  pub positions : List Position
  pub term : IsTermOf (origins.Tree nodes) positions
  pub accepted : IsAccepted (system_of_nodes nodes) positions plan

-- a traversal of least peak, with the claims that certify it, within the limits of a plan
pub record IsTreeCertified (nodes : List Node) (order : List ℕ) (peak : ℕ) (claims : List Claim) : Type 0 where
  pub tree : IsTree nodes
  pub plan : IsPlan (plan_given order peak claims)
  pub best : IsBestTraversal (system_of_nodes nodes) order peak
  pub certificate : IsCertificate nodes (plan_given order peak claims)
