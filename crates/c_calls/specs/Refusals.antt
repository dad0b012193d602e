-- Why each call is refused: what a refusal of it says. Want of memory says nothing, and a refusal that a call does not name has no cause.
use Rattle.std.specs.Prelude.{◌≡◌, ◌≢◌, ℕ, ◌+◌, ◌-◌, ◌*◌, ◌<◌, ◌≤◌, All, List, [], length, map, take}
use Rattle.limits.specs.Limits.{most_tasks, most_positions, most_total, most_workers}
use Rattle.mp_system.specs.Refusal.{IsOrderRefusal}
use Rattle.mp_system.specs.System.{IsSystem}
use Rattle.mp_system.specs.declared.given.GivenItem.{GivenItem}
use Rattle.mp_system.specs.declared.given.GivenTask.{GivenTask}
use Rattle.mp_system.specs.declared.order.ReplayRefusal.{ReplayRefusal}
use Rattle.mp_system.specs.declared.order.ReplayRefusal.TheVariants as replays
use Rattle.mp_system.specs.Given.{system_given}
use Rattle.mp_system.specs.Judged.{IsSystemRefusal}
use Rattle.sp_terms.specs.declared.position.Position.{Position}
use Rattle.trees.specs.declared.node.Node.{Node}
use Rattle.trees.specs.Judged.{IsNodesRefusal}
use Rattle.trees.specs.Tree.{IsTree, system_of_nodes}
use Rattle.plans.specs.Plan.{PlanValue, IsClaimWithin, IsPlan, RiseFrom}
use Rattle.claim_check.specs.Accepted.{IsObjection}
use Rattle.claim_check.specs.declared.objection.Objection.{Objection}
use Rattle.shared_systems.specs.Bounds.{IsSharedSystem}
use Rattle.shared_systems.specs.OneReader.{shared_of}
use Rattle.shared_systems.specs.Shared.{SharedTaskSystem}
use Rattle.shared_systems.specs.SharedTraversal.{IsSharedOrderRefusal}
use Rattle.shared_systems.specs.declared.given.GivenSharedItem.{GivenSharedItem}
use Rattle.shared_systems.specs.Given.{shared_system_given}
use Rattle.shared_systems.specs.Judged.{IsSharedRefusal}
use Rattle.activation.specs.Refusal.{IsCoreRefusal}
use Rattle.spill_plan.specs.Refusal.{IsSpillRefusal}
use Rattle.least_peak.specs.Problem.{IsTermOf}
use Rattle.least_peak.specs.declared.problem.Origin.TheVariants as origins
use Rattle.c_calls.specs.declared.claims.Claim.{Claim}
use Rattle.c_calls.specs.declared.refusal.PlanFault.{PlanFault}
use Rattle.c_calls.specs.declared.refusal.PlanFault.TheVariants as plans
use Rattle.c_calls.specs.declared.refusal.Refusal.{Refusal}
use Rattle.c_calls.specs.declared.refusal.Refusal.TheVariants as refusals
use Rattle.c_calls.specs.Answers.{IsCertificate, claim_given, plan_given}

-- an array that is to be written has another length than is needed
abbrev pub IsRoomRefused : ℕ → ℕ → ℕ → Type 0
IsRoomRefused wanted room needed = (room ≢ wanted) × (needed ≡ wanted)

-- a plan of nodes, or their best postorder, with room for an order
abbrev pub IsPlanningRefusal : List Node → ℕ → Refusal → Type 0
IsPlanningRefusal nodes room (refusals.Room needed) = IsRoomRefused (length nodes) room needed
IsPlanningRefusal nodes room (refusals.Nodes refusal) = IsNodesRefusal nodes refusal
IsPlanningRefusal nodes room refusals.NoMemory = Unit {0}
IsPlanningRefusal nodes room other = ⊥

-- the replay of an order
abbrev pub IsReplayRefusal : List Node → List ℕ → Refusal → Type 0
IsReplayRefusal nodes order (refusals.Nodes refusal) = IsNodesRefusal nodes refusal
IsReplayRefusal nodes order (refusals.Replay refusal) = IsTree nodes × IsOrderRefusal (system_of_nodes nodes) order refusal
IsReplayRefusal nodes order refusals.NoMemory = Unit {0}
IsReplayRefusal nodes order other = ⊥

-- the amounts that an order spills within a bound, with room for them
abbrev pub IsSpillCallRefusal : List Node → List ℕ → ℕ → ℕ → Refusal → Type 0
IsSpillCallRefusal nodes order bound room (refusals.Room needed) = IsRoomRefused (length nodes) room needed
IsSpillCallRefusal nodes order bound room (refusals.Nodes refusal) = IsNodesRefusal nodes refusal
IsSpillCallRefusal nodes order bound room (refusals.Spill refusal) =
    IsTree nodes × IsSpillRefusal (system_of_nodes nodes) order bound refusal
IsSpillCallRefusal nodes order bound room refusals.NoMemory = Unit {0}
IsSpillCallRefusal nodes order bound room other = ⊥

-- ---- plans with claims

-- claims of a caller's array that a plan may have: within the limits, and each at a greater position than the one before
abbrev pub AreRisingClaims : List Claim → Type 0
AreRisingClaims claims = All IsClaimWithin (map claim_given claims) × RiseFrom 0 (map claim_given claims)

-- the first claim, counted from 1, with which they are not
pub record IsFirstWrong (claims : List Claim) (k : ℕ) : Type 0 where
  pub positive : 1 ≤ k
  pub there : k ≤ length claims
  pub before : AreRisingClaims (take (k - 1) claims)
  pub wrong : AreRisingClaims (take k claims) → ⊥

-- the fault is a claim, of which this is said
abbrev pub IfClaim : PlanFault → (ℕ → Type 0) → Type 0
IfClaim (plans.Claim k) said = said k
IfClaim other said = ⊥

-- the first limit that an order, a peak and claims pass
abbrev pub IsPlanFault : List ℕ → ℕ → List Claim → PlanFault → Type 0
IsPlanFault order peak claims plans.LongOrder = most_tasks < length order
IsPlanFault order peak claims plans.GreatPeak = (length order ≤ most_tasks) × (most_total < peak)
IsPlanFault order peak claims plans.ManyClaims = (length order ≤ most_tasks) × (peak ≤ most_total) × (most_positions < length claims)
IsPlanFault order peak claims (plans.Claim k) =
    (length order ≤ most_tasks) × (peak ≤ most_total) × (length claims ≤ most_positions) × IsFirstWrong claims k

-- an order, a peak and claims are no plan
abbrev pub IsGivenPlanRefusal : List ℕ → ℕ → List Claim → Refusal → Type 0
IsGivenPlanRefusal order peak claims (refusals.Plan fault) = IsPlanFault order peak claims fault
IsGivenPlanRefusal order peak claims refusals.NoMemory = Unit {0}
IsGivenPlanRefusal order peak claims other = ⊥

-- what is objected to first in a plan of these nodes
pub record IsObjected (nodes : List Node) (plan : PlanValue) (objection : Objection) : Type 0 where
  pub tree : IsTree nodes
  pub positions : List Position
  pub term : IsTermOf (origins.Tree nodes) positions
  pub objected : IsObjection (system_of_nodes nodes) positions plan objection

-- the judging of a plan
abbrev pub IsCheckRefusal : List Node → List ℕ → ℕ → List Claim → Refusal → Type 0
IsCheckRefusal nodes order peak claims (refusals.Nodes refusal) = IsNodesRefusal nodes refusal
IsCheckRefusal nodes order peak claims (refusals.Plan fault) = IsTree nodes × IsPlanFault order peak claims fault
IsCheckRefusal nodes order peak claims (refusals.Objection objection) = IsObjected nodes (plan_given order peak claims) objection
IsCheckRefusal nodes order peak claims refusals.NoMemory = Unit {0}
IsCheckRefusal nodes order peak claims other = ⊥

-- how many claims a certificate of so many nodes has at most: one at each position of their term, which has up to three for a node (its
-- block, its task, and what joins the terms of its children), and one that joins those of the roots
abbrev pub most_claims : ℕ → ℕ
most_claims nodes = 3 * nodes + 1

-- a plan within the limits is certified by more claims than there is room for; what is told is how many are always enough
pub record NeedsClaims (nodes : List Node) (room needed : ℕ) : Type 0 where
  pub tree : IsTree nodes
  pub plan : PlanValue
  pub within : IsPlan plan
  pub certificate : IsCertificate nodes plan
  pub past : room < length plan.claims
  pub needed_is : needed ≡ most_claims (length nodes)

-- a plan with claims, with room for an order and for claims
abbrev pub IsCertifyRefusal : List Node → ℕ → ℕ → Refusal → Type 0
IsCertifyRefusal nodes room claim_room (refusals.Room needed) = IsRoomRefused (length nodes) room needed
IsCertifyRefusal nodes room claim_room (refusals.ClaimRoom needed) = NeedsClaims nodes claim_room needed
IsCertifyRefusal nodes room claim_room (refusals.Nodes refusal) = IsNodesRefusal nodes refusal
IsCertifyRefusal nodes room claim_room refusals.NoMemory = Unit {0}
IsCertifyRefusal nodes room claim_room other = ⊥

-- ---- cores

-- a core for an order of the nodes, a bound and so many workers
abbrev pub IsBeginRefusal : List Node → List ℕ → ℕ → ℕ → Refusal → Type 0
IsBeginRefusal nodes order bound workers refusals.Workers = (1 ≤ workers) × (workers ≤ most_workers) → ⊥
IsBeginRefusal nodes order bound workers (refusals.Nodes refusal) = IsNodesRefusal nodes refusal
IsBeginRefusal nodes order bound workers (refusals.Core refusal) =
    IsTree nodes × IsCoreRefusal (shared_of (system_of_nodes nodes)) order bound refusal
IsBeginRefusal nodes order bound workers refusals.NoMemory = Unit {0}
IsBeginRefusal nodes order bound workers other = ⊥

-- ---- systems

-- the replay of an order
abbrev pub IsSystemReplayRefusal : List GivenTask → List GivenItem → List ℕ → Refusal → Type 0
IsSystemReplayRefusal tasks items order (refusals.System refusal) = IsSystemRefusal tasks items refusal
IsSystemReplayRefusal tasks items order (refusals.Replay refusal) =
    IsSystem (system_given tasks items) × IsOrderRefusal (system_given tasks items) order refusal
IsSystemReplayRefusal tasks items order refusals.NoMemory = Unit {0}
IsSystemReplayRefusal tasks items order other = ⊥

-- a core for an order of the tasks, a bound and so many workers
abbrev pub IsSystemBeginRefusal : List GivenTask → List GivenItem → List ℕ → ℕ → ℕ → Refusal → Type 0
IsSystemBeginRefusal tasks items order bound workers refusals.Workers = (1 ≤ workers) × (workers ≤ most_workers) → ⊥
IsSystemBeginRefusal tasks items order bound workers (refusals.System refusal) = IsSystemRefusal tasks items refusal
IsSystemBeginRefusal tasks items order bound workers (refusals.Core refusal) =
    IsSystem (system_given tasks items) × IsCoreRefusal (shared_of (system_given tasks items)) order bound refusal
IsSystemBeginRefusal tasks items order bound workers refusals.NoMemory = Unit {0}
IsSystemBeginRefusal tasks items order bound workers other = ⊥

-- ---- systems in which an item may have any number of readers

-- the replay of an order
abbrev pub IsSharedReplayRefusal : List GivenTask → List GivenSharedItem → List ℕ → List ℕ → Refusal → Type 0
IsSharedReplayRefusal tasks items readers order (refusals.Shared refusal) = IsSharedRefusal tasks items readers refusal
IsSharedReplayRefusal tasks items readers order (refusals.Replay refusal) =
    IsSharedSystem (shared_system_given tasks items readers)
    × IsSharedOrderRefusal (shared_system_given tasks items readers) order refusal
IsSharedReplayRefusal tasks items readers order refusals.NoMemory = Unit {0}
IsSharedReplayRefusal tasks items readers order other = ⊥

-- an order to begin with, which has a place, is no traversal
abbrev pub IsStartRefusal : SharedTaskSystem → List ℕ → ReplayRefusal → Type 0
IsStartRefusal system start (replays.Order fault) = (start ≢ []) × IsSharedOrderRefusal system start (replays.Order fault)
IsStartRefusal system start replays.NoMemory = Unit {0}

-- a plan, from an order to begin with if one is given, with room for an order
abbrev pub IsSharedPlanRefusal : List GivenTask → List GivenSharedItem → List ℕ → List ℕ → ℕ → Refusal → Type 0
IsSharedPlanRefusal tasks items readers start room (refusals.Room needed) = IsRoomRefused (length tasks) room needed
IsSharedPlanRefusal tasks items readers start room (refusals.Shared refusal) = IsSharedRefusal tasks items readers refusal
IsSharedPlanRefusal tasks items readers start room (refusals.Replay refusal) =
    IsSharedSystem (shared_system_given tasks items readers)
    × IsStartRefusal (shared_system_given tasks items readers) start refusal
IsSharedPlanRefusal tasks items readers start room refusals.NoMemory = Unit {0}
IsSharedPlanRefusal tasks items readers start room other = ⊥

-- a core for an order of the tasks, a bound and so many workers
abbrev pub IsSharedBeginRefusal : List GivenTask → List GivenSharedItem → List ℕ → List ℕ → ℕ → ℕ → Refusal → Type 0
IsSharedBeginRefusal tasks items readers order bound workers refusals.Workers = (1 ≤ workers) × (workers ≤ most_workers) → ⊥
IsSharedBeginRefusal tasks items readers order bound workers (refusals.Shared refusal) = IsSharedRefusal tasks items readers refusal
IsSharedBeginRefusal tasks items readers order bound workers (refusals.Core refusal) =
    IsSharedSystem (shared_system_given tasks items readers)
    × IsCoreRefusal (shared_system_given tasks items readers) order bound refusal
IsSharedBeginRefusal tasks items readers order bound workers refusals.NoMemory = Unit {0}
IsSharedBeginRefusal tasks items readers order bound workers other = ⊥
