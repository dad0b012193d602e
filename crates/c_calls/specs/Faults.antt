-- What a refused call answers: its status, as the program's, and its fault, by the kinds of the header.
use Rattle.std.specs.Prelude.{◌≡◌, ℕ}
use Rattle.mp_system.specs.declared.order.OrderFault.{OrderFault}
use Rattle.mp_system.specs.declared.order.ReplayRefusal.{ReplayRefusal}
use Rattle.mp_system.specs.declared.order.ReplayRefusal.TheVariants as replays
use Rattle.mp_system.specs.declared.system.OrderKind.{OrderKind}
use Rattle.mp_system.specs.declared.system.OrderKind.TheVariants as order_kinds
use Rattle.mp_system.specs.declared.judged.ItemTest.TheVariants as item_tests
use Rattle.mp_system.specs.declared.judged.SystemRefusal.{SystemRefusal}
use Rattle.mp_system.specs.declared.judged.SystemRefusal.TheVariants as systems
use Rattle.mp_system.specs.declared.judged.TaskTest.TheVariants as task_tests
use Rattle.shared_systems.specs.declared.judged.SharedItemTest.TheVariants as shared_tests
use Rattle.shared_systems.specs.declared.judged.SharedRefusal.{SharedRefusal}
use Rattle.shared_systems.specs.declared.judged.SharedRefusal.TheVariants as shared
use Rattle.patterns.specs.declared.columns.ColumnsRefusal.{ColumnsRefusal}
use Rattle.patterns.specs.declared.columns.ColumnsRefusal.TheVariants as columns
use Rattle.permutations.specs.declared.numbers.PermRefusal.{PermRefusal}
use Rattle.permutations.specs.declared.numbers.PermRefusal.TheVariants as perms
use Rattle.ordering.specs.declared.minimum_degree.MindegRefusal.{MindegRefusal}
use Rattle.ordering.specs.declared.minimum_degree.MindegRefusal.TheVariants as degrees
use Rattle.equivalent_orders.specs.declared.arrays.FrontsRefusal.{FrontsRefusal}
use Rattle.equivalent_orders.specs.declared.arrays.FrontsRefusal.TheVariants as fronts
use Rattle.trees.specs.declared.judged.NodeTest.TheVariants as tests
use Rattle.trees.specs.declared.judged.NodesRefusal.{NodesRefusal}
use Rattle.trees.specs.declared.judged.NodesRefusal.TheVariants as nodes
use Rattle.activation.specs.declared.refusal.CoreRefusal.{CoreRefusal}
use Rattle.activation.specs.declared.refusal.CoreRefusal.TheVariants as cores
use Rattle.spill_plan.specs.declared.refusal.SpillRefusal.{SpillRefusal}
use Rattle.spill_plan.specs.declared.refusal.SpillRefusal.TheVariants as spills
use Rattle.claim_check.specs.declared.objection.Objection.{Objection}
use Rattle.claim_check.specs.declared.objection.Objection.TheVariants as objections
use Rattle.c_calls.specs.FaultKinds as kinds
use Rattle.c_calls.specs.Statuses as status
use Rattle.c_calls.specs.declared.faults.Answer.{Answer}
use Rattle.c_calls.specs.declared.faults.Fault.{Fault}
use Rattle.c_calls.specs.declared.refusal.PlanFault.{PlanFault}
use Rattle.c_calls.specs.declared.refusal.PlanFault.TheVariants as plans
use Rattle.c_calls.specs.declared.refusal.Refusal.{Refusal}
use Rattle.c_calls.specs.declared.refusal.Refusal.TheVariants as refusals

-- a status, a kind, where it is, and what the kind tells beside that
abbrev pub answer : ℕ → ℕ → ℕ → ℕ → Answer
answer status kind at value = record { status = status; fault = record { kind = kind; at = at; value = value } }

abbrev pub no_memory : Answer
no_memory = answer status.no_memory kinds.no_memory 0 0

-- nodes: `format` where they are no tree, `limit` where they pass one
abbrev pub of_nodes : NodesRefusal → Answer
of_nodes nodes.NoNode = answer status.format kinds.no_node 0 0
of_nodes nodes.ManyNodes = answer status.limit kinds.many_tasks 0 0
of_nodes (nodes.Node tests.Parent v) = answer status.format kinds.parent v 0
of_nodes (nodes.Node tests.Time v) = answer status.format kinds.time v 0
of_nodes (nodes.Node tests.Size v) = answer status.limit kinds.size v 0
of_nodes (nodes.Node tests.LongTime v) = answer status.limit kinds.long_time v 0
of_nodes nodes.Total = answer status.limit kinds.total 0 0
of_nodes (nodes.Cycle v) = answer status.format kinds.cycle v 0
of_nodes (nodes.Share v) = answer status.format kinds.share v 0
of_nodes nodes.NoMemory = no_memory

-- tasks and items: `format` where they are no system, `limit` where they pass one
abbrev pub of_system : SystemRefusal → Answer
of_system systems.ManyTasks = answer status.limit kinds.many_tasks 0 0
of_system systems.ManyItems = answer status.limit kinds.many_items 0 0
of_system (systems.Task task_tests.Time v) = answer status.format kinds.time v 0
of_system (systems.Task task_tests.Size v) = answer status.limit kinds.size v 0
of_system (systems.Task task_tests.LongTime v) = answer status.limit kinds.long_time v 0
of_system (systems.Item item_tests.Ends i) = answer status.format kinds.ends i 0
of_system (systems.Item item_tests.Size i) = answer status.limit kinds.item_size i 0
of_system systems.Total = answer status.limit kinds.total 0 0
of_system (systems.Share v) = answer status.format kinds.share v 0
of_system systems.NoMemory = no_memory

-- tasks, items and readers: `usage` where there are not as many readers as the items say, `format` where they are no system, `limit` where
-- they pass one
abbrev pub of_shared : SharedRefusal → Answer
of_shared shared.ManyTasks = answer status.limit kinds.many_tasks 0 0
of_shared shared.ManyItems = answer status.limit kinds.many_items 0 0
of_shared shared.ManyUses = answer status.limit kinds.many_uses 0 0
of_shared shared.Counts = answer status.usage kinds.counts 0 0
of_shared (shared.Task task_tests.Time v) = answer status.format kinds.time v 0
of_shared (shared.Task task_tests.Size v) = answer status.limit kinds.size v 0
of_shared (shared.Task task_tests.LongTime v) = answer status.limit kinds.long_time v 0
of_shared (shared.Item shared_tests.Producer i) = answer status.format kinds.ends i 0
of_shared (shared.Item shared_tests.Readers i) = answer status.format kinds.readers i 0
of_shared (shared.Item shared_tests.Apart i) = answer status.format kinds.apart i 0
of_shared (shared.Item shared_tests.Rising i) = answer status.format kinds.rising i 0
of_shared (shared.Item shared_tests.Size i) = answer status.limit kinds.item_size i 0
of_shared shared.Total = answer status.limit kinds.total 0 0
of_shared (shared.Cycle v) = answer status.format kinds.cycle v 0
of_shared (shared.Share v) = answer status.format kinds.share v 0
of_shared shared.NoMemory = no_memory

-- an order that is no traversal: its first fault
abbrev pub kind_of_order : OrderKind → ℕ
kind_of_order order_kinds.Unknown = kinds.unknown
kind_of_order order_kinds.Repeated = kinds.repeated
kind_of_order order_kinds.TooEarly = kinds.too_early
kind_of_order order_kinds.Missing = kinds.missing

abbrev pub of_order : OrderFault → Answer
of_order fault = answer status.no (kind_of_order fault.kind) fault.place 0

abbrev pub of_replay : ReplayRefusal → Answer
of_replay (replays.Order fault) = of_order fault
of_replay replays.NoMemory = no_memory

-- a bound below the peak: the peak
abbrev pub of_core : CoreRefusal → Answer
of_core (cores.Order fault) = of_order fault
of_core (cores.BoundBelow bound peak) = answer status.bound kinds.bound_below 0 peak
of_core cores.NoMemory = no_memory

-- a step that needs more for itself than the bound: the step, and what it needs
abbrev pub of_spill : SpillRefusal → Answer
of_spill (spills.Order fault) = of_order fault
of_spill (spills.WorkingSet step need bound) = answer status.working_set kinds.working_set step need
of_spill spills.NoMemory = no_memory

abbrev pub of_plan : PlanFault → Answer
of_plan plans.LongOrder = answer status.limit kinds.long_order 0 0
of_plan plans.GreatPeak = answer status.limit kinds.great_peak 0 0
of_plan plans.ManyClaims = answer status.limit kinds.many_claims 0 0
of_plan (plans.Claim k) = answer status.format kinds.claim k 0

-- what is objected to: the order; the peak, with the one that the order has; the claim on the whole term; the lowest claim that fails
abbrev pub of_objection : Objection → Answer
of_objection (objections.Order fault) = of_order fault
of_objection (objections.Peak replayed printed) = answer status.no kinds.other_peak 0 replayed
of_objection (objections.Root last) = answer status.no kinds.no_root_claim last 0
of_objection (objections.Claim position shape) = answer status.no kinds.wrong_claim position 0

-- compressed columns: `usage` where a number does not fit them, `format` where they are none, `limit` where they pass one; the starts tell
-- the entries
abbrev pub of_columns : ColumnsRefusal → Answer
of_columns columns.Base = answer status.usage kinds.base 0 0
of_columns columns.NoColumn = answer status.format kinds.no_column 0 0
of_columns columns.ManyColumns = answer status.limit kinds.many_columns 0 0
of_columns columns.ManyEntries = answer status.limit kinds.many_entries 0 0
of_columns (columns.Start j) = answer status.format kinds.start j 0
of_columns (columns.Entries told) = answer status.usage kinds.entries 0 told
of_columns (columns.Row k) = answer status.format kinds.row k 0
of_columns columns.NoMemory = no_memory

-- an order of elimination
abbrev pub of_perm : PermRefusal → Answer
of_perm perms.Places = answer status.usage kinds.places 0 0
of_perm (perms.Unknown k) = answer status.format kinds.no_such_column k 0
of_perm (perms.Repeated k) = answer status.format kinds.column_repeated k 0
of_perm perms.NoMemory = no_memory

abbrev pub of_degree : MindegRefusal → Answer
of_degree degrees.Limit = answer status.limit kinds.degree 0 0
of_degree degrees.NoMemory = no_memory

-- an order of fronts: a fault of it is that of an order of tasks
abbrev pub of_front_order : PermRefusal → Answer
of_front_order perms.Places = answer status.usage kinds.places 0 0
of_front_order (perms.Unknown k) = answer status.no kinds.unknown k 0
of_front_order (perms.Repeated k) = answer status.no kinds.repeated k 0
of_front_order perms.NoMemory = no_memory

-- columns, their fronts, and an order of the fronts
abbrev pub of_fronts : FrontsRefusal → Answer
of_fronts fronts.ManyColumns = answer status.limit kinds.many_columns 0 0
of_fronts fronts.Lengths = answer status.usage kinds.column_fronts 0 0
of_fronts fronts.ManyFronts = answer status.limit kinds.long_order 0 0
of_fronts (fronts.Columns refusal) = of_perm refusal
of_fronts (fronts.Fronts refusal) = of_front_order refusal
of_fronts (fronts.Front k) = answer status.format kinds.no_such_front k 0
of_fronts fronts.NoMemory = no_memory

abbrev pub answer_to : Refusal → Answer
answer_to (refusals.Room needed) = answer status.usage kinds.room 0 needed
answer_to (refusals.ClaimRoom needed) = answer status.usage kinds.claim_room 0 needed
answer_to (refusals.NodeRoom needed) = answer status.usage kinds.node_room 0 needed
answer_to refusals.Shape = answer status.usage kinds.shape 0 0
answer_to refusals.Workers = answer status.usage kinds.workers 0 0
answer_to (refusals.Nodes refusal) = of_nodes refusal
answer_to (refusals.System refusal) = of_system refusal
answer_to (refusals.Shared refusal) = of_shared refusal
answer_to (refusals.Replay refusal) = of_replay refusal
answer_to (refusals.Core refusal) = of_core refusal
answer_to (refusals.Spill refusal) = of_spill refusal
answer_to (refusals.Columns refusal) = of_columns refusal
answer_to (refusals.Perm refusal) = of_perm refusal
answer_to (refusals.Degree refusal) = of_degree refusal
answer_to (refusals.Fronts refusal) = of_fronts refusal
answer_to (refusals.Plan fault) = of_plan fault
answer_to (refusals.Objection objection) = of_objection objection
answer_to refusals.NoMemory = no_memory

-- a call is refused for a cause: the status and the fault are those of a refusal that has it
pub record IsRefusedFor (cause : Refusal → Type 0) (status : ℕ) (fault : Fault) : Type 0 where
  pub refusal : Refusal
  pub because : cause refusal
  pub status_is : status ≡ (answer_to refusal).status
  pub fault_is : fault ≡ (answer_to refusal).fault
