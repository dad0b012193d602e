-- Fences that a caller gives, and amounts for them: what they certify, and what they are refused with.
use Rattle.std.specs.Prelude.{◌≡◌, ◌≢◌, ℕ, ◌+◌, ◌-◌, ◌<◌, ◌≤◌, ◌++◌, List, length, map, slice_index_or}
use Rattle.limits.specs.Limits.{most_positions}
use Rattle.lists.specs.Numbers.{Each, IsFirstWithout}
use Rattle.mp_system.specs.declared.system.Item.{Item}
use Rattle.mp_system.specs.System.{TaskSystem, IsTask}
use Rattle.mp_system.specs.Traversal.{IsTraversal}
use Rattle.fences.specs.declared.fenced.Fence.{Fence}
use Rattle.fences.specs.declared.fenced.FenceTest.{FenceTest}
use Rattle.fences.specs.declared.fenced.FenceTest.TheVariants as tests
use Rattle.fences.specs.declared.fenced.FencesRefusal.{FencesRefusal}
use Rattle.fences.specs.declared.fenced.FencesRefusal.TheVariants as refusals
use Rattle.fences.specs.declared.ordered.OrderFault.{OrderFault}
use Rattle.fences.specs.declared.ordered.OrderFault.TheVariants as faults
use Rattle.fences.specs.declared.judged.AmountsRefusal.{AmountsRefusal}
use Rattle.fences.specs.declared.judged.AmountsRefusal.TheVariants as amounts_refusals
use Rattle.fences.specs.Amounts.{certified_bound}
use Rattle.fences.specs.Judged.{AreAccepted, IsAmountsRefusal}
use Rattle.fences.specs.Orders.{IsOrderFault}
use Rattle.fences.specs.Fences.{fence}

-- the system with the fences, behind its items
abbrev pub fence_item : Fence → Item
fence_item given = fence given.from given.to

abbrev pub with_fences : TaskSystem → List Fence → TaskSystem
with_fences system fences = record { tasks = system.tasks; items = system.items ++ map fence_item fences }

abbrev pub fence_at : List Fence → ℕ → Fence
fence_at fences place = slice_index_or fences (place - 1) (record { from = 0; to = 0 })

-- a fence passes a test: it is from a task to a task, and to another one
abbrev pub FencePasses : TaskSystem → List Fence → FenceTest → ℕ → Type 0
FencePasses system fences tests.Tasks place = IsTask system (fence_at fences place).from × IsTask system (fence_at fences place).to
FencePasses system fences tests.Apart place = (fence_at fences place).from ≢ (fence_at fences place).to

-- it passes the tests before this one
abbrev pub PassesBefore : TaskSystem → List Fence → FenceTest → ℕ → Type 0
PassesBefore system fences tests.Tasks place = Unit {0}
PassesBefore system fences tests.Apart place = FencePasses system fences tests.Tasks place

-- it passes both
abbrev pub FenceFits : TaskSystem → List Fence → ℕ → Type 0
FenceFits system fences place = (test : FenceTest) → FencePasses system fences test place

-- as many fences as there may be, each of which fits
abbrev pub AreFew : TaskSystem → List Fence → Type 0
AreFew system fences = length system.items + length fences ≤ most_positions

pub record AreFences (system : TaskSystem) (fences : List Fence) : Type 0 where
  pub few : AreFew system fences
  pub fit : Each (length fences) (FenceFits system fences)

-- and some order passes them
pub record LeaveOrder (system : TaskSystem) (fences : List Fence) : Type 0 where
  pub are_fences : AreFences system fences
  pub order : List ℕ
  pub traversal : IsTraversal (with_fences system fences) order

-- and amounts certify the bound
pub record Certify (system : TaskSystem) (fences : List Fence) (amounts : List ℕ) (bound : ℕ) : Type 0 where
  pub leave : LeaveOrder system fences
  pub accepted : AreAccepted (with_fences system fences) amounts
  pub within : certified_bound (with_fences system fences) amounts ≤ bound

-- the same under another name
abbrev pub of_order : OrderFault → FencesRefusal
of_order (faults.OwnInput place) = refusals.OwnInput place
of_order (faults.Cycle v) = refusals.Cycle v
of_order faults.NoMemory = refusals.NoMemory

abbrev pub of_amounts : AmountsRefusal → FencesRefusal
of_amounts amounts_refusals.Length = refusals.Length
of_amounts (amounts_refusals.Item test place) = refusals.Item test place
of_amounts amounts_refusals.Total = refusals.Total
of_amounts amounts_refusals.NoMemory = refusals.NoMemory

-- the first test that fails; want of memory tells nothing
abbrev pub IsFencesRefusal : TaskSystem → List Fence → List ℕ → ℕ → FencesRefusal → Type 0
IsFencesRefusal system fences amounts bound refusals.ManyFences = most_positions < length system.items + length fences
IsFencesRefusal system fences amounts bound (refusals.Fence test place) =
    AreFew system fences
    × IsFirstWithout (length fences) (FenceFits system fences) place
    × PassesBefore system fences test place
    × (¬ FencePasses system fences test place)
IsFencesRefusal system fences amounts bound (refusals.OwnInput place) =
    AreFences system fences × IsOrderFault (with_fences system fences) (faults.OwnInput place)
IsFencesRefusal system fences amounts bound (refusals.Cycle v) =
    AreFences system fences × IsOrderFault (with_fences system fences) (faults.Cycle v)
IsFencesRefusal system fences amounts bound refusals.Length =
    LeaveOrder system fences × IsAmountsRefusal (with_fences system fences) amounts amounts_refusals.Length
IsFencesRefusal system fences amounts bound (refusals.Item test place) =
    LeaveOrder system fences × IsAmountsRefusal (with_fences system fences) amounts (amounts_refusals.Item test place)
IsFencesRefusal system fences amounts bound refusals.Total =
    LeaveOrder system fences × IsAmountsRefusal (with_fences system fences) amounts amounts_refusals.Total
IsFencesRefusal system fences amounts bound (refusals.Bound certified) =
    LeaveOrder system fences
    × AreAccepted (with_fences system fences) amounts
    × (certified ≡ certified_bound (with_fences system fences) amounts)
    × (bound < certified)
IsFencesRefusal system fences amounts bound refusals.NoMemory = Unit {0}
