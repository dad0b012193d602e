-- Parallel runs of a shared system that keep to fences, whatever starts the tasks, in whatever order, and however long they take.
use Rattle.std.specs.Prelude.{◌≡◌, ◌==◌, ℕ, ◌+◌, ◌-◌, ◌≤◌, Bool, true, false, nat_le, ◌||◌, not, if◌then◌else◌, List, [], ◌∷◌, ◌++◌, count_by, length}
use Rattle.std.specs.List.{filter, list_all, range_with_len, sum_by}
use Rattle.shared_systems.specs.Shared.{SharedTaskSystem, HasTask, shared_item_at, shared_need_of}
use Rattle.shared_systems.specs.SharedMemory.{are_done, has_inputs, shared_memory}
use Rattle.shared_systems.specs.Collected.{is_shared}
use Rattle.fences.specs.declared.fenced.Fence.{Fence}
use Rattle.fences.specs.declared.certificate.Workers.{Workers}
use Rattle.fences.specs.declared.certificate.Workers.TheVariants as workers
use Rattle.fences.specs.Moments.{Moment}
use Rattle.fences.specs.Runs.Change.{starts, ends}
use Rattle.fences.specs.Runs.{Change, first_moment, moment_after, moment_after_all, task_of}

-- behind all readers of an item that has several there is a join; in a system of n tasks the joins are numbered n + 1, n + 2 and so on, in the
-- order of their items
abbrev pub readers_before_join : SharedTaskSystem → ℕ → List ℕ
readers_before_join system k = (shared_item_at (filter is_shared system.items) (k - length system.tasks - 1)).readers

-- what a fence waits for is over: a task is done, or all readers behind which a join stands are
abbrev pub is_over : SharedTaskSystem → (ℕ → Bool) → ℕ → Bool
is_over system done u = if nat_le u (length system.tasks) then done u else are_done done (readers_before_join system u)

-- and so is everything for which fences let a task wait
abbrev pub are_passed : SharedTaskSystem → List Fence → (ℕ → Bool) → ℕ → Bool
are_passed system fences done v = list_all (λ f. not (f.to == v) || is_over system done f.from) fences

-- a task that starts is new, what it reads has been made, and it waits for nothing any more
pub record CanStartFenced (system : SharedTaskSystem) (fences : List Fence) (moment : Moment) (v : ℕ) : Type 0 where
  pub task : HasTask system v
  pub not_done : moment.done v ≡ false
  pub not_running : moment.running v ≡ false
  pub ready : has_inputs system moment.done v ≡ true
  pub passed : are_passed system fences moment.done v ≡ true

abbrev pub CanComeFenced : SharedTaskSystem → List Fence → Moment → Change → Type 0
CanComeFenced system fences moment (starts v) = CanStartFenced system fences moment v
CanComeFenced system fences moment (ends v) = moment.running v ≡ true

-- the changes can come one after the other
abbrev pub IsFencedRunFrom : SharedTaskSystem → List Fence → Moment → List Change → Type 0
IsFencedRunFrom system fences moment [] = Unit {0}
IsFencedRunFrom system fences moment (change ∷ rest) =
    CanComeFenced system fences moment change × IsFencedRunFrom system fences (moment_after moment change) rest

-- a parallel run that keeps to the fences, whole or cut off anywhere
abbrev pub IsFencedRun : SharedTaskSystem → List Fence → List Change → Type 0
IsFencedRun system fences changes = IsFencedRunFrom system fences first_moment changes

abbrev pub shared_numbers : SharedTaskSystem → List ℕ
shared_numbers system = range_with_len 1 (length system.tasks)

-- used memory: the items that are held, and the needs of the running tasks
abbrev pub shared_used : SharedTaskSystem → Moment → ℕ
shared_used system moment =
    shared_memory system moment.done + sum_by (λ v. if moment.running v then shared_need_of system v else 0) (shared_numbers system)

-- no more tasks run than there are workers
abbrev pub AreServed : SharedTaskSystem → Workers → Moment → Type 0
AreServed system workers.Any moment = Unit {0}
AreServed system (workers.AtMost count room) moment = count_by moment.running (shared_numbers system) ≤ count

-- along every parallel run that keeps to the fences at most so much memory is used, at each moment at which no more tasks run than there are
-- workers
abbrev pub KeepsBound : SharedTaskSystem → List Fence → Workers → ℕ → Type 0
KeepsBound system fences workers bound =
    (before rest : List Change) → IsFencedRun system fences (before ++ rest) →
    AreServed system workers (moment_after_all first_moment before) →
    shared_used system (moment_after_all first_moment before) ≤ bound

-- as long as a task is not done, every such run can go on with a start or an end of some task; as each task starts and ends once, it comes to
-- an end with all of them done
abbrev pub GoesOn : SharedTaskSystem → List Fence → Type 0
GoesOn system fences =
    (changes : List Change) (v : ℕ) → IsFencedRun system fences changes → HasTask system v →
    (moment_after_all first_moment changes).done v ≡ false →
    (change : Change) × HasTask system (task_of change) × IsFencedRun system fences (changes ++ change ∷ [])
