-- Parallel runs, whatever starts the tasks, in whatever order, on however many workers, and however long they take: a list of starts and ends.
use Rattle.std.specs.Prelude.{◌≡◌, ◌==◌, ℕ, ◌≤◌, true, false, ◌||◌, ◌&&◌, not, List, [], ◌∷◌, ◌++◌}
use Rattle.mp_system.specs.System.{TaskSystem, IsTask}
use Rattle.mp_system.specs.Memory.{is_ready}
use Rattle.fences.specs.Moments.{Moment, used_memory}

-- a task starts, or ends
pub data Change : Type 0 where
  starts : ℕ → Change
  ends : ℕ → Change

-- before the first change nothing is done, and nothing runs
abbrev pub first_moment : Moment
first_moment = record { done = λ _. false; running = λ _. false }

-- a task that starts is new, and what it consumes has been produced
pub record CanStart (system : TaskSystem) (moment : Moment) (v : ℕ) : Type 0 where
  pub not_done : moment.done v ≡ false
  pub not_running : moment.running v ≡ false
  pub ready : is_ready system moment.done v ≡ true

abbrev pub CanCome : TaskSystem → Moment → Change → Type 0
CanCome system moment (starts v) = CanStart system moment v
CanCome system moment (ends v) = moment.running v ≡ true

abbrev pub moment_after : Moment → Change → Moment
moment_after moment (starts v) = record { done = moment.done; running = λ u. moment.running u || u == v }
moment_after moment (ends v) = record { done = λ u. moment.done u || u == v; running = λ u. moment.running u && not (u == v) }

-- the changes can come one after the other, from this moment on; and the moment after them
abbrev pub IsRunFrom : TaskSystem → Moment → List Change → Type 0
IsRunFrom system moment [] = Unit {0}
IsRunFrom system moment (change ∷ rest) = CanCome system moment change × IsRunFrom system (moment_after moment change) rest

abbrev pub moment_after_all : Moment → List Change → Moment
moment_after_all moment [] = moment
moment_after_all moment (change ∷ rest) = moment_after_all (moment_after moment change) rest

-- a parallel run, whole or cut off anywhere
abbrev pub IsRun : TaskSystem → List Change → Type 0
IsRun system changes = IsRunFrom system first_moment changes

-- along every parallel run at most so much memory is used
abbrev pub BoundsRuns : TaskSystem → ℕ → Type 0
BoundsRuns system bound =
    (before rest : List Change) → IsRun system (before ++ rest) → used_memory system (moment_after_all first_moment before) ≤ bound

-- the task that starts, or ends
abbrev pub task_of : Change → ℕ
task_of (starts v) = v
task_of (ends v) = v

-- as long as a task is not done, every run can go on with a start or an end of some task; as each task starts and ends once, it comes to
-- an end with all of them done
abbrev pub NeverStops : TaskSystem → Type 0
NeverStops system =
    (changes : List Change) (v : ℕ) → IsRun system changes → IsTask system v → (moment_after_all first_moment changes).done v ≡ false →
    (change : Change) × IsTask system (task_of change) × IsRun system (changes ++ change ∷ [])
