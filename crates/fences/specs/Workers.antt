-- Runs on at most so many workers: room is set aside for each of them, and what tasks need beyond it is certified by amounts. Not all tasks that
-- could run at once do, so that fewer fences are enough.
use Rattle.std.specs.Prelude.{ℕ, ◌+◌, ◌*◌, ◌≤◌, List, ◌++◌, count_by, map}
use Rattle.mp_system.specs.declared.system.Task.{Task}
use Rattle.mp_system.specs.System.{TaskSystem}
use Rattle.fences.specs.Moments.{Moment, numbers_of, used_memory}
use Rattle.fences.specs.Runs.{Change, IsRun, first_moment, moment_after_all}

-- the system in which each task needs so much less while it runs, and nothing where it needs no more than that
abbrev pub relieved_task : ℕ → Task → Task
relieved_task room task = record { extra = task.extra; share = task.share + room; time = task.time }

abbrev pub relieved : ℕ → TaskSystem → TaskSystem
relieved room system = record { tasks = map (relieved_task room) system.tasks; items = system.items }

-- how many tasks run
abbrev pub running_count : TaskSystem → Moment → ℕ
running_count system moment = count_by moment.running (numbers_of system)

-- along every parallel run at most so much memory is used, beside the room for each task that runs
abbrev pub BoundsRunsBeside : TaskSystem → ℕ → ℕ → Type 0
BoundsRunsBeside system room bound =
    (before rest : List Change) → IsRun system (before ++ rest) →
    used_memory system (moment_after_all first_moment before) ≤ bound + room * running_count system (moment_after_all first_moment before)
