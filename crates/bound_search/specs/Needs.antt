-- No public clause names this.
-- The most of what each task reads and needs, and of what is there at the start.
use Rattle.std.specs.Prelude.{◌≡◌, ℕ, ◌≤◌, Option, Some, None}
use Rattle.limits.specs.Limits.{most_total}
use Rattle.shared_systems.specs.Shared.{SharedTaskSystem, HasTask}
use Rattle.peak_bounds.specs.Evidence.{memory_at_start, memory_of_task}
use Rattle.bound_search.specs.declared.needs.Most.{Most}

-- a task reads and needs so much; without a task, it is there at the start
abbrev pub IsNeeded : SharedTaskSystem → Option ℕ → ℕ → Type 0
IsNeeded system None memory = memory ≡ memory_at_start system
IsNeeded system (Some t) memory = HasTask system t × (memory ≡ memory_of_task system t)

-- it is so of one of the first tasks or of the start, and no less than any of them
pub record IsMostOf (system : SharedTaskSystem) (count : ℕ) (most : Most) : Type 0 where
  pub needed : IsNeeded system most.task most.memory
  pub within : most.memory ≤ most_total
  pub start : memory_at_start system ≤ most.memory
  pub tasks : (t : ℕ) → 1 ≤ t → t ≤ count → memory_of_task system t ≤ most.memory

-- the same of all tasks
pub record IsMost (system : SharedTaskSystem) (most : Most) : Type 0 where
  pub needed : IsNeeded system most.task most.memory
  pub within : most.memory ≤ most_total
  pub start : memory_at_start system ≤ most.memory
  pub tasks : (t : ℕ) → HasTask system t → memory_of_task system t ≤ most.memory
