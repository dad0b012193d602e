-- Terms of series-parallel workflows, and the memory of their first, last and least states (Liu 1987 for the replay of a task;
-- series-parallel composition as in Valdes, Tarjan and Lawler 1982).
use Rattle.std.specs.Prelude.{ℕ, ◌+◌, ◌-◌, ◌≤◌, min, suc}
use Rattle.mp_system.specs.declared.system.Task.{Task}

-- a data item that is held; a first term, a task and a second term; or parts side by side
mutual
  pub data Term : Type 0 where
    hold : ℕ → Term
    series : Term → Task → Term → Term
    par : Parts → Term

  pub data Parts : Type 0 where
    no_parts : Parts
    part : Term → Parts → Parts

-- the direction in which states are passed: from the first state on, or from the last one back
pub data Direction : Type 0 where
  forward : Direction
  backward : Direction

-- the memory of the first state in a direction
abbrev mutual
  pub first_memory : Direction → Term → ℕ
  first_memory d (hold size) = size
  first_memory forward (series a v b) = first_memory forward a
  first_memory backward (series a v b) = first_memory backward b
  first_memory d (par ts) = first_memory_of_parts d ts

  pub first_memory_of_parts : Direction → Parts → ℕ
  first_memory_of_parts d no_parts = 0
  first_memory_of_parts d (part t ts) = first_memory d t + first_memory_of_parts d ts

-- the memory of the state before any task has run
abbrev pub initial_of : Term → ℕ
initial_of t = first_memory forward t

-- the memory of the state after all tasks have run
abbrev pub final_of : Term → ℕ
final_of t = first_memory backward t

-- the memory of the least state
abbrev mutual
  pub least_of : Term → ℕ
  least_of (hold size) = size
  least_of (series a v b) = min (least_of a) (least_of b)
  least_of (par ts) = least_of_parts ts

  pub least_of_parts : Parts → ℕ
  least_of_parts no_parts = 0
  least_of_parts (part t ts) = least_of t + least_of_parts ts

-- the memory while the task of a series runs
abbrev pub hill_of : Term → Task → Term → ℕ
hill_of a v b = final_of a + ((v.extra + initial_of b) - v.share)

-- the number of positions
abbrev mutual
  pub width_of : Term → ℕ
  width_of (hold size) = 1
  width_of (series a v b) = suc (width_of a + width_of b)
  width_of (par ts) = suc (width_of_parts ts)

  pub width_of_parts : Parts → ℕ
  width_of_parts no_parts = 0
  width_of_parts (part t ts) = width_of t + width_of_parts ts

-- the number of parts
abbrev pub count : Parts → ℕ
count no_parts = 0
count (part t ts) = suc (count ts)

-- every `par` has two parts or more, and every share is at most what the first part leaves, and at most the task's extra and
-- what the second part starts with
abbrev mutual
  pub IsAllowed : Term → Type 0
  IsAllowed (hold size) = Unit {0}
  IsAllowed (series a v b) = (v.share ≤ final_of a) × (v.share ≤ v.extra + initial_of b) × IsAllowed a × IsAllowed b
  IsAllowed (par ts) = (2 ≤ count ts) × AreAllowed ts

  pub AreAllowed : Parts → Type 0
  AreAllowed no_parts = Unit {0}
  AreAllowed (part t ts) = IsAllowed t × AreAllowed ts
