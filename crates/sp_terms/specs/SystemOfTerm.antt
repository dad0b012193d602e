-- The system of a term. Tasks are numbered from 1 in the order of their positions, so the task of a series comes after those of
-- its parts; the items are the data in order.
use Rattle.std.specs.Prelude.{ℕ, suc, ◌+◌, List, [], ◌∷◌, ◌++◌, Option, Some, None}
use Rattle.mp_system.specs.declared.system.Task.{Task}
use Rattle.mp_system.specs.declared.system.Item.{Item}
use Rattle.mp_system.specs.System.{TaskSystem}
use Rattle.sp_terms.specs.Term.{Term, hold, series, par, Parts, no_parts, part}

-- the number of tasks
abbrev mutual
  pub task_count : Term → ℕ
  task_count (hold size) = 0
  task_count (series a v b) = suc (task_count a + task_count b)
  task_count (par ts) = task_count_of_parts ts

  pub task_count_of_parts : Parts → ℕ
  task_count_of_parts no_parts = 0
  task_count_of_parts (part t ts) = task_count t + task_count_of_parts ts

-- the tasks, in the order of their positions
abbrev mutual
  pub tasks_of_term : Term → List Task
  tasks_of_term (hold size) = []
  tasks_of_term (series a v b) = tasks_of_term a ++ (tasks_of_term b ++ v ∷ [])
  tasks_of_term (par ts) = tasks_of_parts ts

  pub tasks_of_parts : Parts → List Task
  tasks_of_parts no_parts = []
  tasks_of_parts (part t ts) = tasks_of_term t ++ tasks_of_parts ts

-- the number of the task of a series, where tasks are numbered from `base` on
abbrev pub own_number : ℕ → Term → Term → ℕ
own_number base a b = base + (task_count a + task_count b)

-- The items of a term whose tasks are numbered from `base` on: `from` produces those that no task of the term produces, and `to`
-- consumes those that none consumes. So the task of a series consumes every item without a consumer in its first part, and
-- produces every item without a producer in its second.
abbrev mutual
  pub items_of_term : ℕ → Option ℕ → Option ℕ → Term → List Item
  items_of_term base from to (hold size) = record { size = size; from = from; to = to } ∷ []
  items_of_term base from to (series a v b) =
      items_of_term base from (Some (own_number base a b)) a ++ items_of_term (base + task_count a) (Some (own_number base a b)) to b
  items_of_term base from to (par ts) = items_of_parts base from to ts

  pub items_of_parts : ℕ → Option ℕ → Option ℕ → Parts → List Item
  items_of_parts base from to no_parts = []
  items_of_parts base from to (part t ts) = items_of_term base from to t ++ items_of_parts (base + task_count t) from to ts

-- no task outside produces what the term starts with, and none consumes what it leaves
abbrev pub system_of_term : Term → TaskSystem
system_of_term t = record { tasks = tasks_of_term t; items = items_of_term 1 None None t }
