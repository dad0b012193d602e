-- No public clause names this.
-- What the code of the system keeps: the terms whose positions are still to come, and the tasks on either side of each.
use Rattle.std.specs.Prelude.{ℕ, ◌+◌, List, [], ◌∷◌, ◌++◌, Option, Some, None}
use Rattle.std.specs.List.{filter_map}
use Rattle.mp_system.specs.declared.system.Task.{Task}
use Rattle.mp_system.specs.declared.system.Item.{Item}
use Rattle.sp_terms.specs.declared.position.Position.{Position}
use Rattle.sp_terms.specs.declared.position.Position.TheVariants.{Hold, Par}
use Rattle.sp_terms.specs.declared.position.Position.TheVariants as at
use Rattle.sp_terms.specs.declared.system.Pending.{Pending}
use Rattle.sp_terms.specs.Term.{Term}
use Rattle.sp_terms.specs.SystemOfTerm.{task_count, items_of_term}

abbrev pub task_of : Position → Option Task
task_of (Hold size) = None
task_of (at.Task extra share time) = Some (record { extra = extra; share = share; time = time })
task_of (Par k) = None

-- the tasks among these positions
abbrev pub tasks_in : List Position → List Task
tasks_in ps = filter_map task_of ps

-- the number of the next task after those in the terms of a stack
abbrev pub next_number : List Term → ℕ
next_number [] = 1
next_number (t ∷ stack) = next_number stack + task_count t

-- the items of the terms of a stack, each between its tasks; the lowest term comes first
abbrev pub pending_items : List Term → List Pending → List Item
pending_items [] pending = []
pending_items (t ∷ stack) [] = []
pending_items (t ∷ stack) (o ∷ pending) = pending_items stack pending ++ items_of_term (next_number stack) o.from o.to t
