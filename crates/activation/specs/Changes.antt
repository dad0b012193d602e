-- How an event changes booked memory, used memory and the number of running tasks.
use Rattle.std.specs.Prelude.{◌≡◌, ℕ, ◌+◌}
use Rattle.shared_systems.specs.Shared.{shared_outputs_of, shared_need_of}
use Rattle.shared_systems.specs.Freed.{freed_by}
use Rattle.activation.specs.declared.events.EventKind.{EventKind}
use Rattle.activation.specs.declared.events.EventKind.TheVariants.{Activate, Start, Finish}
use Rattle.activation.specs.Machine.{Setting, State, is_done, state_after, booked_memory, used_memory, running_count}

-- an activation books the task's need
pub record BooksNeed (c : Setting) (st : State) (t : ℕ) : Type 0 where
  pub booked : booked_memory c (state_after st Activate t) ≡ booked_memory c st + shared_need_of c.system t

-- a start uses it, and a worker
pub record UsesNeed (c : Setting) (st : State) (t : ℕ) : Type 0 where
  pub booked : booked_memory c (state_after st Start t) ≡ booked_memory c st
  pub used : used_memory c (state_after st Start t) ≡ used_memory c st + shared_need_of c.system t
  pub running : running_count c (state_after st Start t) ≡ running_count c st + 1

-- a finish gives it back, takes away the items of which the task is the last reader, and adds the outputs
pub record FreesNeed (c : Setting) (st : State) (t : ℕ) : Type 0 where
  pub booked :
      booked_memory c (state_after st Finish t) + shared_need_of c.system t + freed_by c.system (is_done st) t
      ≡ booked_memory c st + shared_outputs_of c.system t
  pub used :
      used_memory c (state_after st Finish t) + shared_need_of c.system t + freed_by c.system (is_done st) t
      ≡ used_memory c st + shared_outputs_of c.system t
  pub running : running_count c (state_after st Finish t) + 1 ≡ running_count c st

abbrev pub IsChange : Setting → State → EventKind → ℕ → Type 0
IsChange c st Activate t = BooksNeed c st t
IsChange c st Start t = UsesNeed c st t
IsChange c st Finish t = FreesNeed c st t
