-- What every state keeps that events lead to from the start.
use Rattle.std.specs.Prelude.{◌≡◌, ◌≢◌, ℕ, ◌≤◌, true, length}
use Rattle.mp_system.specs.Memory.{stands_in}
use Rattle.shared_systems.specs.SharedMemory.{has_inputs}
use Rattle.activation.specs.declared.events.Phase.TheVariants.{Idle}
use Rattle.activation.specs.Machine.{Setting, State, phase_in, is_done, activated_tasks, running_count, booked_memory, used_memory}

-- the activated tasks are a prefix of the order; running and done tasks are activated, and what they read has been made; at most as
-- many tasks run as there are workers; used memory is at most booked memory, and that at most the bound. No task runs and is done,
-- since it has one phase
pub record IsSafe (c : Setting) (st : State) : Type 0 where
  pub phases : length st.phases ≡ length c.system.tasks
  pub prefix : st.activated ≤ length c.order
  pub activated : (t : ℕ) → phase_in st.phases t ≢ Idle → stands_in (activated_tasks c st) t ≡ true
  pub ready : (t : ℕ) → phase_in st.phases t ≢ Idle → has_inputs c.system (is_done st) t ≡ true
  pub workers : running_count c st ≤ c.workers
  pub used : used_memory c st ≤ booked_memory c st
  pub booked : booked_memory c st ≤ c.bound
