-- No public clause names this.
-- A simulated run between two events: its trees and tables, and what they stand for.
use Rattle.std.specs.Prelude.{◌≡◌, ◌≢◌, ℕ, ◌+◌, ◌*◌, ◌<◌, ◌≤◌, Bool, true, false, if◌then◌else◌, All, List, [], length, map, slice_index}
use Rattle.std.specs.Prelude.{slice_index_or, replicate}
use Rattle.std.specs.List.{sum_by}
use Rattle.limits.specs.Limits.{most_time}
use Rattle.shared_systems.specs.Shared.{HasTask}
use Rattle.activation.specs.declared.events.Phase.{Phase}
use Rattle.activation.specs.declared.events.Phase.TheVariants.{Idle, Running, Done}
use Rattle.activation.specs.declared.room.Room.{Room}
use Rattle.activation.specs.Machine.{Setting, State, phase_in, is_running, running_count}
use Rattle.activation.specs.Clock.{ClockValue, IsDueOf, has_place}
use Rattle.activation.specs.Schedule.{task_entry, Moment, StandsBefore, HoldsEach}
use Rattle.activation.specs.Tables.{IsNumbering, is_startable}

-- how many events a task has had, beside its activation
unfoldable pub steps_of : Phase → ℕ
steps_of Idle = 0
steps_of Running = 1
steps_of Done = 2

-- how many events have led to a state
unfoldable pub event_count : Setting → State → ℕ
event_count c st = st.activated + sum_by (λ t. steps_of (phase_in st.phases t)) c.order

-- what contracts see of a run
pub record RunValue : Type 0 where
  pub setting : Setting
  pub priority : List ℕ
  pub moment : Moment

-- the running task that is due first, and stands first in the order of those that are due with it
pub record IsNextDue (c : Setting) (m : Moment) (t : ℕ) : Type 0 where
  pub running : phase_in m.state.phases t ≡ Running
  pub least : (u : ℕ) → phase_in m.state.phases u ≡ Running → task_entry m.dues t ≤ task_entry m.dues u
  pub first : (u : ℕ) → phase_in m.state.phases u ≡ Running → task_entry m.dues u ≡ task_entry m.dues t → u ≢ t → StandsBefore c.order t u

-- the startable task that stands first in the priority
pub record IsFirstStartable (c : Setting) (priority : List ℕ) (st : State) (t : ℕ) : Type 0 where
  pub task : HasTask c.system t
  pub startable : is_startable c st t ≡ true
  pub first : (u : ℕ) → HasTask c.system u → is_startable c st u ≡ true → u ≢ t → StandsBefore priority t u

-- the trees and tables of a run
pub record RunTables : Type 0 where
  pub dues : List ℕ
  pub clock : ClockValue
  pub ready : List Bool
  pub ranks : List ℕ
  pub priority : List ℕ

abbrev pub run_tables : Room → RunTables
run_tables room = record {
  dues = room.dues.items;
  clock = room.clock;
  ready = room.ready;
  ranks = room.ranks.items;
  priority = room.priority.items;
}

-- the priority, told by places of the order, holds each task once, and the ranks of the places are where they stand in it
pub record AreRanked (c : Setting) (priority ranks : List ℕ) : Type 0 where
  pub each : HoldsEach c.system (map (slice_index c.order) priority)
  pub long : length priority ≡ length c.order
  pub ranks_are : IsNumbering (length c.order) ranks
  pub places : (r : ℕ) → r < length priority → slice_index ranks (slice_index priority r) ≡ r

-- the clock has the due of each running task once, and no other; the set of the startable ones has the ranks of the startable tasks
pub record IsRun (c : Setting) (st : State) (time : ℕ) (x : RunTables) : Type 0 where
  pub ranked : AreRanked c x.priority x.ranks
  pub dues_long : length x.dues ≡ length c.system.tasks
  pub clock_room : x.clock.room ≡ c.workers
  pub clock_long : length x.clock.dues ≡ running_count c st
  pub clock_has : (k : ℕ) → k < length c.order → sum_by (has_place k) x.clock.dues
      ≡ (if is_running st (slice_index c.order k) then 1 else 0)
  pub clock_is : All (IsDueOf c.order x.dues) x.clock.dues
  pub ready_long : length x.ready ≡ length c.order
  pub ready_is : (k : ℕ) → k < length c.order → slice_index_or x.ready (slice_index x.ranks k) false
      ≡ is_startable c st (slice_index c.order k)
  pub not_past : (t : ℕ) → phase_in st.phases t ≡ Running → time ≤ task_entry x.dues t
  pub dues_small : (t : ℕ) → phase_in st.phases t ≡ Running → task_entry x.dues t ≤ most_time * event_count c st
  pub time_small : time ≤ most_time * event_count c st

-- the room that a run takes, before it has begun
pub record IsRoom (c : Setting) (x : RunTables) : Type 0 where
  pub dues_are : x.dues ≡ replicate (length c.system.tasks) 0
  pub clock_are : x.clock ≡ record { dues = []; room = c.workers }
  pub ready_are : x.ready ≡ replicate (length c.order) false
  pub ranks_long : length x.ranks ≡ length c.order
  pub priority_long : length x.priority ≡ length c.order
