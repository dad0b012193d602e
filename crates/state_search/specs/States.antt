-- The states of a shared system from which what is left can run with the memory below a bound, looked at from the end. A state is told by
-- marks, one for each task: whether it is done.
use Rattle.std.specs.Prelude.{◌≡◌, ◌≢◌, ℕ, ◌-◌, ◌<◌, Bool, true, false, ◌&&◌, not, nat_lt, nat_le, List, [], All, length, replicate}
use Rattle.std.specs.Prelude.{slice_index_or, slice_set}
use Rattle.std.specs.List.{list_any}
use Rattle.mp_system.specs.Replay.{is_marked}
use Rattle.shared_systems.specs.Shared.{SharedTaskSystem, SharedItem, is_made_by}
use Rattle.shared_systems.specs.SharedMemory.{shared_memory, shared_running}

abbrev pub none_done : SharedTaskSystem → List Bool
none_done system = replicate (length system.tasks) false

abbrev pub all_done : SharedTaskSystem → List Bool
all_done system = replicate (length system.tasks) true

-- the state before task v was run
abbrev pub without : List Bool → ℕ → List Bool
without marks v = slice_set marks (v - 1) false

-- the memory of the state, and of the one before task v was run
abbrev pub memory_in : SharedTaskSystem → List Bool → ℕ
memory_in system marks = shared_memory system (is_marked marks)

abbrev pub memory_before : SharedTaskSystem → List Bool → ℕ → ℕ
memory_before system marks v = memory_in system (without marks v)

-- whether a task that is done reads what task v makes
abbrev pub is_taken_up : List Bool → ℕ → SharedItem → Bool
is_taken_up marks v x = is_made_by v x && list_any (is_marked marks) x.readers

abbrev pub has_successor : SharedTaskSystem → List Bool → ℕ → Bool
has_successor system marks v = list_any (is_taken_up marks v) system.items

-- whether task v can be the last one that was run, with the memory below the bound meanwhile
abbrev pub can_be_last : SharedTaskSystem → ℕ → List Bool → ℕ → Bool
can_be_last system bound marks v =
    is_marked marks v && (not (has_successor system marks v) && nat_lt (shared_running system (is_marked (without marks v)) v) bound)

-- and whether nothing is gained by running it earlier: there was no more memory before it than after it
abbrev pub may_wait : SharedTaskSystem → ℕ → List Bool → ℕ → Bool
may_wait system bound marks v = can_be_last system bound marks v && nat_le (memory_before system marks v) (memory_in system marks)

-- the one that is taken as the last, where some may wait: that with the lowest number
pub record IsFirstToWait (system : SharedTaskSystem) (bound : ℕ) (marks : List Bool) (v : ℕ) : Type 0 where
  pub waits : may_wait system bound marks v ≡ true
  pub lowest : (w : ℕ) → w < v → may_wait system bound marks w ≡ false

-- which task is taken as the last: the first that may wait; and, where there is none, each that can be
pub data IsStepBack (system : SharedTaskSystem) (bound : ℕ) (marks : List Bool) (v : ℕ) : Type 0 where
  waits : IsFirstToWait system bound marks v → IsStepBack system bound marks v
  any : ((w : ℕ) → may_wait system bound marks w ≡ false) → can_be_last system bound marks v ≡ true → IsStepBack system bound marks v

-- the states that are looked at: that in which all tasks are done, if its memory is below the bound, and those before a task that is taken as
-- the last of such a state
pub data IsLookedAt (system : SharedTaskSystem) (bound : ℕ) : List Bool → Type 0 where
  end : memory_in system (all_done system) < bound → IsLookedAt system bound (all_done system)
  back : {marks : List Bool} {v : ℕ} → IsLookedAt system bound marks → IsStepBack system bound marks v
      → IsLookedAt system bound (without marks v)

-- the state at a place, counted from 0
abbrev pub state_at : List (List Bool) → ℕ → List Bool
state_at states i = slice_index_or states i []

-- more than so many states are looked at
pub record HasManyStates (system : SharedTaskSystem) (bound most : ℕ) : Type 0 where
  pub states : List (List Bool)
  pub many : most < length states
  pub apart : (i j : ℕ) → i < j → j < length states → state_at states i ≢ state_at states j
  pub each : All (IsLookedAt system bound) states
