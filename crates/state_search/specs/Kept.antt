-- No public clause names this.
-- States that are kept, each with the place of the state to which a task led from it, and that task; and the places of those that still wait.
use Rattle.std.specs.Prelude.{◌≡◌, ◌≢◌, ℕ, ◌+◌, ◌<◌, ◌≤◌, Bool, true, List, length, slice_index_or}
use Rattle.mp_system.specs.Memory.{stands_in}
use Rattle.shared_systems.specs.Shared.{SharedTaskSystem}
use Rattle.state_search.specs.declared.states.Link.{Link}
use Rattle.state_search.specs.States.{none_done, all_done, without, state_at, memory_in, IsStepBack}

-- the states, and what led from each to the end
pub record KeptStates : Type 0 where
  pub rows : List (List Bool)
  pub links : List Link

-- what led on from the state at a place
abbrev pub link_at : List Link → ℕ → Link
link_at links i = slice_index_or links i (record { next = 0; task = 0 })

-- a state is among these, or none of these
pub record IsKept (rows : List (List Bool)) (marks : List Bool) : Type 0 where
  pub place : ℕ
  pub inside : place < length rows
  pub is : state_at rows place ≡ marks

abbrev pub IsNew : List (List Bool) → List Bool → Type 0
IsNew rows marks = (i : ℕ) → i < length rows → state_at rows i ≢ marks

-- the state that is kept at a place is the one before a task that is taken as the last of one that was kept earlier
pub record IsBefore (system : SharedTaskSystem) (bound : ℕ) (rows : List (List Bool)) (i : ℕ) (link : Link) (row : List Bool) : Type 0 where
  pub earlier : link.next < i
  pub step : IsStepBack system bound (state_at rows link.next) link.task
  pub row_is : row ≡ without (state_at rows link.next) link.task

-- the first state has all tasks done, with the memory below the bound; each other is before one that was kept earlier; no two are the same
pub record AreLookedAt (system : SharedTaskSystem) (bound : ℕ) (states : KeptStates) : Type 0 where
  pub links : length states.links ≡ length states.rows
  pub first : 0 < length states.rows → state_at states.rows 0 ≡ all_done system
  pub low : 0 < length states.rows → memory_in system (all_done system) < bound
  pub before : (i : ℕ) → 0 < i → i < length states.rows
      → IsBefore system bound states.rows i (link_at states.links i) (state_at states.rows i)
  pub apart : (i j : ℕ) → i < j → j < length states.rows → state_at states.rows i ≢ state_at states.rows j

-- a state is not the start, and each state before a task that is taken as its last is kept
pub record IsFollowed (system : SharedTaskSystem) (bound : ℕ) (rows : List (List Bool)) (marks : List Bool) : Type 0 where
  pub not_start : marks ≢ none_done system
  pub followed : (v : ℕ) → IsStepBack system bound marks v → IsKept rows (without marks v)

-- states and waiting places to which more are added, each of which waits
pub record Extends (rows : List (List Bool)) (waiting : List ℕ) (more : List (List Bool)) (later : List ℕ) : Type 0 where
  pub longer : length rows ≤ length more
  pub same : (i : ℕ) → i < length rows → state_at more i ≡ state_at rows i
  pub waits : (i : ℕ) → stands_in waiting i ≡ true → stands_in later i ≡ true
  pub fresh : (i : ℕ) → length rows ≤ i → i < length more → stands_in later i ≡ true
  pub inside : ((i : ℕ) → stands_in waiting i ≡ true → i < length rows) → (i : ℕ) → stands_in later i ≡ true → i < length more
  pub balanced : length later + length rows ≡ length waiting + length more
