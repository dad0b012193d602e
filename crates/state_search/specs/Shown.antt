-- When looking at so many states shows that no order has a peak below a bound, and what is said where it does not.
use Rattle.std.specs.Prelude.{ℕ, ◌+◌, ◌*◌, ◌^◌, ◌<◌, ◌≤◌, List, length}
use Rattle.std.specs.List.{sum_by}
use Rattle.shared_systems.specs.Shared.{SharedTaskSystem, SharedItem}
use Rattle.shared_systems.specs.SharedMemory.{shared_peak_of}
use Rattle.shared_systems.specs.SharedTraversal.{IsSharedTraversal}
use Rattle.state_search.specs.States.{none_done, IsLookedAt, HasManyStates}
use Rattle.state_search.specs.declared.judging.StatesObjection.{StatesObjection}
use Rattle.state_search.specs.declared.judging.StatesObjection.TheVariants.{Room, Order, Many}

-- of so many states the marks may be looked at, one for each task of each; and at each of them all items with their readers, so many in all
abbrev pub most_marks : ℕ
most_marks = 2 ^ 27

abbrev pub most_visits : ℕ
most_visits = 2 ^ 32

abbrev pub visit_count : SharedItem → ℕ
visit_count x = 1 + length x.readers

abbrev pub visits_of : SharedTaskSystem → ℕ
visits_of system = sum_by visit_count system.items

pub record HaveRoom (system : SharedTaskSystem) (most : ℕ) : Type 0 where
  pub marks : most * length system.tasks ≤ most_marks
  pub visits : most * visits_of system ≤ most_visits

-- no more states than so many are looked at, and the start is none of them
pub record AreNoStart (system : SharedTaskSystem) (bound most : ℕ) : Type 0 where
  pub start : ¬ IsLookedAt system bound (none_done system)
  pub few : ¬ HasManyStates system bound most

pub record IsShownByStates (system : SharedTaskSystem) (bound most : ℕ) : Type 0 where
  pub room : HaveRoom system most
  pub none : AreNoStart system bound most

-- there are too many marks or items to look at; an order has a peak below the bound; more states are looked at than that
abbrev pub IsStatesObjection : SharedTaskSystem → ℕ → ℕ → StatesObjection → Type 0
IsStatesObjection system bound most Room = ¬ HaveRoom system most
IsStatesObjection system bound most Order =
    HaveRoom system most × (order : List ℕ) × IsSharedTraversal system order × (shared_peak_of system order < bound)
IsStatesObjection system bound most Many = HaveRoom system most × HasManyStates system bound most
