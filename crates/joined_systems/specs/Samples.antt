-- No public clause names this.
-- Worked examples: two tasks that each supply both of two others, and three that read one input and supply one.
use Rattle.std.specs.Prelude.{◌≡◌, ℕ, Option, Some, None, List, [], ◌∷◌, map, refl}
use Rattle.mp_system.specs.declared.system.Task.{Task}
use Rattle.shared_systems.specs.Shared.{SharedTaskSystem, SharedItem, shared_need_of}
use Rattle.shared_systems.specs.SharedMemory.{shared_peak_of}
use Rattle.joined_systems.specs.Joined.{joined, without_joins}

abbrev pub task : ℕ → ℕ → Task
task extra share = record { extra = extra; share = share; time = 1 }

abbrev pub item : ℕ → Option ℕ → List ℕ → SharedItem
item size from readers = record { size = size; from = from; readers = readers }

-- tasks 3 and 4 each read what task 1 makes and what task 2 makes
abbrev pub crossing : SharedTaskSystem
crossing = record {
  tasks = task 1 0 ∷ task 0 0 ∷ task 2 0 ∷ task 0 0 ∷ [];
  items = item 5 (Some 1) (3 ∷ 4 ∷ []) ∷ item 3 (Some 2) (3 ∷ 4 ∷ []) ∷ item 2 (Some 3) [] ∷ item 1 (Some 4) [] ∷ [];
}

-- task 5 takes over both items, and hands them on
pub crossing_tasks : (joined (1 ∷ 1 ∷ 0 ∷ 0 ∷ []) crossing).tasks ≡ task 1 0 ∷ task 0 0 ∷ task 2 0 ∷ task 0 0 ∷ task 0 8 ∷ []
crossing_tasks = refl

pub crossing_items :
    (joined (1 ∷ 1 ∷ 0 ∷ 0 ∷ []) crossing).items
    ≡ item 5 (Some 1) (5 ∷ []) ∷ item 5 (Some 5) (3 ∷ 4 ∷ []) ∷ item 3 (Some 2) (5 ∷ []) ∷ item 3 (Some 5) (3 ∷ 4 ∷ [])
    ∷ item 2 (Some 3) [] ∷ item 1 (Some 4) [] ∷ []
crossing_items = refl

-- it needs nothing
pub crossing_needs : map (shared_need_of (joined (1 ∷ 1 ∷ 0 ∷ 0 ∷ []) crossing)) (1 ∷ 2 ∷ 3 ∷ 4 ∷ 5 ∷ []) ≡ 6 ∷ 3 ∷ 4 ∷ 1 ∷ 0 ∷ []
crossing_needs = refl

-- the peak stays: 8 is there while task 3 needs 4
pub crossing_peak : shared_peak_of crossing (1 ∷ 2 ∷ 3 ∷ 4 ∷ []) ≡ 12
crossing_peak = refl

pub joined_peak : shared_peak_of (joined (1 ∷ 1 ∷ 0 ∷ 0 ∷ []) crossing) (1 ∷ 2 ∷ 5 ∷ 3 ∷ 4 ∷ []) ≡ 12
joined_peak = refl

pub crossing_back : without_joins 4 (1 ∷ 2 ∷ 5 ∷ 3 ∷ 4 ∷ []) ≡ 1 ∷ 2 ∷ 3 ∷ 4 ∷ []
crossing_back = refl

-- tasks 1, 2 and 3 read an input, and task 4 reads what they make
abbrev pub branches : SharedTaskSystem
branches = record {
  tasks = task 2 0 ∷ task 0 0 ∷ task 0 0 ∷ task 0 3 ∷ [];
  items =
      item 7 None (1 ∷ 2 ∷ 3 ∷ []) ∷ item 1 (Some 1) (4 ∷ []) ∷ item 1 (Some 2) (4 ∷ []) ∷ item 1 (Some 3) (4 ∷ [])
      ∷ item 4 (Some 4) [] ∷ [];
}

pub branches_tasks : (joined (1 ∷ 1 ∷ 1 ∷ 0 ∷ []) branches).tasks ≡ task 2 0 ∷ task 0 0 ∷ task 0 0 ∷ task 0 3 ∷ task 0 3 ∷ []
branches_tasks = refl

-- the input goes with task 5
pub branches_items :
    (joined (1 ∷ 1 ∷ 1 ∷ 0 ∷ []) branches).items
    ≡ item 7 None (1 ∷ 2 ∷ 3 ∷ 5 ∷ [])
    ∷ item 1 (Some 1) (5 ∷ []) ∷ item 1 (Some 5) (4 ∷ []) ∷ item 1 (Some 2) (5 ∷ []) ∷ item 1 (Some 5) (4 ∷ [])
    ∷ item 1 (Some 3) (5 ∷ []) ∷ item 1 (Some 5) (4 ∷ []) ∷ item 4 (Some 4) [] ∷ []
branches_items = refl

-- task 3 runs while 9 are there, and adds 1; with the joins too
pub branches_peak : shared_peak_of branches (1 ∷ 2 ∷ 3 ∷ 4 ∷ []) ≡ 10
branches_peak = refl

pub branches_joined_peak : shared_peak_of (joined (1 ∷ 1 ∷ 1 ∷ 0 ∷ []) branches) (1 ∷ 2 ∷ 3 ∷ 5 ∷ 4 ∷ []) ≡ 10
branches_joined_peak = refl
