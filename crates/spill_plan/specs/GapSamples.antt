-- No public clause names this.
-- Worked examples: an item that two tasks read, with a task between them that needs much, with less memory than the peak of 14.
use Rattle.std.specs.Prelude.{◌≡◌, ℕ, Option, Some, None, List, [], ◌∷◌, map, refl}
use Rattle.mp_system.specs.declared.system.Task.{Task}
use Rattle.shared_systems.specs.Shared.{SharedTaskSystem, SharedItem}
use Rattle.shared_systems.specs.SharedMemory.{shared_peak_of}
use Rattle.spill_plan.specs.Gaps.{Gap, gaps_of, own_gap_need, gap_kept, gap_plan_by_amounts, gap_volume}

abbrev pub task : ℕ → Task
task extra = record { extra = extra; share = 0; time = 1 }

abbrev pub item : ℕ → Option ℕ → List ℕ → SharedItem
item size from readers = record { size = size; from = from; readers = readers }

-- tasks 2 and 4 read the 5 that task 1 makes; task 3, which needs 6 beside what it makes, runs between them
abbrev pub made : SharedItem
made = item 5 (Some 1) (2 ∷ 4 ∷ [])

abbrev pub system : SharedTaskSystem
system = record {
  tasks = task 0 ∷ task 1 ∷ task 6 ∷ task 0 ∷ [];
  items = made ∷ item 1 (Some 2) (3 ∷ []) ∷ item 2 (Some 3) (4 ∷ []) ∷ item 1 (Some 4) [] ∷ [];
}

abbrev pub order : List ℕ
order = 1 ∷ 2 ∷ 3 ∷ 4 ∷ []

abbrev pub steps : List ℕ
steps = 0 ∷ 1 ∷ 2 ∷ 3 ∷ []

abbrev pub gap : SharedItem → Option ℕ → Gap
gap x reader = record { item = x; reader = reader }

-- a gap before each reader, and one to the end of what no task reads
pub gaps :
    gaps_of system
    ≡ gap made (Some 2) ∷ gap made (Some 4) ∷ gap (item 1 (Some 2) (3 ∷ [])) (Some 3) ∷ gap (item 2 (Some 3) (4 ∷ [])) (Some 4)
    ∷ gap (item 1 (Some 4) []) None ∷ []
gaps = refl

-- what each step needs for itself, and what is held across it: the 5 while task 3 runs, and not while task 2 reads them
pub needs : map (own_gap_need system order) steps ≡ 5 ∷ 7 ∷ 9 ∷ 8 ∷ []
needs = refl

pub held : map (λ step. gap_kept system order step (λ i. 0)) steps ≡ 0 ∷ 0 ∷ 5 ∷ 0 ∷ []
held = refl

pub peak : shared_peak_of system order ≡ 14
peak = refl

-- with 3 of them on disk before task 4 reads them each step fits in 11
abbrev pub amounts : List ℕ
amounts = 0 ∷ 3 ∷ 0 ∷ 0 ∷ 0 ∷ []

pub kept : map (λ step. gap_kept system order step (gap_plan_by_amounts system order amounts step)) steps ≡ 0 ∷ 0 ∷ 2 ∷ 0 ∷ []
kept = refl

pub volume : gap_volume system order (gap_plan_by_amounts system order amounts) ≡ 3
volume = refl
