-- No public clause names this.
-- A worked example: the tree of five tasks of examples/five.tree, the least peak of which is 11, with evidence for that.
use Rattle.std.specs.Prelude.{◌≡◌, ℕ, Option, Some, None, List, [], ◌∷◌, true, false, ℤ, pos, refl}
use Rattle.mp_system.specs.declared.system.Task.{Task}
use Rattle.shared_systems.specs.Shared.{SharedTaskSystem, SharedItem}
use Rattle.shared_systems.specs.SharedMemory.{shared_peak_of}
use Rattle.shared_systems.specs.Paths.{ComesAfter, reads, over}
use Rattle.peak_bounds.specs.declared.uses.Use.{Use}
use Rattle.peak_bounds.specs.declared.step.Event.TheVariants.{Last}
use Rattle.peak_bounds.specs.declared.evidence.Amount.{Amount}
use Rattle.peak_bounds.specs.EventSets.{EventSetValue}
use Rattle.peak_bounds.specs.Moments.{uses_of, is_used_by, is_made_for_use, lowered_where, Moment, level_of}
use Rattle.peak_bounds.specs.Evidence.{lowered_by, blocker_at, set_tasks, memory_at_start, memory_of_task}

abbrev pub task : ℕ → Task
task extra = record { extra = extra; share = 0; time = 1 }

abbrev pub item : ℕ → ℕ → List ℕ → SharedItem
item size from readers = record { size = size; from = Some from; readers = readers }

-- task 2 reads what task 1 makes, task 4 what task 3 makes, and task 5 what tasks 2 and 4 make
abbrev pub five : SharedTaskSystem
five = record {
  tasks = task 9 ∷ task 0 ∷ task 9 ∷ task 0 ∷ task 0 ∷ [];
  items = item 1 1 (2 ∷ []) ∷ item 5 2 (5 ∷ []) ∷ item 1 3 (4 ∷ []) ∷ item 5 4 (5 ∷ []) ∷ item 0 5 [] ∷ [];
}

abbrev pub a_use : ℕ → Option ℕ → Use
a_use from to = record { from = Some from; to = to }

-- places 1 to 5
pub five_uses : uses_of five.items ≡ a_use 1 (Some 2) ∷ a_use 2 (Some 5) ∷ a_use 3 (Some 4) ∷ a_use 4 (Some 5) ∷ a_use 5 None ∷ []
five_uses = refl

pub five_peak : shared_peak_of five (1 ∷ 3 ∷ 2 ∷ 4 ∷ 5 ∷ []) ≡ 11
five_peak = refl

abbrev pub amount : ℕ → ℤ → Amount
amount place z = record { place = place; amount = z }

-- one of the tasks 1 and 3 starts last: then the other has run, and what it made is there, or what the task behind it made of that, which
-- is more; so at least 1 is there
abbrev pub leaves : EventSetValue
leaves = record {
  event = Last;
  base = amount 1 (pos 1) ∷ amount 2 (pos 1) ∷ [];
  blockers =
      record { task = 1; amounts = amount 1 (pos 0) ∷ amount 2 (pos 0) ∷ amount 3 (pos 1) ∷ amount 4 (pos 1) ∷ [] }
      ∷ record { task = 3; amounts = [] } ∷ [];
}

pub leaves_tasks : set_tasks leaves ≡ 1 ∷ 3 ∷ []
leaves_tasks = refl

-- an amount of 0 of its own takes the place of what the set tells
pub first_sizes : lowered_by 5 leaves.base (blocker_at leaves 1).amounts ≡ pos 0 ∷ pos 0 ∷ pos 1 ∷ pos 1 ∷ pos 0 ∷ []
first_sizes = refl

pub second_sizes : lowered_by 5 leaves.base (blocker_at leaves 2).amounts ≡ pos 1 ∷ pos 1 ∷ pos 0 ∷ pos 0 ∷ pos 0 ∷ []
second_sizes = refl

-- task 1 as the last: task 3 is done, and tasks 1, 2 and 5 wait
abbrev pub one_last : Moment
one_last = record {
  task = 1;
  done = false ∷ false ∷ true ∷ false ∷ false ∷ [];
  waiting = true ∷ true ∷ false ∷ false ∷ true ∷ [];
  lowered = pos 0 ∷ pos 0 ∷ pos 1 ∷ pos 1 ∷ pos 0 ∷ [];
}

-- 2 reads from 1, and 5 over that
pub two_waits : ComesAfter five 1 2
two_waits = reads refl

pub five_waits : ComesAfter five 1 5
five_waits = over two_waits refl

-- the open task 4 takes up as much as it leaves
pub four_takes : lowered_where (is_used_by 4) (uses_of five.items) one_last.lowered ≡ pos 1
four_takes = refl

pub four_leaves : lowered_where (is_made_for_use 4) (uses_of five.items) one_last.lowered ≡ pos 1
four_leaves = refl

pub one_level : level_of five one_last ≡ pos 11
one_level = refl

-- by the need of one task: task 5 reads 10
pub five_needs : memory_of_task five 5 ≡ 10
five_needs = refl

-- by what is there at the start: a system without tasks, with one item of 7
abbrev pub idle : SharedTaskSystem
idle = record { tasks = []; items = record { size = 7; from = None; readers = [] } ∷ [] }

pub idle_starts : memory_at_start idle ≡ 7
idle_starts = refl

pub idle_peak : shared_peak_of idle [] ≡ 7
idle_peak = refl
