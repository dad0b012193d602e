-- No public clause names this.
-- Worked examples: a result that the branches of a fork and its join read, and an input that two tasks read one after the other.
use Rattle.std.specs.Prelude.{◌≡◌, ℕ, Some, None, [], ◌∷◌, refl}
use Rattle.mp_system.specs.Memory.{peak_of}
use Rattle.graphs.specs.declared.arc.Arc.{Arc}
use Rattle.graphs.specs.Graph.{own_system}
use Rattle.shared_systems.specs.Shared.{SharedTaskSystem}
use Rattle.shared_systems.specs.SharedMemory.{shared_peak_of}
use Rattle.shared_systems.specs.Samples.{task, shared_item}
use Rattle.shared_systems.specs.Paths.{ComesAfter, reads}
use Rattle.carried_graphs.specs.Carried.{carried}

abbrev pub arc : ℕ → ℕ → ℕ → Arc
arc from to size = record { from = from; to = to; size = size }

-- tasks 2 and 3 read what task 1 makes, and so does task 4, which reads what they make too; its result stays
abbrev pub fork : SharedTaskSystem
fork = record {
  tasks = task 0 0 ∷ task 1 0 ∷ task 2 0 ∷ task 2 1 ∷ [];
  items =
      shared_item 5 (Some 1) (2 ∷ 3 ∷ 4 ∷ []) ∷ shared_item 1 (Some 2) (4 ∷ []) ∷ shared_item 3 (Some 3) (4 ∷ [])
      ∷ shared_item 2 (Some 4) [] ∷ [];
}

pub fork_after : ComesAfter fork 3 4
fork_after = reads refl

-- task 4 carries the item of size 5
pub fork_arcs :
    (carried (4 ∷ 4 ∷ 4 ∷ 0 ∷ []) fork).arcs
    ≡ arc 1 2 0 ∷ arc 1 3 0 ∷ arc 1 4 5 ∷ arc 2 4 1 ∷ arc 3 4 3 ∷ arc 4 0 2 ∷ []
fork_arcs = refl

-- 5 is there from task 1 to task 4: task 2 makes 1, and task 3 needs 5 beside them; then 9 are there, and task 4 needs 3
pub fork_peak : shared_peak_of fork (1 ∷ 2 ∷ 3 ∷ 4 ∷ []) ≡ 12
fork_peak = refl

pub fork_carried_peak : peak_of (own_system (carried (4 ∷ 4 ∷ 4 ∷ 0 ∷ []) fork)) (1 ∷ 2 ∷ 3 ∷ 4 ∷ []) ≡ 12
fork_carried_peak = refl

-- two tasks read an input, and the second what the first makes
abbrev pub table : SharedTaskSystem
table = record {
  tasks = task 1 0 ∷ task 2 0 ∷ [];
  items = shared_item 7 None (1 ∷ 2 ∷ []) ∷ shared_item 4 (Some 1) (2 ∷ []) ∷ [];
}

pub table_arcs : (carried (2 ∷ 2 ∷ []) table).arcs ≡ arc 0 1 0 ∷ arc 0 2 7 ∷ arc 1 2 4 ∷ []
table_arcs = refl

-- 7 is there, and task 1 needs 5; then 11 are there, and task 2 needs 2
pub table_peak : peak_of (own_system (carried (2 ∷ 2 ∷ []) table)) (1 ∷ 2 ∷ []) ≡ 13
table_peak = refl

pub table_shared_peak : shared_peak_of table (1 ∷ 2 ∷ []) ≡ 13
table_shared_peak = refl
