-- Two tasks side by side that read one item.
use Rattle.std.specs.Prelude.{Some, [], ◌∷◌}
use Rattle.shared_systems.specs.Shared.{SharedTaskSystem}
use Rattle.shared_systems.specs.Samples.{task, shared_item}

abbrev pub twins : SharedTaskSystem
twins = record {
  tasks = task 0 0 ∷ task 1 0 ∷ task 2 0 ∷ [];
  items = shared_item 4 (Some 1) (2 ∷ []) ∷ shared_item 6 (Some 1) (2 ∷ 3 ∷ []) ∷ [];
}
