-- What a shared system keeps to.
use Rattle.std.specs.Prelude.{◌≡◌, ℕ, ◌+◌, ◌≤◌, false, unwrap_or, All, List, length, map}
use Rattle.std.specs.List.{sum_by, flat_map}
use Rattle.std.specs.List.Sorted.{IsStrictlyIncreasing}
use Rattle.std.specs.Option.{ForSome}
use Rattle.limits.specs.Limits.{most_tasks, most_positions, most_size, most_total, most_uses}
use Rattle.mp_system.specs.System.{IsTaskWithin, extra_size, is_named}
use Rattle.graphs.specs.declared.arc.Arc.{Arc}
use Rattle.graphs.specs.Graph.{IsAmong, CanBeOrdered, arc_between}
use Rattle.shared_systems.specs.Shared.{SharedTaskSystem, SharedItem, HasTask, HasOwnShare}

abbrev pub shared_size : SharedItem → ℕ
shared_size x = x.size

abbrev pub reader_count : SharedItem → ℕ
reader_count x = length x.readers

-- what each item keeps to, in a system of so many tasks: its readers rise, so none stands twice, and its producer is none of them
pub record IsSharedItemWithin (n : ℕ) (x : SharedItem) : Type 0 where
  pub producer : ForSome x.from (IsAmong n)
  pub readers : All (IsAmong n) x.readers
  pub apart : All (λ c. is_named x.from c ≡ false) x.readers
  pub rising : IsStrictlyIncreasing x.readers
  pub size : x.size ≤ most_size

-- an arc of size 0 for each reader of an item: from the producer, or from none
abbrev pub item_arcs : SharedItem → List Arc
item_arcs x = map (arc_between (unwrap_or x.from 0)) x.readers

abbrev pub use_arcs : List SharedItem → List Arc
use_arcs items = flat_map item_arcs items

-- a shared system within the limits: of tasks, items and readers, of each size and time, and of all extras and sizes together; all tasks
-- can be ordered, and all shares fit
pub record IsSharedSystem (system : SharedTaskSystem) : Type 0 where
  pub few_tasks : length system.tasks ≤ most_tasks
  pub few_items : length system.items ≤ most_positions
  pub few_uses : sum_by reader_count system.items ≤ most_uses
  pub tasks : All IsTaskWithin system.tasks
  pub items : All (IsSharedItemWithin (length system.tasks)) system.items
  pub total : sum_by extra_size system.tasks + sum_by shared_size system.items ≤ most_total
  pub ordered : (v : ℕ) → HasTask system v → CanBeOrdered (use_arcs system.items) v
  pub shares : (v : ℕ) → HasTask system v → HasOwnShare system v
