-- No public clause names this.
-- A system has as many tasks, items and readers as there may be, and all extras and sizes together are within the limit.
use Rattle.std.specs.Prelude.{◌+◌, ◌≤◌, length}
use Rattle.std.specs.List.{sum_by}
use Rattle.limits.specs.Limits.{most_tasks, most_positions, most_total, most_uses}
use Rattle.mp_system.specs.System.{extra_size}
use Rattle.shared_systems.specs.Shared.{SharedTaskSystem}
use Rattle.shared_systems.specs.Bounds.{reader_count, shared_size}

abbrev pub IsFew : SharedTaskSystem → Type 0
IsFew system =
    (length system.tasks ≤ most_tasks) × (length system.items ≤ most_positions) × (sum_by reader_count system.items ≤ most_uses)
    × (sum_by extra_size system.tasks + sum_by shared_size system.items ≤ most_total)
