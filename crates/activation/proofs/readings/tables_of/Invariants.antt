use Rattle.std.proofs.Common.{take}
use Rattle.std.specs.List.{filter}
use Rattle.shared_systems.specs.Collected.{is_shared}
use Rattle.activation.specs.Schedule.{task_entry}
use Rattle.activation.proofs.SharedTables.{HaveItems}
use Rattle.activation.proofs.readings.tables_of.Given as goal

abbrev pub invariant-loop-i : goal.invariant-loop-i
invariant-loop-i l =
    HaveItems (task_entry l.places) (filter is_shared (take l.i l.items)) l.edges.items l.left.items l.sizes.items
