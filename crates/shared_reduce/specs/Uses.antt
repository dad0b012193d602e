-- The graph of uses of a shared system: which task waits for which, without sizes.
use Rattle.std.specs.Prelude.{length, replicate}
use Rattle.mp_system.specs.declared.system.Task.{Task}
use Rattle.graphs.specs.Graph.{TaskGraph}
use Rattle.shared_systems.specs.Shared.{SharedTaskSystem}
use Rattle.shared_systems.specs.Bounds.{use_arcs}

-- a task that takes no memory
abbrev pub bare : Task
bare = record { extra = 0; share = 0; time = 1 }

-- as many tasks, and an arc of size 0 for each reader of an item: from the producer, or from none
abbrev pub uses_of : SharedTaskSystem → TaskGraph
uses_of system = record { tasks = replicate (length system.tasks) bare; arcs = use_arcs system.items }
