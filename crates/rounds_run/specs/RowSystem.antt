-- The making of row lists as a system of tasks, in units of rows. The task of a supernode holds its whole list while it makes it; the rows
-- of the columns are then kept with the factor and counted no more, and the rows past them are left to the parent.
use Rattle.std.specs.Prelude.{ℕ, List, length, map}
use Rattle.std.specs.List.{range_with_len}
use Rattle.mp_system.specs.System.{TaskSystem}
use Rattle.mp_system.specs.Memory.{peak_of}
use Rattle.trees.specs.declared.node.Node.{Node}
use Rattle.trees.specs.Tree.{system_of_nodes}
use Rattle.shared_systems.specs.OneReader.{shared_of}
use Rattle.activation.specs.Machine.{Setting}
use Rattle.assembly_tree.specs.declared.assembly.Super.{Super}

abbrev pub row_node : Super → Node
row_node x = record { parent = x.parent; out = x.rest; extra = x.columns; share = 0; time = 1 }

abbrev pub row_system : List Super → TaskSystem
row_system supers = system_of_nodes (map row_node supers)

-- supernodes are activated in the order of their numbers
abbrev pub row_order : List Super → List ℕ
row_order supers = range_with_len 1 (length supers)

-- what one worker needs in this order
abbrev pub row_peak : List Super → ℕ
row_peak supers = peak_of (row_system supers) (row_order supers)

-- the setting of the activation machine
abbrev pub row_setting : List Super → ℕ → ℕ → Setting
row_setting supers bound workers =
    record { system = shared_of (row_system supers); order = row_order supers; bound = bound; workers = workers }
