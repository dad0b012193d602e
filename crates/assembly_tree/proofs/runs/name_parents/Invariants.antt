use Rattle.std.proofs.Common.{◌≡◌, map, take, drop, ◌++◌}
use Rattle.assembly_tree.specs.Assembly.{super_of, reparented}
use Rattle.assembly_tree.proofs.runs.name_parents.Given as goal

abbrev pub invariant-loop-supernode : goal.invariant-loop-supernode
invariant-loop-supernode l =
    l.supers ≡ map (reparented (super_of l.nodes)) (take l.supernode-index l.initial.supers) ++ drop l.supernode-index l.initial.supers
