use Rattle.std.proofs.Common.{◌≡◌, map, filter, take, slice_index}
use Rattle.assembly_tree.specs.Assembly.{reparented}
use Rattle.assembly_tree.specs.Amalgamation.{is_left}
use Rattle.assembly_tree.proofs.merges.keep.Given as goal

abbrev pub invariant-loop-supernode : goal.invariant-loop-supernode
invariant-loop-supernode l = l.kept.items ≡ map (reparented (slice_index l.numbers)) (filter is_left (take l.supernode-index l.supers))
