use Rattle.std.proofs.Common.{◌≡◌, map, take, slice_index}
use Rattle.assembly_tree.proofs.merges.rename.Given as goal

abbrev pub invariant-loop-node : goal.invariant-loop-node
invariant-loop-node l = l.new.items ≡ map (slice_index l.numbers) (take l.node-index l.nodes)
