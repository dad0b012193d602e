use Rattle.std.proofs.Common.{◌≡◌, map, slice_index}
use Rattle.std.specs.List.{range_with_len}
use Rattle.assembly_tree.specs.Assembly.{super_at}
use Rattle.assembly_tree.specs.Fronts.{front_node}
use Rattle.assembly_tree.proofs.front.nodes_of.Given as goal

abbrev pub invariant-loop-i : goal.invariant-loop-i
invariant-loop-i l = l.nodes.items ≡ map (λ s. front_node l.shape (slice_index l.shares s) (super_at l.supers s)) (range_with_len 1 l.i)
