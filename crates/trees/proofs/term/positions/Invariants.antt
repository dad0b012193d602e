use Rattle.std.proofs.Common.{◌≡◌, take}
use Rattle.trees.specs.Children.{positions_of}
use Rattle.trees.proofs.term.positions.Given as goal

abbrev pub invariant-loop-v : goal.invariant-loop-v
invariant-loop-v l = l.found.items ≡ positions_of l.nodes (take l.v-index l.names)
