use Rattle.std.proofs.Common.{◌≡◌, ◌≤◌, ◌*◌, take}
use Rattle.std.specs.List.{sum_by}
use Rattle.limits.specs.Limits.{most_size}
use Rattle.trees.specs.Tree.{node_size}
use Rattle.trees.proofs.judged.total_size.Given as goal

abbrev pub invariant-loop-i : goal.invariant-loop-i
invariant-loop-i l = record { sum : l.total ≡ sum_by node_size (take l.i l.nodes); few : l.total ≤ l.i * (2 * most_size) }
