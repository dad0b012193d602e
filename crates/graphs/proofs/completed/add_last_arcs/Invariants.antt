use Rattle.std.proofs.Common.{◌≡◌, ◌-◌, ◌++◌, eqb, map, filter, get_or}
use Rattle.std.specs.List.{range_with_len}
use Rattle.graphs.specs.Graph.{arc_between}
use Rattle.graphs.proofs.completed.add_last_arcs.Given as goal

abbrev pub invariant-loop-v : goal.invariant-loop-v
invariant-loop-v l = l.arcs.items
    ≡ l.initial.arcs.items ++ map (λ v. arc_between v 0) (filter (λ v. eqb (get_or l.counts v 0) 0) (range_with_len 1 (l.v - 1)))
