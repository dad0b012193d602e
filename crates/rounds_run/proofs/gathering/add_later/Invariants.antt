use Rattle.std.proofs.Common.{take}
use Rattle.std.specs.List.{list_any}
use Rattle.rounds_run.specs.Gathering.{Adds, is_later}
use Rattle.rounds_run.proofs.gathering.add_later.Given as goal

abbrev pub invariant-loop-vertex : goal.invariant-loop-vertex
invariant-loop-vertex l = Adds (λ x. list_any (is_later l.perm l.first x) (take l.vertex-index l.vertices)) l.fn.list.items l.list.items
