use Rattle.std.proofs.Common.{◌≡◌, All, take}
use Rattle.std.specs.Prelude.{slice_index}
use Rattle.fences.proofs.implied.Search.are_marked.Given as goal

abbrev pub invariant-loop-task : goal.invariant-loop-task
invariant-loop-task l = All (λ u. slice_index l.self.marks.items u ≡ l.self.task) (take l.task-index l.tasks)
