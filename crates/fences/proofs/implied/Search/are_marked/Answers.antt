use Rattle.std.proofs.Common.{◌≡◌, ℕ, All, subst}
use Rattle.std.specs.Prelude.{slice_index}
use Rattle.std.proofs.lemmas.List.{take_all}
use Rattle.std.proofs.lemmas.List.Elements.{All-more}
use Rattle.fences.proofs.implied.Search.are_marked.Goals as goal

pub loop-task-preserved : goal.loop-task-preserved
loop-task-preserved c =
    All-more (λ (u : ℕ). slice_index c.args.self.now.marks.items u ≡ c.args.self.now.task) c.args.tasks.now c.loop-task.task-index 0
    c.loop-task-test.true c.loop-task.invariant (c.is_marked.ensures c.if-not-is_marked.false)

pub returns : goal.returns
returns c = λ yes.
    subst (All (λ (u : ℕ). slice_index c.args.self.now.marks.items u ≡ c.args.self.now.task))
    (take_all c.loop-task.task-index c.args.tasks.now c.loop-task-test.false) c.loop-task.invariant
