use Rattle.std.proofs.Common.{◌∙◌, ℕ}
use Rattle.fences.proofs.Before.{marked_after}
use Rattle.fences.proofs.implied.Search.come_before.Goals as goal

pub returns-clause-before : goal.returns-clause-before
returns-clause-before c = λ yes k d lt.
    marked_after c.args.system.now _ c.args.self.now.task _ c.in_ok-go_on.ensures.search.0 c.requires.task
    (c.are_marked.ensures yes k d lt ∙ c.in_ok-go_on.ensures.task)
