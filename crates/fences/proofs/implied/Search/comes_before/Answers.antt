use Rattle.std.proofs.Common.{◌∙◌}
use Rattle.fences.proofs.Before.{marked_after}
use Rattle.fences.proofs.implied.Search.comes_before.Goals as goal

pub returns-clause-before : goal.returns-clause-before
returns-clause-before c = λ yes.
    marked_after c.args.system.now _ c.args.self.now.task c.args.task c.in_ok-go_on.ensures.search.0 c.requires.task
    (c.is_marked.ensures yes ∙ c.in_ok-go_on.ensures.task)
