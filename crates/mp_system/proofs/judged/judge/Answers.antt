use Rattle.std.proofs.Common.{arith, subst, ℕ, Option, length}
use Rattle.std.specs.Prelude.{MatchOption}
use Rattle.mp_system.specs.System.{HasShare}
use Rattle.mp_system.specs.declared.judged.TaskTest.TheVariants as task_tests
use Rattle.mp_system.specs.declared.judged.ItemTest.TheVariants as item_tests
use Rattle.mp_system.specs.Given.{system_given}
use Rattle.lists.specs.Numbers.{Each, IsFirstWithout}
use Rattle.mp_system.proofs.Within.{are_system}
use Rattle.mp_system.proofs.judged.judge.Goals as goal

pub extras_of-requires-clause-sizes : goal.extras_of-requires-clause-sizes
extras_of-requires-clause-sizes c = c.in_ok-judge_each.ensures.tasks_pass task_tests.Size

pub sizes_of-requires-clause-sizes : goal.sizes_of-requires-clause-sizes
sizes_of-requires-clause-sizes c = c.in_ok-judge_each.ensures.items_pass item_tests.Size

pub returns : goal.returns
returns c =
    let tasks = c.args.tasks.now in
    let items = c.args.items.now in
    let fact = HasShare (system_given tasks items) in
    let shares : Each (length tasks) fact =
    subst (λ (o : Option ℕ). MatchOption o (Each (length tasks) fact) (λ v. IsFirstWithout (length tasks) fact v))
    c.in_default.is c.in_ok-task.ensures in
    are_system tasks items c.in_ok-judge_each.ensures (omega arith) shares
