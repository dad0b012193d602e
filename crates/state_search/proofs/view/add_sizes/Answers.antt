use Rattle.std.proofs.Common.{rules, get_or, arith}
use Rattle.state_search.proofs.Views.{as_first, size_added}
use Rattle.state_search.proofs.view.add_sizes.Goals as goal

pub overflow_add-sums : goal.overflow_add-sums
overflow_add-sums c =
    let i = c.loop-task.task-index in
    let task = get_or c.args.tasks.now i 0 in
    omega (
      arith,
      as_first c.args.tasks.now c.requires.rising i c.loop-task-test.true c.args.sums.now c.loop-task.sums c.args.size c.loop-task.invariant,
      c.requires.fits task,
    )

pub loop-task-preserved : goal.loop-task-preserved
loop-task-preserved c =
    size_added c.args.tasks.now c.requires.rising c.loop-task.task-index c.loop-task-test.true c.args.sums.now c.loop-task.sums c.args.size
    c.loop-task.invariant (search rules)
