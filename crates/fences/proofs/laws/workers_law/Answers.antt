use Rattle.std.proofs.Common.{arith}
use Rattle.fences.specs.Runs.{first_moment, moment_after_all}
use Rattle.fences.specs.Workers.{relieved}
use Rattle.fences.proofs.Relieving.{system_unchanged, need_less, used_le, peak_le, within_kept, handed_kept, moment_kept, traversal_kept}
use Rattle.fences.proofs.laws.workers_law.Goals as goal

pub returns-clause-none : goal.returns-clause-none
returns-clause-none c = system_unchanged

pub returns-clause-need : goal.returns-clause-need
returns-clause-need c = λ system room v task. need_less system room v task

pub returns-clause-moment : goal.returns-clause-moment
returns-clause-moment c = λ system room amounts moment within handed is.
    let bound = c.fence_law.ensures.moment (relieved room system) amounts moment (within_kept system room within) (handed_kept system room amounts handed) (moment_kept system room moment is) in
    omega (arith, used_le system room moment, bound)

pub returns-clause-run : goal.returns-clause-run
returns-clause-run c = λ system room amounts within handed before rest run.
    let moment = moment_after_all first_moment before in
    let is = c.run_law.ensures.moments system before rest run in
    let bound = c.fence_law.ensures.moment (relieved room system) amounts moment (within_kept system room within) (handed_kept system room amounts handed) (moment_kept system room moment is) in
    omega (arith, used_le system room moment, bound)

pub returns-clause-traversal : goal.returns-clause-traversal
returns-clause-traversal c = λ system room amounts order within handed is.
    let bound = c.fence_law.ensures.traversal (relieved room system) amounts order (within_kept system room within) (handed_kept system room amounts handed) (traversal_kept system room order is) in
    omega (arith, peak_le system room order, bound)
