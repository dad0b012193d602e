use Rattle.std.proofs.Common.{arith}
use Rattle.std.proofs.lemmas.List.Sums.{sum_by_more}
use Rattle.mp_system.proofs.Within.{extra_fits, no_task}
use Rattle.mp_system.proofs.judged.extras_of.Goals as goal

pub overflow_add-total : goal.overflow_add-total
overflow_add-total c =
    let l = extra_fits c.args.tasks.now c.requires.sizes c.loop-i.i no_task c.loop-i-test.true in
    omega (arith, l, c.loop-i.invariant.few, c.loop-i-test.true, c.requires.few)

pub loop-i-preserved : goal.loop-i-preserved
loop-i-preserved c =
    let l = extra_fits c.args.tasks.now c.requires.sizes c.loop-i.i no_task c.loop-i-test.true in
    let more = sum_by_more (λ task. task.extra) c.args.tasks.now c.loop-i.i no_task c.loop-i-test.true in record {
      sum = omega (arith, more, c.loop-i.invariant.sum);
      few = omega (arith, l, c.loop-i.invariant.few);
    }
