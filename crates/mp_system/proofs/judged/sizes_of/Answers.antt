use Rattle.std.proofs.Common.{arith}
use Rattle.std.proofs.lemmas.List.Sums.{sum_by_more}
use Rattle.mp_system.proofs.Within.{size_fits, no_item}
use Rattle.mp_system.proofs.judged.sizes_of.Goals as goal

pub overflow_add-total : goal.overflow_add-total
overflow_add-total c =
    let l = size_fits c.args.count c.args.items.now c.requires.sizes c.loop-i.i no_item c.loop-i-test.true in
    omega (arith, l, c.loop-i.invariant.few, c.loop-i-test.true, c.requires.few)

pub loop-i-preserved : goal.loop-i-preserved
loop-i-preserved c =
    let l = size_fits c.args.count c.args.items.now c.requires.sizes c.loop-i.i no_item c.loop-i-test.true in
    let more = sum_by_more (λ item. item.size) c.args.items.now c.loop-i.i no_item c.loop-i-test.true in record {
      sum = omega (arith, more, c.loop-i.invariant.sum);
      few = omega (arith, l, c.loop-i.invariant.few);
    }
