use Rattle.std.proofs.Common.{◌<◌, length, arith}
use Rattle.std.proofs.lemmas.List.Sums.{sum_by_more}
use Rattle.shared_systems.specs.Bounds.{shared_size}
use Rattle.shared_systems.specs.declared.judged.SharedItemTest.TheVariants as tests
use Rattle.shared_systems.proofs.KeySums.{no_item}
use Rattle.shared_systems.proofs.GivenSystems.{passes_at}
use Rattle.shared_systems.proofs.judged.sizes_of.Goals as goal

pub overflow_add-total : goal.overflow_add-total
overflow_add-total c =
    let inside : c.loop-i.i < length c.args.items.now = omega (arith, c.loop-i-test.true, c.len-i-end.ensures) in
    let small = passes_at c.args.count c.args.items.now c.requires.within tests.Size c.loop-i.i inside in
    omega (arith, small, c.size-total.ensures, c.loop-i.invariant.few, inside, c.requires.few)

pub loop-i-preserved : goal.loop-i-preserved
loop-i-preserved c =
    let inside : c.loop-i.i < length c.args.items.now = omega (arith, c.loop-i-test.true, c.len-i-end.ensures) in
    let small = passes_at c.args.count c.args.items.now c.requires.within tests.Size c.loop-i.i inside in
    let more = sum_by_more shared_size c.args.items.now c.loop-i.i no_item inside in
    record {
      sum = omega (arith, more, c.size-total.ensures, c.loop-i.invariant.sum);
      few = omega (arith, small, c.size-total.ensures, c.loop-i.invariant.few);
    }
