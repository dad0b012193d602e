use Rattle.std.proofs.Common.{length, arith, ap}
use Rattle.std.specs.Prelude.{sum}
use Rattle.spill_plan.proofs.LeastAmounts.{amounts_fit}
use Rattle.spill_plan.proofs.spilling.spill_spans.Goals as goal

pub volume_of-requires : goal.volume_of-requires
volume_of-requires c =
    let xs = c.args.spans.now in
    omega (
      arith,
      amounts_fit xs (length c.args.needs.now) c.run.new.self.amounts.items c.requires.spans c.run.ensures.len c.run.ensures.run.within,
      ap sum
          c.deref-3.ensures.value,
    )
