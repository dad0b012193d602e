use Rattle.std.proofs.Common.{◌+◌, ◌-◌, ◌/◌, arith}
use Rattle.hill_valley.proofs.InRow.{below_more, above_at}
use Rattle.hill_valley.proofs.row.place_of.Goals as goal

pub loop-low-preserved-then-index-up : goal.loop-low-preserved-then-index-up
loop-low-preserved-then-index-up c = let middle = c.loop-low.low + (c.loop-low.high - c.loop-low.low) / 2 in record {
  order = omega arith;
  within = c.loop-low.invariant.within;
  below = below_more c.args.up middle c.args.row.now.items c.index.result.now (omega arith) c.index.ensures c.if-index-up.true;
  above = c.loop-low.invariant.above;
}

pub loop-low-preserved : goal.loop-low-preserved
loop-low-preserved c = let middle = c.loop-low.low + (c.loop-low.high - c.loop-low.low) / 2 in record {
  order = omega arith;
  within = omega arith;
  below = c.loop-low.invariant.below;
  above = λ lt. above_at c.args.up middle c.args.row.now.items c.index.result.now lt c.index.ensures c.if-index-up.false;
}
