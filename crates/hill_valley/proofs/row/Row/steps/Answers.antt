use Rattle.std.proofs.Common.{◌∙◌}
use Rattle.hill_valley.specs.Side.{profile}
use Rattle.hill_valley.proofs.InRow.{none_left}
use Rattle.hill_valley.proofs.Walk.{row_next, walk_falls, walk_on}
use Rattle.hill_valley.proofs.Staircases.{are_steps, combine_all}
use Rattle.hill_valley.proofs.row.Row.steps.Goals as goal

pub loop-seg-preserved-in-Continue-1 : goal.loop-seg-preserved-in-Continue-1
loop-seg-preserved-in-Continue-1 c = record {
  walk = walk_on _ _ _ _ (row_next _ _ _ c.in-Some.ensures.steps) c.loop-seg.invariant.walk;
  told = rw c.in_ok-add_step.ensures (rw c.max-most.ensures (walk_falls _ _ _ _
      (row_next _ _ _ c.in-Some.ensures.steps) c.loop-seg.most c.loop-seg.steps.items c.if-seg-gt0.true c.loop-seg.invariant.walk))
      ∙ c.loop-seg.invariant.told;
}

pub returns : goal.returns
returns c =
    let e = none_left _ c.in-None.ensures.steps.0 in
    let t = rw (e, combine_all c.loop-seg.steps.items) at c.loop-seg.invariant.told in
    record { steps = rw t (are_steps c.args.level (profile c.args.self.now)) }
