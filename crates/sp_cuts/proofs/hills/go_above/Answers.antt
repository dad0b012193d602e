use Rattle.std.proofs.Common.{arith}
use Rattle.sp_cuts.proofs.Crossed.{going_starts, going_on, going_ends}
use Rattle.sp_cuts.proofs.hills.go_above.Goals as goal

pub loop-level-init : goal.loop-level-init
loop-level-init c = record {
  going = going_starts c.all.ensures _ _ _ _ _ _ c.requires.far c.requires.rope
      c.requires.room c.requires.falls c.requires.rises c.requires.top c.requires.hill;
}

pub loop-level-preserved : goal.loop-level-preserved
loop-level-preserved c = record {
  going = going_on c.all.ensures _ _ _ _ _ _ _ _ _ _ _ _ _ c.loop-level.invariant.going
      c.in-Some.ensures.first _ _ _ c.loop-level-test.true (omega (arith, c.max-hill.ensures))
      c.in_ok-tasks-in-Some.ensures.kept c.in_ok-tasks-in-Some.ensures.rope c.in_ok-tasks-in-Some.ensures.list;
}

pub returns-after-loop-level-clause-crossing : goal.returns-after-loop-level-clause-crossing
returns-after-loop-level-clause-crossing c =
    going_ends c.all.ensures _ _ _ _ _ _ _ _ _ _ _ c.loop-level.invariant.going (let t = c.loop-level-test.false in omega arith)
