use Rattle.std.proofs.Common.{get_or, take, ◌∙◌, arith}
use Rattle.mp_system.specs.Replay.{has_run}
use Rattle.fencing.proofs.Fitting.{need_within}
use Rattle.fencing.proofs.Relieved.{limits_of}
use Rattle.fencing.proofs.Running.{can_come, ran_next, runs_at, state_is}
use Rattle.fencing.proofs.along.greatest_need.Goals as goal

pub run-running-requires-clause-can : goal.run-running-requires-clause-can
run-running-requires-clause-can c =
    can_come c.args.system.now c.args.order.now c.requires c.loop-task.task-index c.loop-task-test.true (has_run c.loop-task.replay) c.loop-task.invariant.ran

pub loop-task-preserved : goal.loop-task-preserved
loop-task-preserved c =
    let system = c.args.system.now in
    let order = c.args.order.now in
    let i = c.loop-task.task-index in
    let lt = c.loop-task-test.true in
    let at = c.loop-task.invariant in
    let replay = c.loop-task.replay in
    record {
      system = c.run-running.ensures.system ∙ at.system;
      ran = ran_next system order c.requires i lt (has_run replay) at.ran (has_run c.run-running.new.replay) c.run-running.ensures.next;
      within = omega (
        arith,
        at.within,
        c.max-greatest.ensures,
        runs_at system order c.requires i lt (has_run replay) at.ran c.run-running.result c.run-running.ensures.running,
        state_is system replay.system (has_run replay) (take i order) c.memory-before.result at.system at.ran c.memory-before.ensures,
        need_within system (limits_of system c.keeps.ensures) (get_or order i 0),
      );
    }
