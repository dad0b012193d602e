use Rattle.std.proofs.Common.{◌≡◌, ◌+◌, [], take, drop, ap, ◌∙◌, arith}
use Rattle.std.proofs.lemmas.List.{drop_all}
use Rattle.mp_system.specs.Memory.{peak_from, state_memory, stands_in}
use Rattle.mp_system.specs.Replay.{has_run}
use Rattle.mp_system.proofs.Peaks.{peak_from-ge}
use Rattle.fences.specs.Workers.{relieved}
use Rattle.fencing.proofs.Running.{can_come, left_next, ran_next, runs_at, state_is}
use Rattle.fencing.proofs.along.relieved_peak.Goals as goal

pub loop-task-init : goal.loop-task-init
loop-task-init c =
    let system = c.args.system.now in
    let replay = c.in_ok-replay.replay in
    let start = state_is system replay.system (has_run replay) [] c.memory-peak.result c.in_ok-replay.ensures.system c.in_ok-replay.ensures.none c.memory-peak.ensures in
    record {
      system = c.in_ok-replay.ensures.system;
      ran = c.in_ok-replay.ensures.none;
      least = omega (arith, start);
      whole = omega (arith, start, peak_from-ge (relieved c.args.room system) [] c.args.order.now);
    }

pub run-running-requires-clause-can : goal.run-running-requires-clause-can
run-running-requires-clause-can c =
    can_come c.args.system.now c.args.order.now c.requires.traversal c.loop-task.task-index c.loop-task-test.true (has_run c.loop-task.replay) c.loop-task.invariant.ran

pub loop-task-preserved : goal.loop-task-preserved
loop-task-preserved c =
    let system = c.args.system.now in
    let room = c.args.room in
    let order = c.args.order.now in
    let i = c.loop-task.task-index in
    let lt = c.loop-task-test.true in
    let is = c.requires.traversal in
    let at = c.loop-task.invariant in
    let replay = c.loop-task.replay in
    let after = c.run-running.new.replay in
    let ran = ran_next system order is i lt (has_run replay) at.ran (has_run after) c.run-running.ensures.next in
    let running = runs_at system order is i lt (has_run replay) at.ran c.run-running.result c.run-running.ensures.running in
    let end = state_is system after.system (has_run after) (take (i + 1) order) c.memory.result (c.run-running.ensures.system ∙ at.system) ran c.memory.ensures in
    record {
      system = c.run-running.ensures.system ∙ at.system;
      ran = ran;
      least = omega (arith, end, c.max-peak.ensures);
      whole = omega (
        arith,
        at.whole,
        at.least,
        running,
        end,
        left_next system order is i lt room,
        peak_from-ge (relieved room system) (take (i + 1) order) (drop (i + 1) order),
        c.saturating_sub.ensures,
        c.max.ensures,
        c.max-peak.ensures,
      );
    }

pub returns : goal.returns
returns c =
    let system = c.args.system.now in
    let order = c.args.order.now in
    let lighter = relieved c.args.room system in
    let i = c.loop-task.task-index in
    let at = c.loop-task.invariant in
    let end : peak_from lighter (take i order) (drop i order) ≡ state_memory system (stands_in (take i order)) =
    ap (peak_from lighter (take i order)) (drop_all i order c.loop-task-test.false) in
    omega (arith, at.whole, at.least, end)
