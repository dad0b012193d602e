use Rattle.std.proofs.Common.{◌<◌, ◌+◌, ◌-◌, List, length, get_or, ap, ◌∙◌, arith}
use Rattle.mp_system.specs.declared.system.Task.{Task}
use Rattle.shared_systems.specs.Shared.{shared_need_of}
use Rattle.shared_systems.proofs.PeakSteps.{no_task}
use Rattle.state_search.proofs.TaskNeeds.{extra_fits, share_fits, need_here, numbers_more}
use Rattle.state_search.proofs.needs.needs_with.Goals as goal

pub overflow_add-extra : goal.overflow_add-extra
overflow_add-extra c =
    let i = c.loop-i.i in
    let extra = ap (λ (l : List Task). (get_or l i no_task).extra) c.tasks-tasks.ensures.value in
    let inside : i < length c.args.system.now.tasks = omega (arith, c.loop-i-test.true, ap (λ (l : List Task). length l) c.tasks-tasks.ensures.value) in
    omega (arith, extra, extra_fits c.args.system.now c.keeps.ensures i (get_or c.args.outputs.now (i + 1) 0) inside (c.requires.sums (i + 1)))

pub overflow_sub-extra : goal.overflow_sub-extra
overflow_sub-extra c =
    let i = c.loop-i.i in
    let extra = ap (λ (l : List Task). (get_or l i no_task).extra) c.tasks-tasks.ensures.value in
    let share = ap (λ (l : List Task). (get_or l i no_task).share) c.tasks-tasks.ensures.value in
    let inside : i < length c.args.system.now.tasks = omega (arith, c.loop-i-test.true, ap (λ (l : List Task). length l) c.tasks-tasks.ensures.value) in
    omega (arith, extra, share, share_fits c.args.system.now c.keeps.ensures i (get_or c.args.outputs.now (i + 1) 0) inside (c.requires.sums (i + 1)))

pub loop-i-preserved : goal.loop-i-preserved
loop-i-preserved c =
    let i = c.loop-i.i in
    let out = get_or c.args.outputs.now (i + 1) 0 in
    let task = ap (λ (l : List Task). get_or l i no_task) c.tasks-tasks.ensures.value in
    let inside : i < length c.args.system.now.tasks = omega (arith, c.loop-i-test.true, ap (λ (l : List Task). length l) c.tasks-tasks.ensures.value) in
    let need = need_here c.args.system.now c.keeps.ensures i out inside (c.requires.sums (i + 1)) in
    record {
      len = omega (arith, c.in_ok-push.ensures.len, c.loop-i.invariant.len);
      needs = numbers_more (shared_need_of c.args.system.now) c.loop-i.needs.items c.push.new.self.items i _
          c.loop-i.invariant.len c.in_ok-push.ensures.items c.loop-i.invariant.needs
          (ap (λ (t : Task). t.extra + out - t.share) task ∙ need);
    }
