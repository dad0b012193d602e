use Rattle.std.proofs.Common.{arith, ap, sym, length, ◌+◌}
use Rattle.mp_system.specs.declared.system.Task.{Task}
use Rattle.fences.specs.declared.fenced.Fence.{Fence}
use Rattle.fences.proofs.FencedLists.{fence_is}
use Rattle.fences.proofs.fenced.judge_each.Goals as goal

pub returns-in-Some : goal.returns-in-Some
returns-in-Some c = λ amounts bound.
    let system = c.args.system.now in
    let fences = c.args.fences.now in
    let d : Fence = record { from = 0; to = 0 } in
    let i = c.loop-i.i in
    let fails = c.in-Some.ensures system fences (i + 1) (sym (ap (length {A = Task}) c.tasks-count.ensures.value)) (fence_is fences i d c.loop-i-test.true) in (
      c.requires,
      record {
        is_place = (omega arith, omega (arith, c.loop-i-test.true));
        fails = λ fits. fails.1 (fits c.in-Some.test);
        before = c.loop-i.invariant;
      },
      fails.0,
      fails.1,
    )
