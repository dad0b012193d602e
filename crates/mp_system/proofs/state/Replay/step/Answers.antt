use Rattle.std.proofs.Common.{arith, length, ap}
use Rattle.mp_system.specs.System.{IsTask}
use Rattle.mp_system.proofs.Running.{stands-given, stands-own, step-fits, running-is, no-fault, consumed-le, after-step}
use Rattle.mp_system.proofs.state.Replay.step.Goals as goal

pub overflow_add-running : goal.overflow_add-running
overflow_add-running c =
    let system = c.args.system.now in
    let task : IsTask system c.args.task = (omega arith, omega (arith, ap length c.tasks.ensures.value)) in
    let stands = stands-given system _ c.args.self.now _ c.requires c.self.view_is _ _ _ _ c.self.invariant in
    omega (
      arith,
      step-fits system _ _ _ _ stands c.args.task task _ c.index-produced.ensures _ c.tasks-2.ensures.value c.tasks-2.ensures.system,
    )

pub overflow_add-running-2 : goal.overflow_add-running-2
overflow_add-running-2 c =
    let system = c.args.system.now in
    let task : IsTask system c.args.task = (omega arith, omega (arith, ap length c.tasks.ensures.value)) in
    let stands = stands-given system _ c.args.self.now _ c.requires c.self.view_is _ _ _ _ c.self.invariant in
    omega (
      arith,
      step-fits system _ _ _ _ stands c.args.task task _ c.index-produced.ensures _ c.tasks-2.ensures.value c.tasks-2.ensures.system,
    )

pub overflow_add-self : goal.overflow_add-self
overflow_add-self c =
    let system = c.args.system.now in
    let task : IsTask system c.args.task = (omega arith, omega (arith, ap length c.tasks.ensures.value)) in
    let stands = stands-given system _ c.args.self.now _ c.requires c.self.view_is _ _ _ _ c.self.invariant in
    omega (
      arith,
      step-fits system _ _ _ _ stands c.args.task task _ c.index-produced.ensures _ c.tasks-2.ensures.value c.tasks-2.ensures.system,
    )

pub overflow_sub-self : goal.overflow_sub-self
overflow_sub-self c =
    let system = c.args.system.now in
    let task : IsTask system c.args.task = (omega arith, omega (arith, ap length c.tasks.ensures.value)) in
    let stands = stands-given system _ c.args.self.now _ c.requires c.self.view_is _ _ _ _ c.self.invariant in
    consumed-le system _ _ _ _ stands c.args.task task _ c.index-produced.ensures _ c.index.ensures
    c.if-index.false _ c.deref.ensures.value c.in-Some.ensures.ready _ c.in-Some.ensures.sum

pub invariant_of-self : goal.invariant_of-self
invariant_of-self c =
    let system = c.args.system.now in
    let task : IsTask system c.args.task = (omega arith, omega (arith, ap length c.tasks.ensures.value)) in
    let stands = stands-given system _ c.args.self.now _ c.requires c.self.view_is _ _ _ _ c.self.invariant in
    stands-own system _ c.args.self.now _ c.requires c.self.view_is _ _ _ _
    (after-step system _ _ _ _ stands c.args.task task _ c.index-produced.ensures _ c.index.ensures
    c.if-index.false _ c.deref.ensures.value c.in-Some.ensures.ready _ c.in-Some.ensures.sum)

pub returns-clause-ran : goal.returns-clause-ran
returns-clause-ran c =
    let system = c.args.system.now in
    let task : IsTask system c.args.task = (omega arith, omega (arith, ap length c.tasks.ensures.value)) in
    let stands = stands-given system _ c.args.self.now _ c.requires c.self.view_is _ _ _ _ c.self.invariant in
    rw (← c.self.view_is) (
      no-fault system _ _ _ _ stands c.args.task task _ c.index-produced.ensures _ c.index.ensures
          c.if-index.false _ c.deref.ensures.value c.in-Some.ensures.ready _ c.in-Some.ensures.sum,
      running-is system _ _ _ _ stands c.args.task task _ c.index-produced.ensures _ c.tasks-2.ensures.value,
    )
