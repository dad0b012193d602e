use Rattle.std.proofs.Common.{◌<◌, length, arith, ap, rules}
use Rattle.activation.specs.declared.events.Phase.TheVariants.{Running}
use Rattle.activation.specs.declared.events.EventKind.TheVariants.{Start}
use Rattle.activation.proofs.Phases.{phase_written}
use Rattle.activation.proofs.Keeping.{read_here, number_here, start_is_task, start_fits, started_tables}
use Rattle.activation.proofs.cores.Core.start_at.Goals as goal

pub index-need-requires : goal.index-need-requires
index-need-requires c =
    let w : c.args.place < length c.self.inside.order.items = rw (← c.self.view_is) at c.requires in
    let here = read_here c.self.invariant c.args.place c.index-task.result.now w c.index-task.ensures in
    let h = rw (← c.self.view_is, here) at c.may_start_at.ensures.0 c.if-not-may_start_at.false in
    omega (arith, w, c.self.invariant.fixed.needs_are.long)

pub index_mut-requires : goal.index_mut-requires
index_mut-requires c =
    let w : c.args.place < length c.self.inside.order.items = rw (← c.self.view_is) at c.requires in
    let here = read_here c.self.invariant c.args.place c.index-task.result.now w c.index-task.ensures in
    let h = rw (← c.self.view_is, here) at c.may_start_at.ensures.0 c.if-not-may_start_at.false in
    omega (arith, start_is_task c.self.invariant c.index-task.result.now h, c.self.invariant.safe.phases)

pub add-requires-clause-number : goal.add-requires-clause-number
add-requires-clause-number c =
    let w : c.args.place < length c.self.inside.order.items = rw (← c.self.view_is) at c.requires in
    let here = read_here c.self.invariant c.args.place c.index-task.result.now w c.index-task.ensures in
    let h = rw (← c.self.view_is, here) at c.may_start_at.ensures.0 c.if-not-may_start_at.false in
    let is = start_is_task c.self.invariant c.index-task.result.now h in
    (is.0, omega (arith, is.1, c.self.invariant.running_numbers))

pub overflow_add-self : goal.overflow_add-self
overflow_add-self c =
    let a = c.self.invariant in
    let w : c.args.place < length c.self.inside.order.items = rw (← c.self.view_is) at c.requires in
    let here = read_here c.self.invariant c.args.place c.index-task.result.now w c.index-task.ensures in
    let h = rw (← c.self.view_is, here) at c.may_start_at.ensures.0 c.if-not-may_start_at.false in
    let cost = number_here a w here a.fixed.needs_are c.index-need.ensures in
    let fits = start_fits a h cost (c.event_law.ensures.change _ a.setting _ a.safe Start c.index-task.result.now h)
    (c.event_law.ensures.kept _ a.setting _ a.safe Start c.index-task.result.now h) in
    search rules

pub invariant_of-self : goal.invariant_of-self
invariant_of-self c =
    let a = c.self.invariant in
    let w : c.args.place < length c.self.inside.order.items = rw (← c.self.view_is) at c.requires in
    let here = read_here c.self.invariant c.args.place c.index-task.result.now w c.index-task.ensures in
    let h = rw (← c.self.view_is, here) at c.may_start_at.ensures.0 c.if-not-may_start_at.false in
    let cost = number_here a w here a.fixed.needs_are c.index-need.ensures in
    rw c.put.ensures (started_tables a h cost (c.event_law.ensures.change _ a.setting _ a.safe Start c.index-task.result.now h)
    (c.event_law.ensures.kept _ a.setting _ a.safe Start c.index-task.result.now h) c.add.new.self
    (ap (λ r. r.listed) c.add.ensures) (ap (λ r. r.room) c.add.ensures) (ap (λ r. r.count) c.add.ensures)
    c.args.place w here)

pub returns-clause-next : goal.returns-clause-next
returns-clause-next c =
    let w : c.args.place < length c.self.inside.order.items = rw (← c.self.view_is) at c.requires in
    let here = read_here c.self.invariant c.args.place c.index-task.result.now w c.index-task.ensures in
    let h = rw (← c.self.view_is, here) at c.may_start_at.ensures.0 c.if-not-may_start_at.false in
    rw (
      ← c.self.view_is,
      here,
      phase_written c.self.inside.phases.items c.index-task.result.now Running
          (start_is_task c.self.invariant c.index-task.result.now h).0,
    )
