use Rattle.std.proofs.Common.{map, arith}
use Rattle.std.specs.Prelude.{slice_index}
use Rattle.activation.proofs.Clocks.{none_runs, none_before, due_now, finish_comes}
use Rattle.activation.specs.Schedule.{Moment}
use Rattle.activation.proofs.run.Run.finish_due.Goals as goal

pub returns-in_err-first-clause-none : goal.returns-in_err-first-clause-none
returns-in_err-first-clause-none c =
    let k = c.keeps.ensures in
    rw (← c.self.view_is, c.from_residual.ensures)
    (λ u run. absurd (none_runs c.order_law.ensures.long k.setting k.safe c.self.invariant c.in_err-first.ensures.none u run))

pub returns-then-branch-self-clause-none : goal.returns-then-branch-self-clause-none
returns-then-branch-self-clause-none c =
    let k = c.keeps.ensures in
    let first = c.in_ok-first.ensures in
    rw (← c.self.view_is) (λ u run.
    omega (
      arith,
      c.if-branch-self.true,
      none_before c.order_law.ensures.long k.setting k.safe c.self.invariant c.in_ok-first.field-0 first.among first.first u run,
    ))

pub returns-clause-comes : goal.returns-clause-comes
returns-clause-comes c =
    let f = c.self.inside in
    let k = c.keeps.ensures in
    let first = c.in_ok-first.ensures in
    let moment : Moment = record { state = f.core.state; time = f.time; dues = f.room.dues.items } in
    rw (← c.self.view_is)
    (finish_comes f.core.setting (map (slice_index f.core.setting.order) f.room.priority.items) moment c.finish_next.result
    (rw (← c.self.view_is) at c.finish_next.ensures.due) (rw (← c.self.view_is) at c.finish_next.ensures.event)
    (due_now c.order_law.ensures.long k.setting k.safe c.self.invariant c.in_ok-first.field-0 first.among first.first
    (omega (arith, c.if-branch-self.false))))
