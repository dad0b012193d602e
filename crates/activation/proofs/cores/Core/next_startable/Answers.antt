use Rattle.std.proofs.Common.{◌<◌, length, arith}
use Rattle.activation.proofs.Keeping.{task_here, read_here, first_before, none_may_start}
use Rattle.activation.proofs.cores.Core.next_startable.Goals as goal

pub returns-in_err-place-clause-none : goal.returns-in_err-place-clause-none
returns-in_err-place-clause-none c =
    rw (← c.self.view_is, c.from_residual.ensures) (none_may_start c.self.invariant c.in_err-place.ensures.none)

pub returns-clause-task : goal.returns-clause-task
returns-clause-task c =
    let a = c.self.invariant in
    let place = c.in_ok-place.place in
    let first = c.in_ok-place.ensures.some in
    let within : place < length c.self.inside.order.items = omega (arith, first.within, a.startable_are.long) in
    rw (← c.self.view_is, ← read_here a place c.index.result.now within c.index.ensures) (task_here a place within)

pub returns-clause-first : goal.returns-clause-first
returns-clause-first c =
    let a = c.self.invariant in
    let place = c.in_ok-place.place in
    let first = c.in_ok-place.ensures.some in
    let within : place < length c.self.inside.order.items = omega (arith, first.within, a.startable_are.long) in
    rw (← c.self.view_is, ← read_here a place c.index.result.now within c.index.ensures) (first_before a place first)
