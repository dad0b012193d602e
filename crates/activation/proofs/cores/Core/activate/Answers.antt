use Rattle.std.proofs.Common.{◌<◌, length, arith}
use Rattle.activation.specs.declared.events.EventKind.TheVariants.{Activate}
use Rattle.activation.proofs.Keeping.{read_here, number_here, may_activate, may_not_activate, activated_tables}
use Rattle.activation.proofs.cores.Core.activate.Goals as goal

pub returns-clause-some : goal.returns-clause-some
returns-clause-some c =
    let f = c.self.inside in
    let a = c.self.invariant in
    let left : f.activated < length f.order.items = omega (arith, a.safe.prefix) in
    let here = read_here a f.activated c.index-task.result.now left c.index-task.ensures in
    let cost = number_here a left here a.fixed.needs_are c.index-need.ensures in
    rw (← c.self.view_is) (may_activate a left here cost c.if-self-need.false)

pub invariant_of-self : goal.invariant_of-self
invariant_of-self c =
    let f = c.self.inside in
    let a = c.self.invariant in
    let left : f.activated < length f.order.items = omega (arith, a.safe.prefix) in
    let here = read_here a f.activated c.index-task.result.now left c.index-task.ensures in
    let cost = number_here a left here a.fixed.needs_are c.index-need.ensures in
    let legal = may_activate a left here cost c.if-self-need.false in
    rw c.put.ensures (activated_tables a legal cost (c.event_law.ensures.kept _ a.setting _ a.safe Activate _ legal)
    (c.event_law.ensures.change _ a.setting _ a.safe Activate _ legal) c.index.ensures)

pub returns-then-self-need-clause-none : goal.returns-then-self-need-clause-none
returns-then-self-need-clause-none c =
    let f = c.self.inside in
    let a = c.self.invariant in
    let left : f.activated < length f.order.items = omega (arith, a.safe.prefix) in
    let here = read_here a f.activated c.index-task.result.now left c.index-task.ensures in
    let cost = number_here a left here a.fixed.needs_are c.index-need.ensures in
    rw (← c.self.view_is) (may_not_activate a left here cost c.if-self-need.true)
