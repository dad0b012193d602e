use Rattle.std.proofs.Common.{◌≡◌, ℕ, refl, sym, ap, ◌∙◌}
use Rattle.std.specs.Prelude.{slice_index}
use Rattle.std.proofs.lemmas.Bool.{OnTrue_at}
use Rattle.activation.specs.declared.events.Event.{Event}
use Rattle.activation.specs.declared.events.EventKind.TheVariants.{Finish}
use Rattle.activation.specs.declared.events.Phase.TheVariants.{Running}
use Rattle.activation.specs.Machine.{MayFinish, phase_in}
use Rattle.activation.specs.Schedule.{task_entry}
use Rattle.activation.proofs.Advancing.{finished_run}
use Rattle.activation.proofs.Clocks.{due_within, due_time, none_before, next_is_due, none_runs}
use Rattle.activation.proofs.Dues.{taken_among}
use Rattle.activation.proofs.run.Run.finish_next.Goals as goal

pub returns-in_err-next-clause-none : goal.returns-in_err-next-clause-none
returns-in_err-next-clause-none c =
    let k = c.keeps.ensures in
    rw (← c.self.view_is, c.from_residual.ensures)
    (none_runs c.order_law.ensures.long k.setting k.safe c.self.invariant c.in_err-next.ensures.none)

pub task_at-task-requires : goal.task_at-task-requires
task_at-task-requires c =
    let f = c.self.inside in
    let k = c.keeps.ensures in
    let next = c.in_ok-next.next in
    let among = taken_among f.room.clock.dues c.take_first.new.self.dues next c.in_ok-next.ensures.dues in
    due_within c.order_law.ensures.long k.setting k.safe c.self.invariant next among c.in_ok-next.ensures.first

pub refresh_consumers-requires-clause-place : goal.refresh_consumers-requires-clause-place
refresh_consumers-requires-clause-place c =
    let f = c.self.inside in
    let k = c.keeps.ensures in
    let next = c.in_ok-next.next in
    let among = taken_among f.room.clock.dues c.take_first.new.self.dues next c.in_ok-next.ensures.dues in
    rw c.finish_at.ensures.setting
    (due_within c.order_law.ensures.long k.setting k.safe c.self.invariant next among c.in_ok-next.ensures.first)

pub finish_at-requires : goal.finish_at-requires
finish_at-requires c =
    let f = c.self.inside in
    let k = c.keeps.ensures in
    let next = c.in_ok-next.next in
    let among = taken_among f.room.clock.dues c.take_first.new.self.dues next c.in_ok-next.ensures.dues in
    due_within c.order_law.ensures.long k.setting k.safe c.self.invariant next among c.in_ok-next.ensures.first

pub invariant_of-self : goal.invariant_of-self
invariant_of-self c = rw c.in_err-next.ensures.unchanged c.self.invariant

pub invariant_of-self-2 : goal.invariant_of-self-2
invariant_of-self-2 c =
    let f = c.self.inside in
    let k = c.keeps.ensures in
    let long = c.order_law.ensures.long in
    let next = c.in_ok-next.next in
    let task = slice_index f.core.setting.order next.place in
    let among = taken_among f.room.clock.dues c.take_first.new.self.dues next c.in_ok-next.ensures.dues in
    let first = c.in_ok-next.ensures.first in
    let due = next_is_due long k.setting k.safe c.self.invariant next among first in
    let running : phase_in f.core.state.phases task ≡ Running = due.running in
    let legal : MayFinish f.core.setting f.core.state task = record { running = running } in
    let done = OnTrue_at (c.finish_at.ensures.legal.1 legal) c.finish_at.ensures.next in
    let fewer = c.event_law.ensures.change f.core.setting k.setting f.core.state k.safe Finish task legal in
    let time = due_time long k.setting k.safe c.self.invariant next among first in
    rw (c.finish_at.ensures.setting, done) (finished_run k.setting k.safe c.self.invariant task next legal
    (due_within long k.setting k.safe c.self.invariant next among first) refl time
    (none_before long k.setting k.safe c.self.invariant next among first)
    c.take_first.new.self c.in_ok-next.ensures.room c.in_ok-next.ensures.dues fewer.running
    c.refresh_consumers.new.ready c.refresh_consumers.ensures.long
    (rw (c.finish_at.ensures.setting, done, c.deref.ensures.value) at c.refresh_consumers.ensures.consumers)
    (rw (c.finish_at.ensures.setting, c.deref.ensures.value) at c.refresh_consumers.ensures.others))

pub returns-clause-due : goal.returns-clause-due
returns-clause-due c =
    let f = c.self.inside in
    let k = c.keeps.ensures in
    let long = c.order_law.ensures.long in
    let next = c.in_ok-next.next in
    let task = slice_index f.core.setting.order next.place in
    let among = taken_among f.room.clock.dues c.take_first.new.self.dues next c.in_ok-next.ensures.dues in
    let first = c.in_ok-next.ensures.first in
    let due = next_is_due long k.setting k.safe c.self.invariant next among first in
    rw (← c.self.view_is, c.task_at-task.ensures) due

pub returns-clause-event : goal.returns-clause-event
returns-clause-event c =
    let f = c.self.inside in
    let k = c.keeps.ensures in
    let long = c.order_law.ensures.long in
    let next = c.in_ok-next.next in
    let task = c.task_at-task.result in
    let among = taken_among f.room.clock.dues c.take_first.new.self.dues next c.in_ok-next.ensures.dues in
    let first = c.in_ok-next.ensures.first in
    let time = due_time long k.setting k.safe c.self.invariant next among first
    ∙ ap (task_entry f.room.dues.items) (sym c.task_at-task.ensures) in
    let event : ℕ → Event = λ t. record { time = t; kind = Finish; task = task } in
    rw (← c.self.view_is) (ap event time)

pub returns-clause-next : goal.returns-clause-next
returns-clause-next c =
    let f = c.self.inside in
    let k = c.keeps.ensures in
    let long = c.order_law.ensures.long in
    let next = c.in_ok-next.next in
    let task = slice_index f.core.setting.order next.place in
    let among = taken_among f.room.clock.dues c.take_first.new.self.dues next c.in_ok-next.ensures.dues in
    let first = c.in_ok-next.ensures.first in
    let due = next_is_due long k.setting k.safe c.self.invariant next among first in
    let running : phase_in f.core.state.phases task ≡ Running = due.running in
    let legal : MayFinish f.core.setting f.core.state task = record { running = running } in
    let done = OnTrue_at (c.finish_at.ensures.legal.1 legal) c.finish_at.ensures.next in
    rw (← c.self.view_is, c.task_at-task.ensures, done)
