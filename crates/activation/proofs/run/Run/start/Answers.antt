use Rattle.std.proofs.Common.{◌≡◌, ℕ, ◌+◌, ◌<◌, false, length, map, sym, refl, ◌∙◌, arith}
use Rattle.std.specs.Prelude.{slice_index}
use Rattle.std.proofs.lemmas.Bool.{OnTrue_at, true≢false}
use Rattle.shared_systems.specs.Shared.{HasTask}
use Rattle.activation.specs.Schedule.{Moment, NoneDue, NoneActivates}
use Rattle.activation.specs.Tables.{is_startable}
use Rattle.activation.specs.Run.{IsFirstStartable}
use Rattle.activation.proofs.Numbers.{number_written}
use Rattle.activation.proofs.Advancing.{started_run, no_start, may_start_task}
use Rattle.activation.proofs.Keeping.{start_startable}
use Rattle.activation.proofs.Counting.{count_le}
use Rattle.activation.specs.declared.clock.Due.{Due}
use Rattle.activation.specs.declared.events.EventKind.TheVariants.{Start}
use Rattle.activation.proofs.run.Run.start.Goals as goal

pub overflow_add-time : goal.overflow_add-time
overflow_add-time c =
    let k = c.keeps.ensures in
    let count = count_le c.order_law.ensures.long c.self.inside.core.setting k.setting c.self.inside.core.state k.safe in
    omega (arith, c.self.invariant.time_small, count, k.setting.system.few_tasks, c.time_at.ensures.long)

pub returns-in_err-place-clause-none : goal.returns-in_err-place-clause-none
returns-in_err-place-clause-none c =
    let f = c.self.inside in
    let k = c.keeps.ensures in
    let none : (u : ℕ) → HasTask f.core.setting.system u → is_startable f.core.setting f.core.state u ≡ false =
    rw (← c.self.view_is) at c.in_err-place.ensures.none in
    rw (← c.self.view_is, c.from_residual.ensures) (λ u h.
    absurd (true≢false
    (sym (start_startable f.core.setting f.core.state u h) ∙ none u (may_start_task f.core.setting k.setting f.core.state u h))))

pub returns-then-not-start_at-clause-none : goal.returns-then-not-start_at-clause-none
returns-then-not-start_at-clause-none c =
    let f = c.self.inside in
    let first : IsFirstStartable f.core.setting (map (slice_index f.core.setting.order) f.room.priority.items) f.core.state
    (slice_index f.core.setting.order c.in_ok-place.place) = rw (← c.self.view_is) at c.in_ok-place.ensures.some in
    rw (← c.self.view_is) (no_start first
    (λ h. true≢false (sym (c.start_at.ensures.legal.1 h) ∙ c.if-not-start_at.true)))

pub add-requires : goal.add-requires
add-requires c =
    let legal = c.start_at.ensures.legal.0 c.if-not-start_at.false in
    omega (arith, c.self.invariant.clock_long, c.self.invariant.clock_room, legal.free)

pub invariant_of-self-2 : goal.invariant_of-self-2
invariant_of-self-2 c =
    let f = c.self.inside in
    let k = c.keeps.ensures in
    let task = slice_index f.core.setting.order c.in_ok-place.place in
    let legal = c.start_at.ensures.legal.0 c.if-not-start_at.false in
    let next = OnTrue_at c.if-not-start_at.false c.start_at.ensures.next in
    let due : Due = record { time = f.time + c.time_at.result; place = c.in_ok-place.place } in
    let more = c.event_law.ensures.change f.core.setting k.setting f.core.state k.safe Start task legal in
    let within : c.in_ok-place.place < length f.core.setting.order = rw (← c.self.view_is) at c.in_ok-place.ensures.within in
    rw (c.start_at.ensures.setting, next, c.task_at-task.ensures) (started_run k.setting k.safe c.self.invariant task due legal within refl
    (omega arith) (omega (arith, c.time_at.ensures.long)) c.add.new.self c.add.ensures.room
    c.add.ensures.dues more.running c.refresh.new.ready c.refresh.ensures.long
    (rw (c.start_at.ensures.setting, next, c.deref.ensures.value) at c.refresh.ensures.marks))

pub returns-clause-comes : goal.returns-clause-comes
returns-clause-comes c =
    let f = c.self.inside in
    let k = c.keeps.ensures in
    let moment : Moment = record { state = f.core.state; time = f.time; dues = f.room.dues.items } in
    let legal = c.start_at.ensures.legal.0 c.if-not-start_at.false in
    let first : IsFirstStartable f.core.setting (map (slice_index f.core.setting.order) f.room.priority.items) f.core.state
    (slice_index f.core.setting.order c.in_ok-place.place) = rw (← c.self.view_is) at c.in_ok-place.ensures.some in
    let none_due : NoneDue moment = rw (← c.self.view_is) at c.requires.none_due in
    let none_activates : NoneActivates f.core.setting moment = rw (← c.self.view_is) at c.requires.none_activates in
    rw (← c.self.view_is, c.task_at-task.ensures) (record {
      legal = legal;
      now_is = refl;
      none_due = none_due;
      none_activates = none_activates;
      first = λ u h n.
          first.first u (may_start_task f.core.setting k.setting f.core.state u h) (start_startable f.core.setting f.core.state u h) n;
    })

pub returns-clause-next : goal.returns-clause-next
returns-clause-next c =
    let f = c.self.inside in
    let next = OnTrue_at c.if-not-start_at.false c.start_at.ensures.next in
    let first : IsFirstStartable f.core.setting (map (slice_index f.core.setting.order) f.room.priority.items) f.core.state
    (slice_index f.core.setting.order c.in_ok-place.place) = rw (← c.self.view_is) at c.in_ok-place.ensures.some in
    rw (
      ← c.self.view_is,
      c.task_at-task.ensures,
      next,
      ← c.time_at.ensures.time,
      number_written f.room.dues.items (slice_index f.core.setting.order c.in_ok-place.place)
          (f.time + c.time_at.result) first.task.0,
    )
