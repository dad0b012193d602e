use Rattle.std.proofs.Common.{◌≡◌, ◌+◌, ◌<◌, cond, length, arith, ap, drop, sym, refl, ◌∙◌}
use Rattle.std.specs.Prelude.{slice_index, ◌==◌}
use Rattle.std.specs.List.{sum_by}
use Rattle.std.proofs.lemmas.Bool.{true≢false}
use Rattle.std.proofs.lemmas.List.{take_at}
use Rattle.row_table.specs.Rows.{row_at}
use Rattle.activation.specs.Machine.{is_running_phase}
use Rattle.activation.specs.declared.events.Phase.TheVariants.{Done}
use Rattle.activation.specs.declared.events.EventKind.TheVariants.{Finish}
use Rattle.activation.proofs.Phases.{phase_written}
use Rattle.activation.proofs.Keeping.{read_here, number_here, runs_here, rests_here, finish_is_task, finish_frees}
use Rattle.activation.proofs.Keeping.{finish_within, finish_enough, finish_waiting, finish_startable, finished_tables}
use Rattle.activation.proofs.Keeping.{finish_reads, finish_total, finish_freed}
use Rattle.activation.proofs.cores.Core.finish_at.Goals as goal

pub take_readers-last_read-requires-clause-within : goal.take_readers-last_read-requires-clause-within
take_readers-last_read-requires-clause-within c =
    let f = c.self.inside in
    let a = c.self.invariant in
    let w : c.args.place < length f.order.items = rw (← c.self.view_is) at c.requires in
    let here = read_here a c.args.place c.index-task.result.now w c.index-task.ensures in
    let h = runs_here a w here c.index.ensures (sym c.is_running.ensures ∙ c.if-not-is_running.false) in
    rw (c.row.ensures, c.deref.ensures.value, c.deref_mut.ensures.value) ((finish_reads a h w here).within)

pub take_readers-last_read-requires-clause-once : goal.take_readers-last_read-requires-clause-once
take_readers-last_read-requires-clause-once c =
    let f = c.self.inside in
    let a = c.self.invariant in
    let w : c.args.place < length f.order.items = rw (← c.self.view_is) at c.requires in
    let here = read_here a c.args.place c.index-task.result.now w c.index-task.ensures in
    let h = runs_here a w here c.index.ensures (sym c.is_running.ensures ∙ c.if-not-is_running.false) in
    rw c.row.ensures ((finish_reads a h w here).once)

pub take_readers-last_read-requires-clause-some : goal.take_readers-last_read-requires-clause-some
take_readers-last_read-requires-clause-some c =
    let f = c.self.inside in
    let a = c.self.invariant in
    let w : c.args.place < length f.order.items = rw (← c.self.view_is) at c.requires in
    let here = read_here a c.args.place c.index-task.result.now w c.index-task.ensures in
    let h = runs_here a w here c.index.ensures (sym c.is_running.ensures ∙ c.if-not-is_running.false) in
    rw (c.row.ensures, c.deref_mut.ensures.value) ((finish_reads a h w here).some)

pub take_readers-last_read-requires-clause-total : goal.take_readers-last_read-requires-clause-total
take_readers-last_read-requires-clause-total c =
    let f = c.self.inside in
    let a = c.self.invariant in
    let w : c.args.place < length f.order.items = rw (← c.self.view_is) at c.requires in
    let here = read_here a c.args.place c.index-task.result.now w c.index-task.ensures in
    let h = runs_here a w here c.index.ensures (sym c.is_running.ensures ∙ c.if-not-is_running.false) in
    rw (c.row.ensures, c.deref.ensures.value) (omega (arith, finish_total a h w here))

pub overflow_add-frees : goal.overflow_add-frees
overflow_add-frees c =
    let f = c.self.inside in
    let a = c.self.invariant in
    let w : c.args.place < length f.order.items = rw (← c.self.view_is) at c.requires in
    let here = read_here a c.args.place c.index-task.result.now w c.index-task.ensures in
    let h = runs_here a w here c.index.ensures (sym c.is_running.ensures ∙ c.if-not-is_running.false) in
    let last : c.take_readers-last_read.result
    ≡ sum_by (λ j. cond (slice_index f.left.items j == 1) (slice_index f.sizes.items j) 0) (row_at f.readings c.args.place) =
    rw (c.row.ensures, c.deref.ensures.value, c.deref_mut.ensures.value) at c.take_readers-last_read.ensures.freed in
    let freed = finish_freed a h w here c.index-fixed.result.now c.take_readers-last_read.result
    (number_here a w here a.fixed.frees_are c.index-fixed.ensures) last in
    omega (arith, (finish_frees a h (c.index-fixed.result.now + c.take_readers-last_read.result) freed (c.event_law.ensures.change _ a.setting _ a.safe Finish c.index-task.result.now h)).0, c.self.ranges)

pub overflow_sub-self : goal.overflow_sub-self
overflow_sub-self c =
    let f = c.self.inside in
    let a = c.self.invariant in
    let w : c.args.place < length f.order.items = rw (← c.self.view_is) at c.requires in
    let here = read_here a c.args.place c.index-task.result.now w c.index-task.ensures in
    let h = runs_here a w here c.index.ensures (sym c.is_running.ensures ∙ c.if-not-is_running.false) in
    let last : c.take_readers-last_read.result
    ≡ sum_by (λ j. cond (slice_index f.left.items j == 1) (slice_index f.sizes.items j) 0) (row_at f.readings c.args.place) =
    rw (c.row.ensures, c.deref.ensures.value, c.deref_mut.ensures.value) at c.take_readers-last_read.ensures.freed in
    let freed = finish_freed a h w here c.index-fixed.result.now c.take_readers-last_read.result
    (number_here a w here a.fixed.frees_are c.index-fixed.ensures) last in
    (finish_frees a h (c.index-fixed.result.now + c.take_readers-last_read.result) freed (c.event_law.ensures.change _ a.setting _ a.safe Finish c.index-task.result.now h)).0

pub overflow_sub-self-2 : goal.overflow_sub-self-2
overflow_sub-self-2 c =
    let f = c.self.inside in
    let a = c.self.invariant in
    let w : c.args.place < length f.order.items = rw (← c.self.view_is) at c.requires in
    let here = read_here a c.args.place c.index-task.result.now w c.index-task.ensures in
    let h = runs_here a w here c.index.ensures (sym c.is_running.ensures ∙ c.if-not-is_running.false) in
    let last : c.take_readers-last_read.result
    ≡ sum_by (λ j. cond (slice_index f.left.items j == 1) (slice_index f.sizes.items j) 0) (row_at f.readings c.args.place) =
    rw (c.row.ensures, c.deref.ensures.value, c.deref_mut.ensures.value) at c.take_readers-last_read.ensures.freed in
    let freed = finish_freed a h w here c.index-fixed.result.now c.take_readers-last_read.result
    (number_here a w here a.fixed.frees_are c.index-fixed.ensures) last in
    (finish_frees a h (c.index-fixed.result.now + c.take_readers-last_read.result) freed (c.event_law.ensures.change _ a.setting _ a.safe Finish c.index-task.result.now h)).1

pub returns-clause-next : goal.returns-clause-next
returns-clause-next c =
    let f = c.self.inside in
    let a = c.self.invariant in
    let w : c.args.place < length f.order.items = rw (← c.self.view_is) at c.requires in
    let here = read_here a c.args.place c.index-task.result.now w c.index-task.ensures in
    let h = runs_here a w here c.index.ensures (sym c.is_running.ensures ∙ c.if-not-is_running.false) in
    let is = finish_is_task a c.index-task.result.now h in
    rw (← c.self.view_is, here, phase_written c.self.inside.phases.items c.index-task.result.now Done is.0)

pub returns-then-not-is_running-clause-legal : goal.returns-then-not-is_running-clause-legal
returns-then-not-is_running-clause-legal c =
    let f = c.self.inside in
    let a = c.self.invariant in
    let w : c.args.place < length f.order.items = rw (← c.self.view_is) at c.requires in
    let here = read_here a c.args.place c.index-task.result.now w c.index-task.ensures in
    rw (← c.self.view_is, here) (
      λ z. absurd (true≢false (sym z)),
      λ h. absurd (rests_here a w here c.index.ensures (sym c.is_running.ensures ∙ c.if-not-is_running.true) h),
    )

pub returns-clause-legal : goal.returns-clause-legal
returns-clause-legal c =
    let f = c.self.inside in
    let a = c.self.invariant in
    let w : c.args.place < length f.order.items = rw (← c.self.view_is) at c.requires in
    let here = read_here a c.args.place c.index-task.result.now w c.index-task.ensures in
    let h = runs_here a w here c.index.ensures (sym c.is_running.ensures ∙ c.if-not-is_running.false) in
    rw (← c.self.view_is, here) (λ z. h, λ _. refl)

pub remove-requires : goal.remove-requires
remove-requires c =
    let f = c.self.inside in
    let a = c.self.invariant in
    let w : c.args.place < length f.order.items = rw (← c.self.view_is) at c.requires in
    let here = read_here a c.args.place c.index-task.result.now w c.index-task.ensures in
    let h = runs_here a w here c.index.ensures (sym c.is_running.ensures ∙ c.if-not-is_running.false) in
    a.running_are c.index-task.result.now ∙ ap is_running_phase h.running

pub release-requires-clause-within : goal.release-requires-clause-within
release-requires-clause-within c =
    let f = c.self.inside in
    let a = c.self.invariant in
    let w : c.args.place < length f.order.items = rw (← c.self.view_is) at c.requires in
    let here = read_here a c.args.place c.index-task.result.now w c.index-task.ensures in
    let h = runs_here a w here c.index.ensures (sym c.is_running.ensures ∙ c.if-not-is_running.false) in
    rw (c.row-consumers.ensures, c.deref_mut-2.ensures.value) (finish_within a h w here)

pub release-requires-clause-enough : goal.release-requires-clause-enough
release-requires-clause-enough c =
    let f = c.self.inside in
    let a = c.self.invariant in
    let w : c.args.place < length f.order.items = rw (← c.self.view_is) at c.requires in
    let here = read_here a c.args.place c.index-task.result.now w c.index-task.ensures in
    let h = runs_here a w here c.index.ensures (sym c.is_running.ensures ∙ c.if-not-is_running.false) in
    rw (c.row-consumers.ensures, c.deref_mut-2.ensures.value) (finish_enough a h w here)

pub invariant_of-self : goal.invariant_of-self
invariant_of-self c =
    let f = c.self.inside in
    let a = c.self.invariant in
    let w : c.args.place < length f.order.items = rw (← c.self.view_is) at c.requires in
    let here = read_here a c.args.place c.index-task.result.now w c.index-task.ensures in
    let h = runs_here a w here c.index.ensures (sym c.is_running.ensures ∙ c.if-not-is_running.false) in
    let last : c.take_readers-last_read.result
    ≡ sum_by (λ j. cond (slice_index f.left.items j == 1) (slice_index f.sizes.items j) 0) (row_at f.readings c.args.place) =
    rw (c.row.ensures, c.deref.ensures.value, c.deref_mut.ensures.value) at c.take_readers-last_read.ensures.freed in
    let freed = finish_freed a h w here c.index-fixed.result.now c.take_readers-last_read.result
    (number_here a w here a.fixed.frees_are c.index-fixed.ensures) last in
    let now = c.release.new.waiting in
    let len : length now ≡ f.waiting.len = omega (arith, c.release.auto.waiting, c.deref_mut-2.ensures.len) in
    let released = rw (c.row-consumers.ensures, c.deref_mut-2.ensures.value) at c.release.ensures in
    let waits = finish_waiting a h w here now
    (omega (arith, len, c.deref_mut-2.ensures.len, ap length c.deref_mut-2.ensures.value)) released in
    let left = c.take_readers-last_read.new.left in
    let left_len : length left ≡ f.left.len = omega (arith, c.take_readers-last_read.auto.left, c.deref_mut.ensures.len) in
    let taken = rw (c.row.ensures, c.deref_mut.ensures.value) at c.take_readers-last_read.ensures.left in
    let lefts = (finish_reads a h w here).after left
    (omega (arith, left_len, c.deref_mut.ensures.len, ap length c.deref_mut.ensures.value)) taken in
    let places = c.list_ready.new.startable in
    let marks = finish_startable a h w here now waits places c.list_ready.ensures.long
    (rw (c.row-consumers.ensures, c.deref-2.ensures.value ∙ take_at now (drop (length now) f.waiting.items) f.waiting.len len)
    at c.list_ready.ensures.listed) (rw c.row-consumers.ensures at c.list_ready.ensures.others) in
    rw (take_at now (drop (length now) f.waiting.items) f.waiting.len len, take_at left (drop (length left) f.left.items) f.left.len left_len)
    (finished_tables a h (c.index-fixed.result.now + c.take_readers-last_read.result) freed
    (c.event_law.ensures.change _ a.setting _ a.safe Finish c.index-task.result.now h)
    (c.event_law.ensures.kept _ a.setting _ a.safe Finish c.index-task.result.now h) c.remove.new.self
    c.remove.ensures.members c.remove.ensures.shorter c.remove.ensures.room c.remove.ensures.count now waits places marks left lefts)

pub list_ready-requires-clause-within : goal.list_ready-requires-clause-within
list_ready-requires-clause-within c =
    let f = c.self.inside in
    let a = c.self.invariant in
    let w : c.args.place < length f.order.items = rw (← c.self.view_is) at c.requires in
    let here = read_here a c.args.place c.index-task.result.now w c.index-task.ensures in
    let h = runs_here a w here c.index.ensures (sym c.is_running.ensures ∙ c.if-not-is_running.false) in
    rw c.row-consumers.ensures (λ i d v. omega (arith, finish_within a h w here i d v, a.waiting_are.long, a.startable_are.long))

pub list_ready-requires-clause-long : goal.list_ready-requires-clause-long
list_ready-requires-clause-long c =
    let f = c.self.inside in
    let a = c.self.invariant in
    let now = c.release.new.waiting in
    let len : length now ≡ f.waiting.len = omega (arith, c.release.auto.waiting, c.deref_mut-2.ensures.len) in
    let read = ap length (c.deref-2.ensures.value ∙ take_at now (drop (length now) f.waiting.items) f.waiting.len len) in
    omega (
      arith,
      read,
      len,
      c.deref_mut-2.ensures.len,
      ap length c.deref_mut-2.ensures.value,
      a.waiting_are.long,
      a.startable_are.long,
    )
