use Rattle.std.proofs.Common.{◌≡◌, ◌↔◌, ℕ, ◌+◌, ◌≤◌, All, Bool, false, List, get_or, length, arith, ap, sym, subst, ◌∙◌, refl}
use Rattle.std.specs.Prelude.{ℤ, pos, ◌+ℤ◌, ◌≤ℤ◌, IsTrue}
use Rattle.std.proofs.lemmas.Bool.{both_ways}
use Rattle.std.proofs.lemmas.List.{get_or_read}
use Rattle.mp_system.specs.Replay.{is_marked}
use Rattle.shared_systems.specs.Shared.{HasTask, SharedTaskSystem, SharedItem, shared_need_of}
use Rattle.peak_bounds.specs.declared.step.Event.{Event}
use Rattle.peak_bounds.specs.declared.evidence.Amount.{Amount}
use Rattle.peak_bounds.specs.declared.evidence.BlockerTest.TheVariants as tests
use Rattle.peak_bounds.specs.declared.judging.FormTest.TheVariants as forms
use Rattle.peak_bounds.specs.EventSets.{BlockerValue, EventSetValue}
use Rattle.peak_bounds.specs.Moments.{uses_of, is_used_by, is_made_for_use, is_held_for, lowered_where, Moment, FitSizes}
use Rattle.peak_bounds.specs.Evidence.{use_count, set_tasks, lowered_by, blocker_at, IsAmount, IsMomentOf, Passes}
use Rattle.peak_bounds.specs.Fitting.{IsFitting, IsPut}
use Rattle.peak_bounds.specs.Judging.{size_at, AreSmall}
use Rattle.peak_bounds.specs.Judged.{IsFormed, AreSetMarks, AreMarks}
use Rattle.peak_bounds.proofs.Told.{lowered-small}
use Rattle.peak_bounds.proofs.Fits.{put_by}
use Rattle.peak_bounds.proofs.Sparing.{open_is}
use Rattle.peak_bounds.proofs.Verdicts.{blocker_is, lowered-len, moment_is, not_open, not_level}
use Rattle.peak_bounds.proofs.blockers.judge_moment.Goals as goal
use Rattle.peak_bounds.proofs.blockers.judge_moment.Goals.{After-amounts, After-fit_with, After-event, In_ok-mark, After-reaches}

-- ---- the lowered sizes

module _ (system : SharedTaskSystem) (set : EventSetValue) (i : ℕ) (sizes : List ℤ) (is : sizes ≡ lowered_by (use_count system) set.base (blocker_at set (i + 1)).amounts) where
  long : length sizes ≡ use_count system
  long = lowered-len (use_count system) set.base (blocker_at set (i + 1)).amounts sizes is

  small : (bound : ℕ) → IsFormed system set bound → i + 1 ≤ length set.blockers → AreSmall sizes
  small bound formed within =
      subst AreSmall (sym is)
      (lowered-small (use_count system) set.base (blocker_at set (i + 1)).amounts formed.base.each (formed.each forms.Amounts (i + 1) (omega arith, within)).each)

pub fit_with-requires-clause-len : goal.fit_with-requires-clause-len
fit_with-requires-clause-len c =
    long c.args.system.now c.args.set.now c.args.i c.args.sizes.now c.requires.sizes
    ∙ ap (λ (l : List SharedItem). length (uses_of l)) (sym c.items.ensures.value)

pub reaches-requires-clause-lowered : goal.reaches-requires-clause-lowered
reaches-requires-clause-lowered c = long c.args.system.now c.args.set.now c.args.i c.args.sizes.now c.requires.sizes

pub reaches-requires-clause-small : goal.reaches-requires-clause-small
reaches-requires-clause-small c =
    small c.args.system.now c.args.set.now c.args.i c.args.sizes.now c.requires.sizes c.args.bound c.requires.formed (omega (arith, c.requires.i))

-- ---- whether they fit, by the blocker's own amounts

own : (c : After-amounts) → c.amounts.result.now ≡ (blocker_at c.args.set.now (c.args.i + 1)).amounts
own c =
    c.amounts.ensures
    ∙ ap (λ (b : BlockerValue). b.amounts)
    (blocker_is c.args.set.now c.blockers.result.now c.args.i c.index-blockers-i.result c.blockers.ensures
    (omega (arith, c.requires.i, ap (λ (l : List BlockerValue). length l) c.blockers.ensures)) c.index-blockers-i.is)

pub fit_with-requires-clause-own : goal.fit_with-requires-clause-own
fit_with-requires-clause-own c =
    let a = (goal.at.fit_with-requires-clause-own c).After-amounts in
    subst (λ (l : List Amount). All (IsAmount (length c.args.sizes.now)) l) (sym (own a))
    (subst (λ (n : ℕ). All (IsAmount n) (blocker_at c.args.set.now (c.args.i + 1)).amounts)
    (sym (long c.args.system.now c.args.set.now c.args.i c.args.sizes.now c.requires.sizes))
    (c.requires.formed.each forms.Amounts (c.args.i + 1) (omega arith, omega (arith, c.requires.i))).each)

fit_is : (c : After-fit_with) → c.amounts.result.now ≡ (blocker_at c.args.set.now (c.args.i + 1)).amounts
    → (IsTrue c.fit_with.result ↔ FitSizes c.items.result.now c.args.sizes.now)
fit_is c own_is =
    let base = c.args.common.now.sizes.items in
    c.fit_with.ensures base
    (subst (λ (xs : List SharedItem). IsFitting xs base c.args.common.now.fitting) (sym c.items.ensures.value) c.requires.common.fitting)
    (subst (λ (l : List Amount). IsPut base l c.args.sizes.now) (sym own_is)
    (put_by (use_count c.args.system.now) c.args.set.now.base (blocker_at c.args.set.now (c.args.i + 1)).amounts base c.args.sizes.now c.requires.common.sizes c.requires.sizes))

-- what is said of the items and sizes at hand is said of the blocker's
sizes_pass : (c : After-fit_with) → FitSizes c.items.result.now c.args.sizes.now ≡ Passes c.args.system.now c.args.set.now c.args.bound tests.Sizes (c.args.i + 1)
sizes_pass c =
    ap (λ (xs : List SharedItem). FitSizes xs c.args.sizes.now) c.items.ensures.value
    ∙ ap (λ (l : List ℤ). FitSizes c.args.system.now.items l) c.requires.sizes

fit : (c : After-fit_with) → c.amounts.result.now ≡ (blocker_at c.args.set.now (c.args.i + 1)).amounts → IsTrue c.fit_with.result
    → Passes c.args.system.now c.args.set.now c.args.bound tests.Sizes (c.args.i + 1)
fit c own_is passed = subst (λ (T : Type 0). T) (sizes_pass c) ((fit_is c own_is).0 passed)

pub returns-then-not-fit_with-clause-found : goal.returns-then-not-fit_with-clause-found
returns-then-not-fit_with-clause-found c = λ passes.
    let at = goal.at.returns-then-not-fit_with-clause-found c in
    both_ways c.fit_with.result c.if-not-fit_with.true
    ((fit_is at.After-fit_with (own at.After-amounts)).1 (subst (λ (T : Type 0). T) (sym (sizes_pass at.After-fit_with)) passes))

-- ---- the task

task_is : (c : After-event) → c.task-task.result ≡ (blocker_at c.args.set.now (c.args.i + 1)).task
task_is c =
    c.task-task.ensures
    ∙ ap (λ (b : BlockerValue). b.task)
    (blocker_is c.args.set.now c.blockers.result.now c.args.i c.index-blockers-i.result c.blockers.ensures
    (omega (arith, c.requires.i, ap (λ (l : List BlockerValue). length l) c.blockers.ensures)) c.index-blockers-i.is)

has_task : (c : After-event) → HasTask c.args.system.now c.task-task.result
has_task c =
    subst (HasTask c.args.system.now) (sym (task_is c)) (c.requires.formed.each forms.Task (c.args.i + 1) (omega arith, omega (arith, c.requires.i)))

pub mark-requires-clause-task : goal.mark-requires-clause-task
mark-requires-clause-task c = has_task (goal.at.mark-requires-clause-task c).After-event

-- ---- what it needs

reads : (system : SharedTaskSystem) (needs : List ℕ) (t n : ℕ) → length needs ≡ length system.tasks + 1
    → ((v : ℕ) → HasTask system v → get_or needs v 0 ≡ shared_need_of system v) → HasTask system t → n ≡ get_or needs t n → n ≡ shared_need_of system t
reads system needs t n len each has read = get_or_read needs t n (omega (arith, len, has.1)) read 0 ∙ each t has

pub index-need-requires : goal.index-need-requires
index-need-requires c = omega (arith, c.requires.common.needs_len, (has_task (goal.at.index-need-requires c).After-event).1)

need_is : (c : After-reaches) → HasTask c.args.system.now c.task-task.result → c.index-need.result.now ≡ shared_need_of c.args.system.now c.task-task.result
need_is c has =
    reads c.args.system.now c.args.common.now.needs.items c.task-task.result c.index-need.result.now c.requires.common.needs_len c.requires.common.needs
    has c.index-need.ensures

-- ---- the marks

marked : (c : In_ok-mark) → AreMarks c.args.system.now c.event.result (set_tasks c.args.set.now) c.task-task.result c.mark.new.self
marked c = c.in_ok-mark.ensures (set_tasks c.args.set.now)
    (subst (λ (e : Event). AreSetMarks c.args.system.now e (set_tasks c.args.set.now) c.args.common.now.marks) (sym c.event.ensures) c.requires.common.marks)

pub open_tasks_rise-requires-clause-waiting : goal.open_tasks_rise-requires-clause-waiting
open_tasks_rise-requires-clause-waiting c =
    let lengths = (marked (goal.at.open_tasks_rise-requires-clause-waiting c).In_ok-mark).lengths in
    ap (λ (l : List Bool). length l) c.deref-2.ensures.value ∙ lengths.waiting ∙ sym lengths.done ∙ sym (ap (λ (l : List Bool). length l) c.deref.ensures.value)

pub open_tasks_rise-requires-clause-spare : goal.open_tasks_rise-requires-clause-spare
open_tasks_rise-requires-clause-spare c =
    let lengths = (marked (goal.at.open_tasks_rise-requires-clause-spare c).In_ok-mark).lengths in
    omega (arith, c.requires.spare_len, lengths.done, ap (λ (l : List Bool). length l) c.deref.ensures.value)

pub reaches-requires-clause-done : goal.reaches-requires-clause-done
reaches-requires-clause-done c =
    ap (λ (l : List Bool). length l) c.deref-3.ensures.value ∙ (marked (goal.at.reaches-requires-clause-done c).In_ok-mark).lengths.done

pub returns-then-not-open_tasks_rise-clause-lengths : goal.returns-then-not-open_tasks_rise-clause-lengths
returns-then-not-open_tasks_rise-clause-lengths c = (marked (goal.at.returns-then-not-open_tasks_rise-clause-lengths c).In_ok-mark).lengths

pub returns-then-not-reaches-clause-lengths : goal.returns-then-not-reaches-clause-lengths
returns-then-not-reaches-clause-lengths c = (marked (goal.at.returns-then-not-reaches-clause-lengths c).In_ok-mark).lengths

pub returns-clause-lengths : goal.returns-clause-lengths
returns-clause-lengths c = (marked (goal.at.returns-clause-lengths c).In_ok-mark).lengths

-- ---- the moment

of : (c : In_ok-mark) → c.task-task.result ≡ (blocker_at c.args.set.now (c.args.i + 1)).task
    → (done waiting : List Bool) → done ≡ c.mark.new.self.done.items → waiting ≡ c.mark.new.self.waiting.items
    → (let m : Moment = record { task = c.task-task.result; done = done; waiting = waiting; lowered = c.args.sizes.now } in
    IsMomentOf c.args.system.now c.args.set.now (blocker_at c.args.set.now (c.args.i + 1)) m)
of c t_is done waiting done_is waiting_is =
    let set = c.args.set.now in
    let are = marked c in
    moment_is c.args.system.now set (blocker_at set (c.args.i + 1)) c.task-task.result t_is (set_tasks set) refl c.event.result c.event.result c.event.ensures c.event.ensures
    done waiting c.args.sizes.now (ap (λ (l : List Bool). length l) done_is ∙ are.lengths.done) (ap (λ (l : List Bool). length l) waiting_is ∙ are.lengths.waiting)
    (λ v e. are.has_run v (ap (λ (l : List Bool). is_marked l v) (sym done_is) ∙ e)) (λ v h. ap (λ (l : List Bool). is_marked l v) done_is ∙ are.done v h)
    (λ v e. are.waits v (ap (λ (l : List Bool). is_marked l v) (sym waiting_is) ∙ e)) (λ v h. ap (λ (l : List Bool). is_marked l v) waiting_is ∙ are.waiting v h)
    c.requires.sizes

-- the open tasks rise just where none has less than nothing to spare
opening : (c : In_ok-mark) (done waiting : List Bool) → done ≡ c.mark.new.self.done.items
    → ((v : ℕ) → 1 ≤ v → v ≤ length done → is_marked done v ≡ false → is_marked waiting v ≡ false → pos 0 ≤ℤ size_at c.args.spare.now v)
    ↔ ((v : ℕ) → HasTask c.args.system.now v → is_marked done v ≡ false → is_marked waiting v ≡ false
    → lowered_where (is_used_by v) (uses_of c.args.system.now.items) c.args.sizes.now
    ≤ℤ lowered_where (is_made_for_use v) (uses_of c.args.system.now.items) c.args.sizes.now)
opening c done waiting done_is =
    open_is c.args.system.now c.args.common.now.uses c.requires.common.uses c.args.sizes.now c.args.spare.now c.requires.spare (length done) done waiting
    (ap (λ (l : List Bool). length l) done_is ∙ (marked c).lengths.done) c.requires.spare_len

pub returns-then-not-open_tasks_rise-clause-found : goal.returns-then-not-open_tasks_rise-clause-found
returns-then-not-open_tasks_rise-clause-found c =
    let at = goal.at.returns-then-not-open_tasks_rise-clause-found c in
    let m = of at.In_ok-mark (task_is at.After-event) c.deref.result.now c.deref-2.result.now c.deref.ensures.value c.deref-2.ensures.value in (
      fit at.After-fit_with (own at.After-amounts) c.if-not-fit_with.false,
      not_open c.args.system.now c.args.set.now c.args.bound (c.args.i + 1) _ m (λ rise.
          both_ways c.open_tasks_rise.result c.if-not-open_tasks_rise.true
          (c.open_tasks_rise.ensures.1 ((opening at.In_ok-mark c.deref.result.now c.deref-2.result.now c.deref.ensures.value).1 rise))),
    )

-- the level by the need that was read
abbrev level : (c : After-reaches) → ℕ → ℤ
level c n = lowered_where (is_held_for (is_marked c.deref-3.result.now)) (uses_of c.args.system.now.items) c.args.sizes.now +ℤ pos n

pub returns-then-not-reaches-clause-found : goal.returns-then-not-reaches-clause-found
returns-then-not-reaches-clause-found c =
    let at = goal.at.returns-then-not-reaches-clause-found c in
    let opens = of at.In_ok-mark (task_is at.After-event) c.deref.result.now c.deref-2.result.now c.deref.ensures.value c.deref-2.ensures.value in
    let m = of at.In_ok-mark (task_is at.After-event) c.deref-3.result.now c.mark.new.self.waiting.items c.deref-3.ensures.value refl in (
      fit at.After-fit_with (own at.After-amounts) c.if-not-fit_with.false,
      (_, opens, (opening at.In_ok-mark c.deref.result.now c.deref-2.result.now c.deref.ensures.value).0 (c.open_tasks_rise.ensures.0 c.if-not-open_tasks_rise.false)),
      not_level c.args.system.now c.args.set.now c.args.bound (c.args.i + 1) _ m (λ high.
          both_ways c.reaches.result c.if-not-reaches.true
          (c.reaches.ensures.1 (subst (λ (n : ℕ). pos c.args.bound ≤ℤ level at.After-reaches n) (sym (need_is at.After-reaches (has_task at.After-event))) high))),
    )

pub returns-clause-found : goal.returns-clause-found
returns-clause-found c =
    let at = goal.at.returns-clause-found c in
    let opens = of at.In_ok-mark (task_is at.After-event) c.deref.result.now c.deref-2.result.now c.deref.ensures.value c.deref-2.ensures.value in
    let m = of at.In_ok-mark (task_is at.After-event) c.deref-3.result.now c.mark.new.self.waiting.items c.deref-3.ensures.value refl in
    let high =
    subst (λ (n : ℕ). pos c.args.bound ≤ℤ level at.After-reaches n) (need_is at.After-reaches (has_task at.After-event))
    (c.reaches.ensures.0 c.if-not-reaches.false) in
    record {
      sizes = fit at.After-fit_with (own at.After-amounts) c.if-not-fit_with.false;
      opens = (_, opens, (opening at.In_ok-mark c.deref.result.now c.deref-2.result.now c.deref.ensures.value).0 (c.open_tasks_rise.ensures.0 c.if-not-open_tasks_rise.false));
      level = (_, m, high);
    }
