-- What is said of evidence: what was found of each blocker, put together.
use Rattle.std.proofs.Common.{◌≡◌, ◌≢◌, ◌↔◌, ℕ, ◌+◌, ◌-◌, ◌<◌, ◌≤◌, Bool, true, List, [], length, get_or, Option, Some, None}
use Rattle.std.proofs.Common.{refl, sym, ap, subst, ◌∙◌, arith}
use Rattle.std.specs.Prelude.{ℤ, pos, ◌≤ℤ◌, All, MatchOption, IsNone}
use Rattle.std.proofs.lemmas.List.{get_or-map, get_or_read, length-map}
use Rattle.std.proofs.lemmas.List.FromFn.{length-map-range_with_len}
use Rattle.lists.specs.Numbers.{Each, IsFirstWithout, IsPlace}
use Rattle.mp_system.specs.Replay.{is_marked}
use Rattle.shared_systems.specs.Shared.{SharedTaskSystem, HasTask}
use Rattle.shared_systems.specs.SharedMemory.{shared_peak_of}
use Rattle.shared_systems.specs.SharedTraversal.{IsSharedTraversal}
use Rattle.shared_systems.specs.Bounds.{IsSharedSystem}
use Rattle.peak_bounds.specs.declared.step.Event.{Event}
use Rattle.peak_bounds.specs.declared.evidence.Amount.{Amount}
use Rattle.peak_bounds.specs.declared.evidence.Evidence.{Evidence}
use Rattle.peak_bounds.specs.declared.evidence.Evidence.TheVariants.{Start, Need, Set}
use Rattle.peak_bounds.specs.declared.evidence.BlockerTest.{BlockerTest}
use Rattle.peak_bounds.specs.declared.evidence.BlockerTest.TheVariants as tests
use Rattle.peak_bounds.specs.declared.evidence.Objection.{Objection}
use Rattle.peak_bounds.specs.declared.evidence.Objection.TheVariants as objections
use Rattle.peak_bounds.specs.declared.judging.FormTest.{FormTest}
use Rattle.peak_bounds.specs.declared.judging.FormTest.TheVariants as forms
use Rattle.peak_bounds.specs.declared.use_table.UseTable.{UseTable}
use Rattle.peak_bounds.specs.EventSets.{BlockerValue, EventSetValue}
use Rattle.peak_bounds.specs.Moments.{uses_of, Moment, level_of}
use Rattle.peak_bounds.specs.Evidence.{use_count, lowered_by, task_of, set_tasks, HasRun, Waits, IsMomentOf, OpenTasksRise, blocker_at, Passes}
use Rattle.peak_bounds.specs.Evidence.{AreAmounts, IsEventSet, IsEvidence, IsObjection, EarlierPass, AreFormed, PassBefore, IsFirstFailing}
use Rattle.peak_bounds.specs.Judging.{maker_of, AreUses}
use Rattle.peak_bounds.specs.Judged.{test_of, IsFormed, PassesAtMoment, FailsAtMoment}
use Rattle.peak_bounds.proofs.AtBlockers.{same_moment, evidence_bound}

-- ---- a blocker

abbrev no_blocker : BlockerValue
no_blocker = record { task = 0; amounts = [] }

pub blocker_is : (set : EventSetValue) (bs : List BlockerValue) (i : ℕ) (b : BlockerValue) → bs ≡ set.blockers → i < length bs → b ≡ get_or bs i b
    → b ≡ blocker_at set (i + 1)
blocker_is set bs i b same lt read =
    get_or_read bs i b lt read no_blocker ∙ ap (λ (l : List BlockerValue). get_or l i no_blocker) same
    ∙ ap (λ (k : ℕ). get_or set.blockers k no_blocker) (let e : i ≡ i + 1 - 1 = omega arith in e)

pub tasks_are : (system : SharedTaskSystem) (set : EventSetValue) (bound : ℕ) → IsFormed system set bound → All (HasTask system) (set_tasks set)
tasks_are system set bound formed k d lt =
    let inside : k < length set.blockers = omega (arith, lt, length-map set.blockers task_of) in
    let at = formed.each forms.Task (k + 1) (omega arith, omega (arith, inside)) in
    let same = get_or-map task_of set.blockers k no_blocker d inside ∙ ap (λ (j : ℕ). task_of (get_or set.blockers j no_blocker)) (let e : k ≡ k + 1 - 1 = omega arith in e) in
    subst (HasTask system) (sym same) at

pub tasks_same : (system : SharedTaskSystem) (set : EventSetValue) (bound : ℕ) (tasks : List ℕ) → tasks ≡ set_tasks set → IsFormed system set bound → All (HasTask system) tasks
tasks_same system set bound tasks same formed = subst (All (HasTask system)) (sym same) (tasks_are system set bound formed)

pub count_is : (system : SharedTaskSystem) (uses : UseTable) (count : ℕ) → AreUses system uses → count ≡ length uses.makers.items → count ≡ use_count system
count_is system uses count are is = is ∙ ap (λ (l : List ℕ). length l) are.makers ∙ length-map (uses_of system.items) maker_of

pub lowered-len : (count : ℕ) (base own : List Amount) (sizes : List ℤ) → sizes ≡ lowered_by count base own → length sizes ≡ count
lowered-len count base own sizes is = ap (λ (l : List ℤ). length l) is ∙ length-map-range_with_len _ 1 count

-- ---- its moment

module _ (system : SharedTaskSystem) (set : EventSetValue) (b : BlockerValue) (task : ℕ) (task_is : task ≡ b.task) (tasks : List ℕ) (tasks_is : tasks ≡ set_tasks set) where
  run_there : (event : Event) (v : ℕ) → event ≡ set.event → HasRun system event tasks task v → HasRun system set.event (set_tasks set) b.task v
  run_there event v is h =
      subst (λ (e : Event). HasRun system e (set_tasks set) b.task v) is
      (subst (λ (l : List ℕ). HasRun system event l b.task v) tasks_is (subst (λ (t : ℕ). HasRun system event tasks t v) task_is h))

  run_back : (event : Event) (v : ℕ) → event ≡ set.event → HasRun system set.event (set_tasks set) b.task v → HasRun system event tasks task v
  run_back event v is h =
      subst (λ (t : ℕ). HasRun system event tasks t v) (sym task_is)
      (subst (λ (l : List ℕ). HasRun system event l b.task v) (sym tasks_is) (subst (λ (e : Event). HasRun system e (set_tasks set) b.task v) (sym is) h))

  wait_there : (event : Event) (v : ℕ) → event ≡ set.event → Waits system event tasks task v → Waits system set.event (set_tasks set) b.task v
  wait_there event v is h =
      subst (λ (e : Event). Waits system e (set_tasks set) b.task v) is
      (subst (λ (l : List ℕ). Waits system event l b.task v) tasks_is (subst (λ (t : ℕ). Waits system event tasks t v) task_is h))

  wait_back : (event : Event) (v : ℕ) → event ≡ set.event → Waits system set.event (set_tasks set) b.task v → Waits system event tasks task v
  wait_back event v is h =
      subst (λ (t : ℕ). Waits system event tasks t v) (sym task_is)
      (subst (λ (l : List ℕ). Waits system event l b.task v) (sym tasks_is) (subst (λ (e : Event). Waits system e (set_tasks set) b.task v) (sym is) h))

  module _ (one two : Event) (one_is : one ≡ set.event) (two_is : two ≡ set.event) (done waiting : List Bool) (lowered : List ℤ)
      (done_len : length done ≡ length system.tasks) (waiting_len : length waiting ≡ length system.tasks)
      (has_run : (v : ℕ) → is_marked done v ≡ true → HasRun system one tasks task v) (are_done : (v : ℕ) → HasRun system one tasks task v → is_marked done v ≡ true)
      (waits : (v : ℕ) → is_marked waiting v ≡ true → Waits system two tasks task v) (are_waiting : (v : ℕ) → Waits system two tasks task v → is_marked waiting v ≡ true)
      (lowered_is : lowered ≡ lowered_by (use_count system) set.base b.amounts) where
    pub moment_is : (let m : Moment = record { task = task; done = done; waiting = waiting; lowered = lowered } in IsMomentOf system set b m)
    moment_is = record {
      task = task_is;
      done_len = done_len;
      waiting_len = waiting_len;
      has_run = λ v is_task e. run_there one v one_is (has_run v e);
      done = λ v is_task h. are_done v (run_back one v one_is h);
      waits = λ v is_task e. wait_there two v two_is (waits v e);
      waiting = λ v is_task h. are_waiting v (wait_back two v two_is h);
      lowered = lowered_is;
    }

module _ (system : SharedTaskSystem) (set : EventSetValue) (bound place : ℕ) (m : Moment) (of : IsMomentOf system set (blocker_at set place) m) where
  pub not_open : (OpenTasksRise system m → ⊥) → Passes system set bound tests.Open place → ⊥
  not_open fails passes =
      fails (subst (λ (w : Moment). OpenTasksRise system w) (same_moment system set (blocker_at set place) passes.0 m passes.1 of) passes.2)

  pub not_level : ((pos bound ≤ℤ level_of system m) → ⊥) → Passes system set bound tests.Level place → ⊥
  not_level fails passes =
      fails (subst (λ (w : Moment). pos bound ≤ℤ level_of system w) (same_moment system set (blocker_at set place) passes.0 m passes.1 of) passes.2)

-- ---- all blockers

module _ (system : SharedTaskSystem) (set : EventSetValue) (bound : ℕ) (formed : IsFormed system set bound) where
  at_moment : (test : BlockerTest) (k : ℕ) → IsPlace (length set.blockers) k → PassesAtMoment system set bound k → Passes system set bound test k
  at_moment tests.Task k place passes = formed.each forms.Task k place
  at_moment tests.Rising k place passes = formed.each forms.Rising k place
  at_moment tests.Amounts k place passes = formed.each forms.Amounts k place
  at_moment tests.Sizes k place passes = passes.sizes
  at_moment tests.Open k place passes = passes.opens
  at_moment tests.Level k place passes = passes.level

  formed_tests : AreFormed system set bound
  formed_tests = (formed.each forms.Task, formed.each forms.Rising, formed.each forms.Amounts)

  module _ (i : ℕ) (lt : i < length set.blockers) (before : (k : ℕ) → 1 ≤ k → k < i + 1 → PassesAtMoment system set bound k) where
    earlier_pass : EarlierPass system set bound (i + 1)
    earlier_pass = λ test k low less. at_moment test k (low, omega (arith, less, lt)) (before k low less)

    first_at : (test : BlockerTest) → (Passes system set bound test (i + 1) → ⊥) → IsFirstWithout (length set.blockers) (Passes system set bound test) (i + 1)
    first_at test fails = record { is_place = (omega arith, omega (arith, lt)); fails = fails; before = earlier_pass test }

    failing_with : (test : BlockerTest) → PassBefore system set bound test (i + 1) → (Passes system set bound test (i + 1) → ⊥) → IsFirstFailing system set bound test (i + 1)
    failing_with test passed fails = record { some = formed.some; base = formed.base; before = passed; first = first_at test fails }

    pub first_failing : (test : BlockerTest) → FailsAtMoment system set bound test (i + 1) → IsFirstFailing system set bound test (i + 1)
    first_failing tests.Task fails = absurd fails
    first_failing tests.Rising fails = absurd fails
    first_failing tests.Amounts fails = absurd fails
    first_failing tests.Sizes fails = failing_with tests.Sizes (formed_tests, earlier_pass) fails
    first_failing tests.Open fails = failing_with tests.Open (formed_tests, earlier_pass, fails.0) fails.1
    first_failing tests.Level fails = failing_with tests.Level (formed_tests, earlier_pass, fails.0, fails.1) fails.2

  pub all_pass : (i : ℕ) → length set.blockers ≤ i → ((k : ℕ) → 1 ≤ k → k < i + 1 → PassesAtMoment system set bound k) → IsEventSet system set bound
  all_pass i long passes = record {
    some = formed.some;
    base = formed.base;
    each = λ test k place. at_moment test k place (passes k place.0 (omega (arith, place.1, long)));
  }

-- ---- an objection refutes

set_refuted : (system : SharedTaskSystem) (set : EventSetValue) (bound : ℕ) (o : Objection) → IsObjection system (Set set) bound o → IsEventSet system set bound → ⊥
set_refuted system set bound objections.NoTask objection is = objection
set_refuted system set bound objections.Low objection is = objection
set_refuted system set bound objections.Empty objection is = omega (arith, is.some, ap (λ (l : List BlockerValue). length l) objection)
set_refuted system set bound objections.Base objection is = objection.1 is.base
set_refuted system set bound (objections.Blocker test place) objection is = objection.first.fails (is.each test place objection.first.is_place)

start_refuted : (system : SharedTaskSystem) (bound : ℕ) (o : Objection) → IsObjection system Start bound o → IsEvidence system Start bound → ⊥
start_refuted system bound objections.NoTask objection is = objection
start_refuted system bound objections.Low objection is = omega (arith, objection, is)
start_refuted system bound objections.Empty objection is = objection
start_refuted system bound objections.Base objection is = objection
start_refuted system bound (objections.Blocker test place) objection is = objection

need_refuted : (system : SharedTaskSystem) (t bound : ℕ) (o : Objection) → IsObjection system (Need t) bound o → IsEvidence system (Need t) bound → ⊥
need_refuted system t bound objections.NoTask objection is = objection is.0
need_refuted system t bound objections.Low objection is = omega (arith, objection.1, is.1)
need_refuted system t bound objections.Empty objection is = objection
need_refuted system t bound objections.Base objection is = objection
need_refuted system t bound (objections.Blocker test place) objection is = objection

pub refuted : (system : SharedTaskSystem) (evidence : Evidence) (bound : ℕ) (o : Objection) → IsObjection system evidence bound o → IsEvidence system evidence bound → ⊥
refuted system Start bound o objection is = start_refuted system bound o objection is
refuted system (Need t) bound o objection is = need_refuted system t bound o objection is
refuted system (Set set) bound o objection is = set_refuted system set bound o objection is

pub exactly : (system : SharedTaskSystem) (evidence : Evidence) (bound : ℕ) (found : Option Objection)
    → MatchOption found (IsEvidence system evidence bound) (IsObjection system evidence bound) → IsNone found ↔ IsEvidence system evidence bound
exactly system evidence bound None judged = (λ e. judged, λ is. refl)
exactly system evidence bound (Some o) judged = (λ e. absurd cc, λ is. absurd (refuted system evidence bound o judged is))

pub peaks_by : (system : SharedTaskSystem) (evidence : Evidence) (bound : ℕ) (found : Option Objection) → IsSharedSystem system
    → MatchOption found (IsEvidence system evidence bound) (IsObjection system evidence bound) → IsNone found
    → (order : List ℕ) → IsSharedTraversal system order → bound ≤ shared_peak_of system order
peaks_by system evidence bound found within judged none order traversal =
    evidence_bound system within order traversal evidence bound ((exactly system evidence bound found judged).0 none)

-- ---- what is formed, or not

pub some_by : (set : EventSetValue) (bs : List BlockerValue) → bs ≡ set.blockers → length bs ≢ 0 → 1 ≤ length set.blockers
some_by set bs same some = (let e : length set.blockers ≢ 0 = subst (λ (l : List BlockerValue). length l ≢ 0) same some in omega (arith, e))

pub formed_by : (system : SharedTaskSystem) (set : EventSetValue) (bound : ℕ) → length set.blockers ≢ 0 → AreAmounts (use_count system) set.base
    → Each (length set.blockers) (Passes system set bound tests.Task) → Each (length set.blockers) (Passes system set bound tests.Rising)
    → Each (length set.blockers) (Passes system set bound tests.Amounts) → IsFormed system set bound
formed_by system set bound some base tasks rising amounts = record { some = omega (arith, some); base = base; each = each } where
  each : (test : FormTest) → Each (length set.blockers) (Passes system set bound (test_of test))
  each forms.Task = tasks
  each forms.Rising = rising
  each forms.Amounts = amounts
