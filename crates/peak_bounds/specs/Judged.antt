-- No public clause names this.
-- What the judge of evidence has marked and found so far.
use Rattle.std.specs.Prelude.{◌≡◌, ℕ, ◌+◌, ◌-◌, ◌*◌, ◌<◌, ◌≤◌, min, true, ◌⊎◌, List, [], length, slice_index, slice_index_or}
use Rattle.std.specs.Prelude.{Option, Some, None, MatchOption, Result, Ok, IfOk}
use Rattle.lists.specs.Numbers.{Each}
use Rattle.mp_system.specs.Memory.{stands_in}
use Rattle.mp_system.specs.Replay.{is_marked}
use Rattle.shared_systems.specs.Shared.{SharedTaskSystem, HasTask, shared_need_of}
use Rattle.peak_bounds.specs.declared.step.Event.{Event}
use Rattle.peak_bounds.specs.declared.step.Event.TheVariants.{First, Last}
use Rattle.peak_bounds.specs.declared.marks.SetMarks.{SetMarks}
use Rattle.peak_bounds.specs.declared.marks.Marks.{Marks}
use Rattle.peak_bounds.specs.declared.blockers.Common.{Common}
use Rattle.peak_bounds.specs.declared.evidence.Objection.{Objection}
use Rattle.peak_bounds.specs.declared.evidence.Objection.TheVariants as objections
use Rattle.peak_bounds.specs.declared.judging.FormTest.{FormTest}
use Rattle.peak_bounds.specs.declared.judging.FormTest.TheVariants as forms
use Rattle.peak_bounds.specs.declared.evidence.BlockerTest.{BlockerTest}
use Rattle.peak_bounds.specs.declared.evidence.BlockerTest.TheVariants as tests
use Rattle.peak_bounds.specs.EventSets.{EventSetValue}
use Rattle.peak_bounds.specs.Evidence.{use_count, set_tasks, lowered_by, AreAmounts, Passes, IsBeforeOne, IsAfterOne, HasRun, Waits}
use Rattle.peak_bounds.specs.Fitting.{IsFitting}
use Rattle.peak_bounds.specs.Judging.{AreUses, AreSpare}

-- ---- marks

-- which tasks wait, or have run, for certain, as others of these do, whichever starts
abbrev pub IsBeyond : SharedTaskSystem → Event → List ℕ → ℕ → Type 0
IsBeyond system First tasks v = IsAfterOne system tasks v
IsBeyond system Last tasks v = IsBeforeOne system tasks v

pub record AreSetMarks (system : SharedTaskSystem) (event : Event) (tasks : List ℕ) (marks : SetMarks) : Type 0 where
  pub beyond_len : length marks.beyond.items ≡ length system.tasks
  pub all_len : length marks.all.items ≡ length system.tasks
  pub beyond : (v : ℕ) → is_marked marks.beyond.items v ≡ true → IsBeyond system event tasks v
  pub beyond_all : (v : ℕ) → IsBeyond system event tasks v → is_marked marks.beyond.items v ≡ true
  pub sound : (v : ℕ) → is_marked marks.all.items v ≡ true → (stands_in tasks v ≡ true) ⊎ IsBeyond system event tasks v
  pub all : (v : ℕ) → (stands_in tasks v ≡ true) ⊎ IsBeyond system event tasks v → is_marked marks.all.items v ≡ true

pub record HaveLengths (count : ℕ) (marks : Marks) : Type 0 where
  pub done : length marks.done.items ≡ count
  pub waiting : length marks.waiting.items ≡ count

-- just the tasks that have run, or wait, for certain are marked so when t starts
pub record AreMarks (system : SharedTaskSystem) (event : Event) (tasks : List ℕ) (t : ℕ) (marks : Marks) : Type 0 where
  pub lengths : HaveLengths (length system.tasks) marks
  pub has_run : (v : ℕ) → is_marked marks.done.items v ≡ true → HasRun system event tasks t v
  pub done : (v : ℕ) → HasRun system event tasks t v → is_marked marks.done.items v ≡ true
  pub waits : (v : ℕ) → is_marked marks.waiting.items v ≡ true → Waits system event tasks t v
  pub waiting : (v : ℕ) → Waits system event tasks t v → is_marked marks.waiting.items v ≡ true

-- ---- what is the same for all blockers of a set

pub record IsCommon (system : SharedTaskSystem) (set : EventSetValue) (common : Common) : Type 0 where
  pub uses : AreUses system common.uses
  pub sizes : common.sizes.items ≡ lowered_by (use_count system) set.base []
  pub spare_len : length common.spare.items ≡ length system.tasks + 1
  pub spare : AreSpare common.uses common.sizes.items common.spare.items
  pub fitting : IsFitting system.items common.sizes.items common.fitting
  pub marks : AreSetMarks system set.event (set_tasks set) common.marks
  pub needs_len : length common.needs.items ≡ length system.tasks + 1
  pub needs : (v : ℕ) → HasTask system v → slice_index common.needs.items v ≡ shared_need_of system v

-- ---- tests

abbrev pub test_of : FormTest → BlockerTest
test_of forms.Task = tests.Task
test_of forms.Rising = tests.Rising
test_of forms.Amounts = tests.Amounts

-- there is a blocker, all amounts are such, and the blockers are tasks that rise
pub record IsFormed (system : SharedTaskSystem) (set : EventSetValue) (bound : ℕ) : Type 0 where
  pub some : 1 ≤ length set.blockers
  pub base : AreAmounts (use_count system) set.base
  pub each : (test : FormTest) → Each (length set.blockers) (Passes system set bound (test_of test))

-- the blocker at a place passes the other tests
pub record PassesAtMoment (system : SharedTaskSystem) (set : EventSetValue) (bound place : ℕ) : Type 0 where
  pub sizes : Passes system set bound tests.Sizes place
  pub opens : Passes system set bound tests.Open place
  pub level : Passes system set bound tests.Level place

-- the blocker at a place fails this one, and passes those before
abbrev pub FailsAtMoment : SharedTaskSystem → EventSetValue → ℕ → BlockerTest → ℕ → Type 0
FailsAtMoment system set bound tests.Sizes place = ¬ Passes system set bound tests.Sizes place
FailsAtMoment system set bound tests.Open place = Passes system set bound tests.Sizes place × (¬ Passes system set bound tests.Open place)
FailsAtMoment system set bound tests.Level place =
    Passes system set bound tests.Sizes place × Passes system set bound tests.Open place × (¬ Passes system set bound tests.Level place)
FailsAtMoment system set bound _ place = ⊥

-- each blocker after so many and up to others passes
abbrev pub AllPassIn : SharedTaskSystem → EventSetValue → ℕ → ℕ → ℕ → Type 0
AllPassIn system set bound from to = (k : ℕ) → from < k → k ≤ to → PassesAtMoment system set bound k

-- the first of them that fails
abbrev pub FirstFailsIn : SharedTaskSystem → EventSetValue → ℕ → ℕ → ℕ → Objection → Type 0
FirstFailsIn system set bound from to (objections.Blocker test place) =
    (from < place) × (place ≤ to) × FailsAtMoment system set bound test place
    × ((k : ℕ) → from < k → k < place → PassesAtMoment system set bound k)
FirstFailsIn system set bound from to _ = ⊥

-- what is found of them
abbrev pub IsFoundIn : SharedTaskSystem → EventSetValue → ℕ → ℕ → ℕ → Option Objection → Type 0
IsFoundIn system set bound from to found = MatchOption found (AllPassIn system set bound from to) (FirstFailsIn system set bound from to)

-- what is found in each chunk of so many blockers
abbrev pub AreFoundIn : {E : Type 0} → SharedTaskSystem → EventSetValue → ℕ → ℕ → List (Result (Option Objection) E) → Type 0
AreFoundIn {E} system set bound size found = (n : ℕ) (d : Result (Option Objection) E) → n < length found
    → IfOk (slice_index_or found n d) (IsFoundIn system set bound (n * size) (n * size + min size (length set.blockers - n * size)))

-- the first of these that anything was found in, where there was no want of memory before
abbrev pub IsFirstFound : {E : Type 0} → List (Result (Option Objection) E) → Option Objection → Type 0
IsFirstFound {E} found None = (n : ℕ) (d : Result (Option Objection) E) → n < length found → slice_index_or found n d ≡ Ok None
IsFirstFound {E} found (Some objection) =
    (n : ℕ) × (n < length found) × ((d : Result (Option Objection) E) → slice_index_or found n d ≡ Ok (Some objection))
    × ((k : ℕ) (d : Result (Option Objection) E) → k < n → slice_index_or found k d ≡ Ok None)
