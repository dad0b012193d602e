-- Evidence that no traversal of a shared system has a peak below a bound: what is there at the start; the need of one task; or a set of tasks,
-- of which in every traversal one starts first and one starts last, and lowered sizes that bound the memory at each of these moments.
use Rattle.std.specs.Prelude.{◌≡◌, ◌≢◌, ◌==◌, ℕ, ◌+◌, ◌-◌, ◌<◌, ◌≤◌, true, false, if◌then◌else◌, ◌⊎◌, List, [], ◌∷◌, length, map}
use Rattle.std.specs.Prelude.{slice_index_or, ℤ, pos, ◌≤ℤ◌, unsigned_abs, All}
use Rattle.std.specs.List.{range_with_len}
use Rattle.std.specs.List.Sorted.{IsStrictlyIncreasing}
use Rattle.limits.specs.Limits.{most_total}
use Rattle.lists.specs.Numbers.{Each, IsFirstWithout}
use Rattle.mp_system.specs.Memory.{stands_in}
use Rattle.shared_systems.specs.Shared.{SharedTaskSystem, HasTask, is_read_by, shared_size_where, shared_need_of}
use Rattle.shared_systems.specs.SharedMemory.{shared_memory}
use Rattle.shared_systems.specs.Paths.{ComesAfter}
use Rattle.peak_bounds.specs.declared.step.Event.{Event}
use Rattle.peak_bounds.specs.declared.step.Event.TheVariants.{First, Last}
use Rattle.peak_bounds.specs.declared.evidence.Amount.{Amount}
use Rattle.peak_bounds.specs.declared.evidence.Evidence.{Evidence}
use Rattle.peak_bounds.specs.declared.evidence.Evidence.TheVariants.{Start, Need, Set}
use Rattle.peak_bounds.specs.declared.evidence.BlockerTest.{BlockerTest}
use Rattle.peak_bounds.specs.declared.evidence.BlockerTest.TheVariants as tests
use Rattle.peak_bounds.specs.declared.evidence.Objection.{Objection}
use Rattle.peak_bounds.specs.declared.evidence.Objection.TheVariants as objections
use Rattle.peak_bounds.specs.EventSets.{BlockerValue, EventSetValue}
use Rattle.peak_bounds.specs.Moments.{uses_of, is_used_by, is_made_for_use, lowered_where, FitSizes}
use Rattle.peak_bounds.specs.Moments.{Moment, is_done, is_waiting, level_of}

-- ---- lowered sizes, by what is told of them

-- the uses of all items are numbered from 1, in the order of the items and of the readers of each
abbrev pub use_count : SharedTaskSystem → ℕ
use_count system = length (uses_of system.items)

-- the amount that is told of a place, or else another
abbrev pub amount_or : ℤ → List Amount → ℕ → ℤ
amount_or other [] place = other
amount_or other (a ∷ amounts) place = if a.place == place then a.amount else amount_or other amounts place

-- the lowered size of each of so many uses: what the blocker's own amounts tell of it, else what those of the set do, else 0
abbrev pub lowered_by : ℕ → List Amount → List Amount → List ℤ
lowered_by count base own = map (λ place. amount_or (amount_or (pos 0) base place) own place) (range_with_len 1 count)

-- amounts are told of one of so many uses, from -2^60 to 2^60, and of none twice, as the places rise
pub record IsAmount (count : ℕ) (a : Amount) : Type 0 where
  pub some : 1 ≤ a.place
  pub within : a.place ≤ count
  pub amount : unsigned_abs a.amount ≤ most_total

abbrev pub place_of : Amount → ℕ
place_of a = a.place

pub record AreAmounts (count : ℕ) (amounts : List Amount) : Type 0 where
  pub each : All (IsAmount count) amounts
  pub rising : IsStrictlyIncreasing (map place_of amounts)

-- ---- the moment of a blocker: when it starts as the first of the set, or as the last

abbrev pub task_of : BlockerValue → ℕ
task_of blocker = blocker.task

abbrev pub set_tasks : EventSetValue → List ℕ
set_tasks set = map task_of set.blockers

-- one of these tasks comes after v; v comes after one of them
abbrev pub IsBeforeOne : SharedTaskSystem → List ℕ → ℕ → Type 0
IsBeforeOne system tasks v = (u : ℕ) × (stands_in tasks u ≡ true) × ComesAfter system v u

abbrev pub IsAfterOne : SharedTaskSystem → List ℕ → ℕ → Type 0
IsAfterOne system tasks v = (u : ℕ) × (stands_in tasks u ≡ true) × ComesAfter system u v

-- task v is done for certain when t starts: as the first of these tasks, t comes after it; as the last, v is another of them, or one of
-- them comes after it
abbrev pub HasRun : SharedTaskSystem → Event → List ℕ → ℕ → ℕ → Type 0
HasRun system First tasks t v = ComesAfter system v t
HasRun system Last tasks t v = ((stands_in tasks v ≡ true) × (v ≢ t)) ⊎ IsBeforeOne system tasks v

-- and it waits for certain: as t is the first, v is one of them, or comes after one; as it is the last, v is t, or comes after it
abbrev pub Waits : SharedTaskSystem → Event → List ℕ → ℕ → ℕ → Type 0
Waits system First tasks t v = (stands_in tasks v ≡ true) ⊎ IsAfterOne system tasks v
Waits system Last tasks t v = (v ≡ t) ⊎ ComesAfter system t v

-- the one moment that belongs to a blocker: just these tasks are marked, and these are the lowered sizes
pub record IsMomentOf (system : SharedTaskSystem) (set : EventSetValue) (blocker : BlockerValue) (moment : Moment) : Type 0 where
  pub task : moment.task ≡ blocker.task
  pub done_len : length moment.done ≡ length system.tasks
  pub waiting_len : length moment.waiting ≡ length system.tasks
  pub has_run : (v : ℕ) → HasTask system v → is_done moment v ≡ true → HasRun system set.event (set_tasks set) blocker.task v
  pub done : (v : ℕ) → HasTask system v → HasRun system set.event (set_tasks set) blocker.task v → is_done moment v ≡ true
  pub waits : (v : ℕ) → HasTask system v → is_waiting moment v ≡ true → Waits system set.event (set_tasks set) blocker.task v
  pub waiting : (v : ℕ) → HasTask system v → Waits system set.event (set_tasks set) blocker.task v → is_waiting moment v ≡ true
  pub lowered : moment.lowered ≡ lowered_by (use_count system) set.base blocker.amounts

-- a task that is neither done nor waiting takes up at most what it leaves, in lowered sizes
abbrev pub OpenTasksRise : SharedTaskSystem → Moment → Type 0
OpenTasksRise system moment =
    (v : ℕ) → HasTask system v → is_done moment v ≡ false → is_waiting moment v ≡ false
    → lowered_where (is_used_by v) (uses_of system.items) moment.lowered
    ≤ℤ lowered_where (is_made_for_use v) (uses_of system.items) moment.lowered

-- ---- what evidence has to meet

-- the blocker at a place, counted from 1
abbrev pub blocker_at : EventSetValue → ℕ → BlockerValue
blocker_at set place = slice_index_or set.blockers (place - 1) (record { task = 0; amounts = [] })

-- what the blocker at a place has to meet: it is a task, above the one before; its amounts are such; no item counts for more than it is; no
-- open task lowers the memory; and the memory is at least the bound while it runs
abbrev pub Passes : SharedTaskSystem → EventSetValue → ℕ → BlockerTest → ℕ → Type 0
Passes system set bound tests.Task place = HasTask system (blocker_at set place).task
Passes system set bound tests.Rising place = 2 ≤ place → (blocker_at set (place - 1)).task < (blocker_at set place).task
Passes system set bound tests.Amounts place = AreAmounts (use_count system) (blocker_at set place).amounts
Passes system set bound tests.Sizes place =
    FitSizes system.items (lowered_by (use_count system) set.base (blocker_at set place).amounts)
Passes system set bound tests.Open place =
    (moment : Moment) × IsMomentOf system set (blocker_at set place) moment × OpenTasksRise system moment
Passes system set bound tests.Level place =
    (moment : Moment) × IsMomentOf system set (blocker_at set place) moment × (pos bound ≤ℤ level_of system moment)

-- each blocker passes a test
abbrev pub EachPasses : SharedTaskSystem → EventSetValue → ℕ → BlockerTest → Type 0
EachPasses system set bound test = Each (length set.blockers) (Passes system set bound test)

-- there is a blocker, and each meets all of this
pub record IsEventSet (system : SharedTaskSystem) (set : EventSetValue) (bound : ℕ) : Type 0 where
  pub some : 1 ≤ length set.blockers
  pub base : AreAmounts (use_count system) set.base
  pub each : (test : BlockerTest) → EachPasses system set bound test

-- what is there before any task has run
abbrev pub memory_at_start : SharedTaskSystem → ℕ
memory_at_start system = shared_memory system (λ v. false)

-- what a task reads and what it needs beside that, together
abbrev pub memory_of_task : SharedTaskSystem → ℕ → ℕ
memory_of_task system t = shared_size_where (is_read_by t) system.items + shared_need_of system t

abbrev pub IsEvidence : SharedTaskSystem → Evidence → ℕ → Type 0
IsEvidence system Start bound = bound ≤ memory_at_start system
IsEvidence system (Need t) bound = HasTask system t × (bound ≤ memory_of_task system t)
IsEvidence system (Set set) bound = IsEventSet system set bound

-- the tests are tried one after the other: those of tasks and amounts each at all blockers, and then the others blocker by blocker. What
-- holds where a test at a place is the first that fails
abbrev pub EarlierPass : SharedTaskSystem → EventSetValue → ℕ → ℕ → Type 0
EarlierPass system set bound place =
    (test : BlockerTest) (earlier : ℕ) → 1 ≤ earlier → earlier < place → Passes system set bound test earlier

abbrev pub AreFormed : SharedTaskSystem → EventSetValue → ℕ → Type 0
AreFormed system set bound =
    EachPasses system set bound tests.Task × EachPasses system set bound tests.Rising × EachPasses system set bound tests.Amounts

abbrev pub PassBefore : SharedTaskSystem → EventSetValue → ℕ → BlockerTest → ℕ → Type 0
PassBefore system set bound tests.Task place = Unit {0}
PassBefore system set bound tests.Rising place = EachPasses system set bound tests.Task
PassBefore system set bound tests.Amounts place = EachPasses system set bound tests.Task × EachPasses system set bound tests.Rising
PassBefore system set bound tests.Sizes place = AreFormed system set bound × EarlierPass system set bound place
PassBefore system set bound tests.Open place =
    AreFormed system set bound × EarlierPass system set bound place × Passes system set bound tests.Sizes place
PassBefore system set bound tests.Level place =
    AreFormed system set bound × EarlierPass system set bound place × Passes system set bound tests.Sizes place
    × Passes system set bound tests.Open place

pub record IsFirstFailing (system : SharedTaskSystem) (set : EventSetValue) (bound : ℕ) (test : BlockerTest) (place : ℕ) : Type 0 where
  pub some : 1 ≤ length set.blockers
  pub base : AreAmounts (use_count system) set.base
  pub before : PassBefore system set bound test place
  pub first : IsFirstWithout (length set.blockers) (Passes system set bound test) place

-- what is said against evidence: the first thing that it does not meet
abbrev pub IsObjection : SharedTaskSystem → Evidence → ℕ → Objection → Type 0
IsObjection system Start bound objections.Low = memory_at_start system < bound
IsObjection system Start bound _ = ⊥
IsObjection system (Need t) bound objections.NoTask = ¬ HasTask system t
IsObjection system (Need t) bound objections.Low = HasTask system t × (memory_of_task system t < bound)
IsObjection system (Need t) bound _ = ⊥
IsObjection system (Set set) bound objections.Empty = set.blockers ≡ []
IsObjection system (Set set) bound objections.Base = (1 ≤ length set.blockers) × (¬ AreAmounts (use_count system) set.base)
IsObjection system (Set set) bound (objections.Blocker test place) = IsFirstFailing system set bound test place
IsObjection system (Set set) bound _ = ⊥
