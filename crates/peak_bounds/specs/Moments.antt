-- The moment at which a task starts: what is done then, what waits, and the memory, which lowered sizes of the items bound from below.
use Rattle.std.specs.Prelude.{◌≡◌, ◌==◌, ℕ, ◌≤◌, Bool, true, false, not, ◌&&◌, ◌||◌, if◌then◌else◌, Option, Some, None}
use Rattle.std.specs.Prelude.{List, [], ◌∷◌, length, map, take, drop, ℤ, pos, negsuc, ◌+ℤ◌, ◌≤ℤ◌}
use Rattle.std.specs.List.{list_any, sum_by, flat_map}
use Rattle.mp_system.specs.System.{is_named}
use Rattle.mp_system.specs.Memory.{is_done_or}
use Rattle.mp_system.specs.Replay.{is_marked}
use Rattle.shared_systems.specs.Shared.{SharedTaskSystem, SharedItem, HasTask, shared_need_of}
use Rattle.shared_systems.specs.SharedMemory.{has_inputs}
use Rattle.peak_bounds.specs.declared.uses.Use.{Use}

-- ---- uses of items, and their lowered sizes

-- an item has a use for each of its readers; one without readers has one, which is for nobody
abbrev pub uses_for : Option ℕ → List ℕ → List Use
uses_for from [] = record { from = from; to = None } ∷ []
uses_for from (c ∷ cs) = map (λ reader. record { from = from; to = Some reader }) (c ∷ cs)

abbrev pub item_uses : SharedItem → List Use
item_uses x = uses_for x.from x.readers

abbrev pub uses_of : List SharedItem → List Use
uses_of items = flat_map item_uses items

-- whether task v makes what is used, and whether it is the one that uses it
abbrev pub is_made_for_use : ℕ → Use → Bool
is_made_for_use v u = is_named u.from v

abbrev pub is_used_by : ℕ → Use → Bool
is_used_by v u = is_named u.to v

-- whether what is used is there, made or given, and whether the use is over; what nobody reads stays
abbrev pub is_there : (ℕ → Bool) → Use → Bool
is_there done u = is_done_or true done u.from

abbrev pub is_over : (ℕ → Bool) → Use → Bool
is_over done u = is_done_or false done u.to

-- whether the item is held for this use
abbrev pub is_held_for : (ℕ → Bool) → Use → Bool
is_held_for done u = is_there done u && not (is_over done u)

-- the lowered sizes of the uses that pass the test, together
abbrev pub lowered_where : (Use → Bool) → List Use → List ℤ → ℤ
lowered_where test [] sizes = pos 0
lowered_where test (u ∷ uses) [] = pos 0
lowered_where test (u ∷ uses) (size ∷ sizes) = (if test u then size else pos 0) +ℤ lowered_where test uses sizes

-- a number, where it is above 0
abbrev pub above_zero : ℤ → ℕ
above_zero (pos n) = n
above_zero (negsuc n) = 0

-- the lowered sizes of each item's uses: those above 0 are together at most the size of the item. So whichever of them are left while the
-- item is held, they are at most its size together
abbrev pub FitSizes : List SharedItem → List ℤ → Type 0
FitSizes [] sizes = Unit {0}
FitSizes (x ∷ items) sizes =
    (sum_by above_zero (take (length (item_uses x)) sizes) ≤ x.size) × FitSizes items (drop (length (item_uses x)) sizes)

-- ---- moments

-- what a certificate says of a moment: the task that starts; for each task whether it is done for certain, and whether it waits for
-- certain; for each use of each item a lowered size
pub record Moment : Type 0 where
  pub task : ℕ
  pub done : List Bool
  pub waiting : List Bool
  pub lowered : List ℤ

-- whether task v is done, and whether it waits; a task that is neither is open
abbrev pub is_done : Moment → ℕ → Bool
is_done moment v = is_marked moment.done v

abbrev pub is_waiting : Moment → ℕ → Bool
is_waiting moment v = is_marked moment.waiting v

-- whether some task that passes the test reads what v makes, and whether some such task makes what v reads
abbrev pub feeds : SharedTaskSystem → (ℕ → Bool) → ℕ → Bool
feeds system test v = list_any (λ u. is_made_for_use v u && is_done_or false test u.to) (uses_of system.items)

abbrev pub is_fed : SharedTaskSystem → (ℕ → Bool) → ℕ → Bool
is_fed system test v = list_any (λ u. is_used_by v u && is_done_or false test u.from) (uses_of system.items)

-- where the early tasks have run when the task starts, and the late ones have not: what is marked follows by the items, and no open task
-- lowers the memory, in lowered sizes
pub record IsMoment (system : SharedTaskSystem) (early late : ℕ → Bool) (moment : Moment) : Type 0 where
  -- a mark for each task, twice, and a lowered size for each use
  pub done_len : length moment.done ≡ length system.tasks
  pub waiting_len : length moment.waiting ≡ length system.tasks
  pub lowered_len : length moment.lowered ≡ length (uses_of system.items)
  -- a task is done as it is early, or as the task that starts, or one that is done, reads what it makes
  pub done : (v : ℕ) → is_done moment v ≡ true → (early v || feeds system (λ u. u == moment.task || is_done moment u) v) ≡ true
  -- a task waits as it is late, or as it reads what one makes that waits
  pub waiting : (v : ℕ) → is_waiting moment v ≡ true → (late v || is_fed system (is_waiting moment) v) ≡ true
  -- what the done tasks read is made
  pub state : (v : ℕ) → is_done moment v ≡ true → has_inputs system (is_done moment) v ≡ true
  -- no item counts for more than it is
  pub lowered : FitSizes system.items moment.lowered
  -- an open task takes up at most what it leaves
  pub open_tasks : (v : ℕ) → HasTask system v → is_done moment v ≡ false → is_waiting moment v ≡ false
      → lowered_where (is_used_by v) (uses_of system.items) moment.lowered
      ≤ℤ lowered_where (is_made_for_use v) (uses_of system.items) moment.lowered

-- the memory while the task runs, if no open task has run, in lowered sizes but for what the task needs
abbrev pub level_of : SharedTaskSystem → Moment → ℤ
level_of system moment =
    lowered_where (is_held_for (is_done moment)) (uses_of system.items) moment.lowered +ℤ pos (shared_need_of system moment.task)
