-- What comes before a task is done when it starts, and so is what fences let it wait for if it comes before.
use Rattle.std.proofs.Common.{◌≡◌, ℕ, ◌+◌, ◌-◌, ◌<◌, ◌≤◌, Bool, true, not, ◌&&◌, ◌||◌, eqb, eq-eqb, get_or, set, Option, Some, None, List, [], ◌∷◌, ◌++◌, length, map}
use Rattle.std.proofs.Common.{◌⊎◌, refl, sym, ap, subst, ◌∙◌, arith, inl, inr}
use Rattle.std.specs.Prelude.{All, IfSome, slice_index}
use Rattle.std.specs.List.{filter, list_all, list_any}
use Rattle.std.proofs.lemmas.List.{get_or-map, get_or-set_same, get_or-set_other, length-map, length-set}
use Rattle.std.proofs.lemmas.List.Elements.{All-head, All-push, All-tail, filter_passes}
use Rattle.std.proofs.lemmas.List.Folds.{list_any_at}
use Rattle.std.proofs.lemmas.Bool.{and_from, and_parts, cases_Bool, cases_eq, eqb-true, le-leb, lt-leb, or_cases}
use Rattle.row_table.specs.Rows.{row_at}
use Rattle.mp_system.specs.System.{is_named}
use Rattle.mp_system.specs.Memory.{is_done_or}
use Rattle.shared_systems.specs.Shared.{SharedTaskSystem, SharedItem, HasTask, is_made_by, is_read_by, shared_item_at}
use Rattle.shared_systems.specs.SharedMemory.{are_done, has_inputs, is_made}
use Rattle.shared_systems.specs.Collected.{is_shared}
use Rattle.shared_systems.specs.Bounds.{IsSharedItemWithin, IsSharedSystem}
use Rattle.shared_systems.specs.Paths.{reads_from, ComesAfter, reads, over}
use Rattle.shared_systems.proofs.ItemParts.{several_done}
use Rattle.fences.specs.declared.fenced.Fence.{Fence}
use Rattle.fences.specs.Moments.{Moment}
use Rattle.fences.specs.Runs.Change.{starts, ends}
use Rattle.fences.specs.Runs.{Change, first_moment, moment_after}
use Rattle.fences.specs.SharedRuns.{are_passed, is_over, readers_before_join, CanStartFenced, CanComeFenced, IsFencedRun, IsFencedRunFrom}
use Rattle.fences.specs.Implied.{AreImplied}
use Rattle.fences.specs.declared.implied.Reading.{Reading}
use Rattle.fences.specs.declared.implied.Readings.{Readings}
use Rattle.fences.specs.Before.{AreMarked, AreReadings, AreSharedPlaces, IsBefore, IsFound, IsImplied, reader_of, reading_at}
use Rattle.fences.proofs.SharedMoments.{IsFencedMoment, first_is, next_is}

-- ---- what a ready task reads is made

is_the : (from : Option ℕ) (u : ℕ) → is_named from u ≡ true → from ≡ Some u
is_the None u e = absurd cc
is_the (Some w) u e = ap (λ (t : ℕ). Some t) (eqb-true w u e)

maker_done : (done : ℕ → Bool) (u v : ℕ) (x : SharedItem) → (not (is_read_by v x) || is_made done x) ≡ true
    → (is_made_by u x && is_read_by v x) ≡ true → done u ≡ true
maker_done done u v x supplied e =
    let parts = and_parts (is_made_by u x) (is_read_by v x) e in
    let made : is_made done x ≡ true = rw parts.1 at supplied in
    subst (λ (from : Option ℕ). is_done_or true done from ≡ true) (is_the x.from u parts.0) made

supplier_done : (done : ℕ → Bool) (u v : ℕ) (xs : List SharedItem) → list_all (λ x. not (is_read_by v x) || is_made done x) xs ≡ true
    → list_any (λ x. is_made_by u x && is_read_by v x) xs ≡ true → done u ≡ true
supplier_done done u v [] ready e = absurd cc
supplier_done done u v (x ∷ xs) ready e =
    let parts = and_parts (not (is_read_by v x) || is_made done x) (list_all (λ y. not (is_read_by v y) || is_made done y) xs) ready in
    elim (or_cases (is_made_by u x && is_read_by v x) (list_any (λ y. is_made_by u y && is_read_by v y) xs) e) [
      | inl here ↦ maker_done done u v x parts.0 here
      | inr later ↦ supplier_done done u v xs parts.1 later
    ]

module _ (system : SharedTaskSystem) (done : ℕ → Bool) (closed : (v : ℕ) → done v ≡ true → has_inputs system done v ≡ true) where
  -- all that a ready task comes after is done
  pub before_done : (u v : ℕ) → ComesAfter system u v → has_inputs system done v ≡ true → done u ≡ true
  before_done u v (reads e) ready = supplier_done done u v system.items ready e
  before_done u v (over {w} path e) ready =
      before_done u w path (closed w (supplier_done done w v system.items ready e))

  readers_done : (v : ℕ) (readers : List ℕ) → has_inputs system done v ≡ true → All (λ u. ComesAfter system u v) readers
      → list_all done readers ≡ true
  readers_done v [] ready all = refl
  readers_done v (u ∷ readers) ready all =
      and_from (done u) (list_all done readers) (before_done u v (All-head (λ w. ComesAfter system w v) u readers all) ready)
      (readers_done v readers ready (All-tail (λ w. ComesAfter system w v) u readers all))

-- ---- one step further back

pub further_back : (system : SharedTaskSystem) (u w v : ℕ) → reads_from system u w ≡ true → ComesAfter system w v → ComesAfter system u v
further_back system u w v first (reads e) = over (reads first) e
further_back system u w v first (over {w = x} path e) = over (further_back system u w x first path) e

pub found_back : (system : SharedTaskSystem) (task u w : ℕ) → reads_from system u w ≡ true → IsFound system task w → ComesAfter system u task
found_back system task u w first found = elim found.before [
  | inl same ↦ subst (λ (v : ℕ). ComesAfter system u v) same (reads first)
  | inr before ↦ further_back system u w task first before
]

-- ---- the search

-- a task that was found is marked
pub marked_more : (system : SharedTaskSystem) (marks found : List ℕ) (task u : ℕ) → AreMarked system marks → All (IsFound system task) found
    → IsBefore system task u → u < length marks
    → AreMarked system (set marks u task) × All (IsFound system task) (found ++ u ∷ [])
marked_more system marks found task u marked are before lt = (
  record {
    long = length-set marks u task ∙ marked.long;
    after = λ w some. elim (cases_eq w u) [
      | inl same ↦ (
          let here : get_or (set marks u task) w 0 ≡ task = ap (λ (x : ℕ). get_or (set marks u task) x 0) same ∙ get_or-set_same marks u task 0 lt in
          subst (λ (x : ℕ). ComesAfter system w x) (sym here) (subst (λ (x : ℕ). ComesAfter system x task) (sym same) before.1))
      | inr other ↦ (
          let kept = get_or-set_other marks u w task 0 other in
          subst (λ (x : ℕ). ComesAfter system w x) (sym kept) (marked.after w (omega (arith, some, kept))))
    ];
  },
  All-push (IsFound system task) found u are (record { is_task = before.0; before = inr before.1 }),
)

pub marked_after : (system : SharedTaskSystem) (marks : List ℕ) (task u : ℕ) → AreMarked system marks → 1 ≤ task → slice_index marks u ≡ task
    → ComesAfter system u task
marked_after system marks task u marked some is =
    subst (λ (x : ℕ). ComesAfter system u x) is (marked.after u (omega (arith, some, is)))

-- who makes what is read
makes : (system : SharedTaskSystem) (task reader i : ℕ) → IsFound system task reader → i < length system.items
    → is_read_by reader (shared_item_at system.items i) ≡ true → IsSharedItemWithin (length system.tasks) (shared_item_at system.items i)
    → (from : Option ℕ) → (shared_item_at system.items i).from ≡ from → IfSome from (IsBefore system task)
makes system task reader i found lt read own None e = tt
makes system task reader i found lt read own (Some u) e =
    let x = shared_item_at system.items i in
    let made : is_made_by u x ≡ true = ap (λ (o : Option ℕ). is_named o u) e ∙ eq-eqb u u refl in
    let both = and_from (is_made_by u x) (is_read_by reader x) made read in
    let from = list_any_at (λ y. is_made_by u y && is_read_by reader y) system.items i (record { size = 0; from = None; readers = [] }) lt both in
    (own.producer u e, found_back system task u reader from found)

pub maker_found : (system : SharedTaskSystem) → IsSharedSystem system → (readings : Readings) → AreReadings system readings
    → (task reader k : ℕ) → IsFound system task reader → k < length readings.all.items → (reading_at readings.all.items k).reader ≡ reader
    → IfSome (shared_item_at system.items (reading_at readings.all.items k).item).from (IsBefore system task)
maker_found system sys readings are task reader k found lt is =
    let reading = are.all k (record { item = 0; reader = 0 }) lt in
    let i = (reading_at readings.all.items k).item in
    makes system task reader i found reading.item
    (subst (λ (r : ℕ). is_read_by r (shared_item_at system.items i) ≡ true) is reading.reads)
    (sys.items i (record { size = 0; from = None; readers = [] }) reading.item)
    (shared_item_at system.items i).from refl

pub makers_inside : (system : SharedTaskSystem) (task many : ℕ) → many ≡ length system.tasks + 1 → (maker : Option ℕ)
    → IfSome maker (IsBefore system task) → IfSome maker (λ u. u < many)
makers_inside system task many long None before = tt
makers_inside system task many long (Some u) before = omega (arith, long, before.0.1)

-- the readings of one task
pub reading_here : (system : SharedTaskSystem) (readings : Readings) → AreReadings system readings → (reader : ℕ) → HasTask system reader
    → (row : List ℕ) → row ≡ row_at readings.rows reader → (i : ℕ) → i < length row
    → (get_or row i 0 < length readings.all.items) × ((reading_at readings.all.items (get_or row i 0)).reader ≡ reader)
reading_here system readings are reader task row same i lt =
    subst (All (λ k. (k < length readings.all.items) × ((reading_at readings.all.items k).reader ≡ reader))) (sym same)
    (are.rows reader (omega (arith, task.1, are.long))) i 0 lt

pub rows_are : (all : List Reading) (v : ℕ) (row : List ℕ)
    → All (λ k. (0 ≤ k) × (k - 0 < length (map reader_of all)) × (slice_index (map reader_of all) (k - 0) ≡ v)) row
    → All (λ k. (k < length all) × ((reading_at all k).reader ≡ v)) row
rows_are all v row each = λ j d lt. (
    let h = each j d lt in
    let k = get_or row j d in
    let same : k - 0 ≡ k = omega arith in
    let inside : k < length all = omega (arith, h.1, length-map all reader_of) in
    let read : get_or (map reader_of all) k 0 ≡ v = rw same at h.2 in
    (inside, sym (get_or-map reader_of all k (record { item = 0; reader = 0 }) 0 inside) ∙ read))

-- ---- one fence

pub by_task : (system : SharedTaskSystem) (fence : Fence) → HasTask system fence.from → ComesAfter system fence.from fence.to
    → IsImplied system fence
by_task system fence task before = λ done closed ready.
    rw (le-leb fence.from (length system.tasks) task.1) (before_done system done closed fence.from fence.to before ready)

-- the readers of the item at a place among those with several readers
module _ (items : List SharedItem) (places : List ℕ) (are : AreSharedPlaces items places) (k place : ℕ) (lt : k < length places)
    (here : get_or places k 0 ≡ place) where
  abbrev joined : SharedItem
  joined = shared_item_at (filter is_shared items) k

  pub joined_is : joined ≡ shared_item_at items place
  joined_is =
      let none : SharedItem = record { size = 0; from = None; readers = [] } in
      sym (ap (λ (l : List SharedItem). get_or l k none) are.items_are)
      ∙ get_or-map (shared_item_at items) places k 0 none lt
      ∙ ap (shared_item_at items) here

  pub joined_shared : is_shared joined ≡ true
  joined_shared =
      filter_passes is_shared items k (record { size = 0; from = None; readers = [] })
      (omega (arith, lt, ap (λ (l : List SharedItem). length l) are.items_are, length-map places (shared_item_at items)))

pub by_join : (system : SharedTaskSystem) (fence : Fence) (places : List ℕ) (place : ℕ) → AreSharedPlaces system.items places
    → length system.tasks < fence.from → fence.from - length system.tasks - 1 < length places
    → get_or places (fence.from - length system.tasks - 1) 0 ≡ place
    → All (λ u. ComesAfter system u fence.to) (shared_item_at system.items place).readers → IsImplied system fence
by_join system fence places place are above lt here all = λ done closed ready.
    let k = fence.from - length system.tasks - 1 in
    let same = joined_is system.items places are k place lt here in
    let shared = joined_shared system.items places are k place lt here in
    let readers = subst (λ (x : SharedItem). All (λ u. ComesAfter system u fence.to) x.readers) (sym same) all in
    rw (lt-leb fence.from (length system.tasks) above)
    (several_done done (readers_before_join system fence.from) shared
    ∙ readers_done system done closed fence.to (readers_before_join system fence.from) ready readers)

-- ---- all fences

passed_all : (system : SharedTaskSystem) (done : ℕ → Bool) → ((v : ℕ) → done v ≡ true → has_inputs system done v ≡ true)
    → (v : ℕ) → has_inputs system done v ≡ true → (fences : List Fence) → All (IsImplied system) fences → are_passed system fences done v ≡ true
passed_all system done closed v ready [] all = refl
passed_all system done closed v ready (f ∷ fences) all =
    let rest = passed_all system done closed v ready fences (All-tail (IsImplied system) f fences all) in
    elim (cases_Bool (eqb f.to v)) [
      | inr other ↦ rw other rest
      | inl same ↦ (
          let there = subst (λ (w : ℕ). has_inputs system done w ≡ true) (sym (eqb-true f.to v same)) ready in
          rw (same, All-head (IsImplied system) f fences all done closed there) rest)
    ]

module _ (system : SharedTaskSystem) (fences : List Fence) (all : All (IsImplied system) fences) where
  can_come : (moment : Moment) (change : Change) → IsFencedMoment system [] moment → CanComeFenced system [] moment change
      → CanComeFenced system fences moment change
  can_come moment (starts v) is can = record {
    task = can.task;
    not_done = can.not_done;
    not_running = can.not_running;
    ready = can.ready;
    passed = passed_all system moment.done (λ u e. (is.done u e).ready) v can.ready fences all;
  }
  can_come moment (ends v) is can = can

  run_from : (moment : Moment) (changes : List Change) → IsFencedMoment system [] moment → IsFencedRunFrom system [] moment changes
      → IsFencedRunFrom system fences moment changes
  run_from moment [] is run = tt
  run_from moment (change ∷ rest) is run =
      (can_come moment change is run.0, run_from (moment_after moment change) rest (next_is system [] moment change is run.0) run.1)

  pub are_implied : AreImplied system fences
  are_implied changes run = run_from first_moment changes (first_is system []) run
