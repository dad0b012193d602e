-- A state of a shared system and of the system with its collectors: memory, needs, and who is ready.
use Rattle.std.proofs.Common.{◌≡◌, ℕ, ◌+◌, ◌-◌, ◌<◌, ◌≤◌, Bool, true, false, cond, not, ◌&&◌, ◌||◌}
use Rattle.std.proofs.Common.{List, [], ◌∷◌, length, Option, Some, None, refl, sym, ap, ◌∙◌, arith}
use Rattle.std.specs.Prelude.{All, replicate, count_by}
use Rattle.std.specs.List.{list_all}
use Rattle.std.specs.Option.{ForSome}
use Rattle.std.proofs.lemmas.List.{get_or_append_left}
use Rattle.std.proofs.lemmas.List.Folds.{list_all-append}
use Rattle.std.proofs.lemmas.List.Sums.{sum_by-cons}
use Rattle.std.proofs.lemmas.List.Elements.{All-head, All-tail}
use Rattle.std.proofs.lemmas.Bool.{and_parts}
use Rattle.mp_system.specs.declared.system.Task.{Task}
use Rattle.mp_system.specs.System.{is_input, is_output, size_where, need_of, task_at}
use Rattle.mp_system.specs.Memory.{is_done_or, is_present}
use Rattle.shared_systems.specs.Shared.{SharedTaskSystem, SharedItem, HasTask, shared_size_if, shared_size_where}
use Rattle.shared_systems.specs.Shared.{is_made_by, is_read_by, is_read_by_alone, shared_need_of, shared_task_at}
use Rattle.shared_systems.specs.SharedMemory.{is_made, are_done, is_held}
use Rattle.shared_systems.specs.Collected.{is_shared, collector, kept_item, wait_items, next_from, items_from, collected}
use Rattle.shared_systems.specs.Bounds.{IsSharedItemWithin}
use Rattle.shared_systems.proofs.ItemParts.{is_supplied, item_counts, item_below, item_taken, item_ready, item_collects}

pub next_ge : (k : ℕ) (x : SharedItem) → k ≤ next_from k x
next_ge k x = elim (is_shared x) as (λ b. k ≤ cond b (k + 1) k) [ true ↦ omega arith | false ↦ omega arith ]

-- ---- memory

-- every done task was ready
abbrev pub IsClosed : ℕ → List SharedItem → (ℕ → Bool) → Type 0
IsClosed k xs done = (v : ℕ) → done v ≡ true → list_all (is_supplied done v) (items_from k xs) ≡ true

pub memory_below : (done : ℕ → Bool) (k : ℕ) (xs : List SharedItem) → IsClosed k xs done
    → shared_size_where (is_held done) xs ≤ size_where (is_present done) (items_from k xs)
memory_below done k [] closed = omega arith
memory_below done k (x ∷ xs) closed =
    let own = kept_item k x ∷ wait_items k x in
    let rest = items_from (next_from k x) xs in
    let parts = λ (v : ℕ) (e : done v ≡ true). and_parts (list_all (is_supplied done v) own)
    (list_all (is_supplied done v) rest) (sym (list_all-append (is_supplied done v) own rest) ∙ closed v e) in
    let here = item_below done k x (λ shared e. item_collects done k x shared ((parts k e).0)) in
    let later = memory_below done (next_from k x) xs (λ v e. (parts v e).1) in
    omega (arith, here, later, sum_by-cons (shared_size_if (is_held done)) x xs, item_counts (is_present done) k x rest)

-- ---- needs

pub inputs_same : (v k : ℕ) (xs : List SharedItem) → v < k
    → size_where (is_input v) (items_from k xs) ≡ shared_size_where (is_read_by_alone v) xs
inputs_same v k [] lt = refl
inputs_same v k (x ∷ xs) lt =
    omega (
      arith,
      sum_by-cons (shared_size_if (is_read_by_alone v)) x xs,
      item_counts (is_input v) k x (items_from (next_from k x) xs),
      item_taken k v x (λ e. omega arith),
      inputs_same v (next_from k x) xs (omega (arith, next_ge k x)),
    )

pub outputs_same : (v k : ℕ) (xs : List SharedItem) → size_where (is_output v) (items_from k xs) ≡ shared_size_where (is_made_by v) xs
outputs_same v k [] = refl
outputs_same v k (x ∷ xs) =
    omega (
      arith,
      sum_by-cons (shared_size_if (is_made_by v)) x xs,
      item_counts (is_output v) k x (items_from (next_from k x) xs),
      outputs_same v (next_from k x) xs,
    )

module _ (system : SharedTaskSystem) where
  pub task_same : (v : ℕ) → HasTask system v → task_at (collected system) v ≡ shared_task_at system v
  task_same v task = get_or_append_left system.tasks (replicate (count_by is_shared system.items) collector)
      (record { extra = 0; share = 0; time = 0 }) (v - 1) (omega arith)

  pub need_same : (v : ℕ) → HasTask system v → need_of (collected system) v ≡ shared_need_of system v
  need_same v task =
      let extra = ap (λ (t : Task). t.extra) (task_same v task) in
      let share = ap (λ (t : Task). t.share) (task_same v task) in
      omega (arith, extra, share, outputs_same v (length system.tasks + 1) system.items)

-- ---- who is ready

pub ready_same : (done : ℕ → Bool) (v k : ℕ) (xs : List SharedItem) → v < k
    → list_all (is_supplied done v) (items_from k xs) ≡ list_all (λ x. not (is_read_by v x) || is_made done x) xs
ready_same done v k [] lt = refl
ready_same done v k (x ∷ xs) lt =
    let own = kept_item k x ∷ wait_items k x in
    let rest = items_from (next_from k x) xs in
    let later = ready_same done v (next_from k x) xs (omega (arith, next_ge k x)) in
    list_all-append (is_supplied done v) own rest
    ∙ ap (λ (b : Bool). b && list_all (is_supplied done v) rest) (item_ready done k v x (λ shared e. omega arith))
    ∙ ap (λ (b : Bool). (not (is_read_by v x) || is_made done x) && b) later

-- ---- only the tasks of the shared system count

module _ (system : SharedTaskSystem) (done other : ℕ → Bool) (same : (u : ℕ) → HasTask system u → done u ≡ other u) where
  pub made_same : (from : Option ℕ) → ForSome from (HasTask system) → is_done_or true done from ≡ is_done_or true other from
  made_same None within = refl
  made_same (Some u) within = same u (within u refl)

  pub all_done_same : (to : List ℕ) → All (HasTask system) to → list_all done to ≡ list_all other to
  all_done_same [] within = refl
  all_done_same (c ∷ to) within =
      rw (same c (All-head (HasTask system) c to within), all_done_same to (All-tail (HasTask system) c to within)) refl

  pub are_done_same : (to : List ℕ) → All (HasTask system) to → are_done done to ≡ are_done other to
  are_done_same [] within = refl
  are_done_same (c ∷ to) within = all_done_same (c ∷ to) within

  there_same : (x : SharedItem) → IsSharedItemWithin (length system.tasks) x
      → shared_size_if (is_held done) x ≡ shared_size_if (is_held other) x
  there_same x within = rw (made_same x.from within.producer, are_done_same x.readers within.readers) refl

  pub memory_same : (xs : List SharedItem) → All (IsSharedItemWithin (length system.tasks)) xs
      → shared_size_where (is_held done) xs ≡ shared_size_where (is_held other) xs
  memory_same [] within = refl
  memory_same (x ∷ xs) within =
      omega (
        arith,
        sum_by-cons (shared_size_if (is_held done)) x xs,
        sum_by-cons (shared_size_if (is_held other)) x xs,
        there_same x (All-head (IsSharedItemWithin (length system.tasks)) x xs within),
        memory_same xs (All-tail (IsSharedItemWithin (length system.tasks)) x xs within),
      )

  pub has_inputs_same : (v : ℕ) (xs : List SharedItem) → All (IsSharedItemWithin (length system.tasks)) xs
      → list_all (λ x. not (is_read_by v x) || is_made done x) xs ≡ list_all (λ x. not (is_read_by v x) || is_made other x) xs
  has_inputs_same v [] within = refl
  has_inputs_same v (x ∷ xs) within =
      rw (
        made_same x.from (All-head (IsSharedItemWithin (length system.tasks)) x xs within).producer,
        has_inputs_same v xs (All-tail (IsSharedItemWithin (length system.tasks)) x xs within),
      ) refl

-- ---- more tasks are done

module _ (done later : ℕ → Bool) (more : (u : ℕ) → done u ≡ true → later u ≡ true) where
  still_made : (from : Option ℕ) → is_done_or true done from ≡ true → is_done_or true later from ≡ true
  still_made None e = refl
  still_made (Some u) e = more u e

  still_all : (to : List ℕ) → list_all done to ≡ true → list_all later to ≡ true
  still_all [] e = refl
  still_all (c ∷ to) e =
      let parts = and_parts (done c) (list_all done to) e in
      rw (more c parts.0) (still_all to parts.1)

  pub still_done : (to : List ℕ) → are_done done to ≡ true → are_done later to ≡ true
  still_done [] e = absurd cc
  still_done (c ∷ to) e = still_all (c ∷ to) e

  still_supplied : (used : Bool) (from : Option ℕ) → (not used || is_done_or true done from) ≡ true
      → (not used || is_done_or true later from) ≡ true
  still_supplied true from e = still_made from e
  still_supplied false from e = refl

  pub still_has_inputs : (v : ℕ) (xs : List SharedItem) → list_all (λ x. not (is_read_by v x) || is_made done x) xs ≡ true
      → list_all (λ x. not (is_read_by v x) || is_made later x) xs ≡ true
  still_has_inputs v [] e = refl
  still_has_inputs v (x ∷ xs) e =
      let parts = and_parts (not (is_read_by v x) || is_made done x) (list_all (λ y. not (is_read_by v y) || is_made done y) xs) e in
      rw (still_supplied (is_read_by v x) x.from parts.0) (still_has_inputs v xs parts.1)
