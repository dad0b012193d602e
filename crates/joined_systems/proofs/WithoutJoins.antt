-- Orders of the joined system without the joins.
use Rattle.std.proofs.Common.{◌≡◌, ℕ, ◌+◌, ◌≤◌, Bool, true, false, leb, List, [], ◌∷◌, ◌++◌, length}
use Rattle.std.proofs.Common.{append_assoc, refl, sym, ap, subst, ◌∙◌, arith, inl, inr}
use Rattle.std.specs.Prelude.{All}
use Rattle.std.specs.List.{flat_map, list_all}
use Rattle.std.proofs.lemmas.List.{append-nil}
use Rattle.std.proofs.lemmas.List.Elements.{All-head, All-tail, All-nil, All-cons, filter-append}
use Rattle.std.proofs.lemmas.Bool.{cases_Bool, and_parts, and_from, leb-true, le-leb}
use Rattle.mp_system.specs.Memory.{stands_in}
use Rattle.shared_systems.specs.Shared.{SharedTaskSystem, SharedItem, HasTask}
use Rattle.shared_systems.specs.SharedMemory.{shared_memory, has_inputs, shared_peak_from, shared_peak_of}
use Rattle.shared_systems.specs.SharedTraversal.{IsSharedTraversal}
use Rattle.shared_systems.specs.Bounds.{IsSharedItemWithin}
use Rattle.shared_systems.proofs.States.{memory_same, has_inputs_same}
use Rattle.shared_systems.proofs.WithoutCollectors.{stands_dropped, count_dropped}
use Rattle.joined_systems.specs.Joined.{join_between, join_after, join_task, released, joined_item, joined, without_joins}
use Rattle.joined_systems.proofs.JoinedItems.{is_given, given_before, given_released}
use Rattle.joined_systems.proofs.JoinedSystems.{all_cons, held_ge, task_count, need_is}
use Rattle.joined_systems.proofs.Inputs.{AllHave, have_nil, have_cons, have_at, closed}

-- an order of numbers of tasks has no joins
pub without_none : (n : ℕ) (order : List ℕ) → All (λ v. v ≤ n) order → without_joins n order ≡ order
without_none n [] low = refl
without_none n (v ∷ order) low =
    rw (le-leb v n (All-head (λ u. u ≤ n) v order low)) (ap (λ (l : List ℕ). v ∷ l) (without_none n order (All-tail (λ u. u ≤ n) v order low)))

-- a task has its inputs in a state in which the done joins have theirs, if it has them in the joined system
pub has_before : (done : ℕ → Bool) (n v : ℕ) (joins : List ℕ) (xs : List SharedItem)
    → ((u : ℕ) → done u ≡ true → list_all (is_given done u) (flat_map (joined_item n joins) xs) ≡ true)
    → list_all (is_given done v) (flat_map (joined_item n joins) xs) ≡ true → list_all (is_given done v) xs ≡ true
has_before done n v joins [] each given = refl
has_before done n v joins (x ∷ xs) each given =
    let parts = λ (u : ℕ) (e : list_all (is_given done u) (flat_map (joined_item n joins) (x ∷ xs)) ≡ true).
    and_parts (list_all (is_given done u) (joined_item n joins x))
    (list_all (is_given done u) (flat_map (joined_item n joins) xs)) (sym (all_cons n joins (is_given done u) x xs) ∙ e) in
    let j = join_between joins x.from x.readers in
    and_from (is_given done v x) (list_all (is_given done v) xs)
    (given_released done v x.size x.from x.readers (join_task n (join_after joins x.readers))
    (given_before done n v j (released n joins x) ((parts v given).0) (λ some there. (parts (n + j) (each (n + j) there)).0)))
    (has_before done n v joins xs (λ u e. (parts u (each u e)).1) ((parts v given).1))

module _ (system : SharedTaskSystem) (joins : List ℕ) (within : All (IsSharedItemWithin (length system.tasks)) system.items)
    (order : List ℕ) (traversal : IsSharedTraversal (joined joins system) order) where
  push_kept : (before : List ℕ) (v : ℕ) → leb v (length system.tasks) ≡ true
      → without_joins (length system.tasks) (before ++ v ∷ []) ≡ without_joins (length system.tasks) before ++ v ∷ []
  push_kept before v kept = filter-append (λ u. leb u (length system.tasks)) before (v ∷ []) ∙ rw kept refl

  push_left : (before : List ℕ) (v : ℕ) → leb v (length system.tasks) ≡ false
      → without_joins (length system.tasks) (before ++ v ∷ []) ≡ without_joins (length system.tasks) before
  push_left before v left = filter-append (λ u. leb u (length system.tasks)) before (v ∷ []) ∙ rw left (append-nil (without_joins (length system.tasks) before))

  tasks_kept : (rest : List ℕ) → All (HasTask (joined joins system)) rest → All (HasTask system) (without_joins (length system.tasks) rest)
  tasks_kept [] tasks = All-nil (HasTask system)
  tasks_kept (v ∷ rest) tasks =
      let here = All-head (HasTask (joined joins system)) v rest tasks in
      let later = tasks_kept rest (All-tail (HasTask (joined joins system)) v rest tasks) in
      elim (cases_Bool (leb v (length system.tasks))) [
        | inl kept ↦ rw kept (All-cons (HasTask system) v (without_joins (length system.tasks) rest)
            (here.0, leb-true v (length system.tasks) kept) later)
        | inr left ↦ rw left later
      ]

  task_has : (before rest : List ℕ) (v : ℕ) → order ≡ before ++ v ∷ rest
      → has_inputs system (stands_in (without_joins (length system.tasks) before)) v ≡ true
  task_has before rest v split =
      let n = length system.tasks in
      has_inputs_same system (stands_in (without_joins n before)) (stands_in before)
      (λ u task. stands_dropped system before u task.1) v system.items within
      ∙ has_before (stands_in before) n v joins system.items
      (closed (joined joins system) order before (v ∷ rest) traversal split) (traversal.after_suppliers before rest v split)

  have_without : (before rest : List ℕ) → order ≡ before ++ rest
      → AllHave system (without_joins (length system.tasks) before) (without_joins (length system.tasks) rest)
  have_without before [] split = have_nil system (without_joins (length system.tasks) before)
  have_without before (v ∷ rest) split =
      let n = length system.tasks in
      let later = have_without (before ++ v ∷ []) rest (split ∙ sym (append_assoc before (v ∷ []) rest)) in
      elim (cases_Bool (leb v n)) [
        | inl kept ↦ rw kept (have_cons system (without_joins n before) v (without_joins n rest) (task_has before rest v split)
            (subst (λ (l : List ℕ). AllHave system l (without_joins n rest)) (push_kept before v kept) later))
        | inr left ↦ rw left (subst (λ (l : List ℕ). AllHave system l (without_joins n rest)) (push_left before v left) later)
      ]

  pub traversal_without : IsSharedTraversal system (without_joins (length system.tasks) order)
  traversal_without = record {
    once = λ v task. count_dropped system order v task.1
        ∙ traversal.once v (task.0, omega (arith, task.1, task_count system joins));
    tasks = tasks_kept order traversal.tasks;
    after_suppliers = λ before rest v split.
        have_at system [] before v rest (subst (AllHave system []) split (have_without [] order refl));
  }

  state_below : (before : List ℕ)
      → shared_memory system (stands_in (without_joins (length system.tasks) before)) ≤ shared_memory (joined joins system) (stands_in before)
  state_below before =
      omega (
        arith,
        memory_same system (stands_in (without_joins (length system.tasks) before)) (stands_in before)
            (λ u task. stands_dropped system before u task.1) system.items within,
        held_ge (length system.tasks) joins (stands_in before) system.items,
      )

  peak_below : (before rest : List ℕ) → All (HasTask (joined joins system)) rest
      → shared_peak_from system (without_joins (length system.tasks) before) (without_joins (length system.tasks) rest)
      ≤ shared_peak_from (joined joins system) before rest
  peak_below before [] tasks = state_below before
  peak_below before (v ∷ rest) tasks =
      let n = length system.tasks in
      let later = peak_below (before ++ v ∷ []) rest (All-tail (HasTask (joined joins system)) v rest tasks) in
      let here = state_below before in
      elim (cases_Bool (leb v n)) [
        | inl kept ↦ (
            let later' : shared_peak_from system (without_joins n before ++ v ∷ []) (without_joins n rest)
            ≤ shared_peak_from (joined joins system) (before ++ v ∷ []) rest =
            subst (λ (l : List ℕ). shared_peak_from system l (without_joins n rest)
            ≤ shared_peak_from (joined joins system) (before ++ v ∷ []) rest) (push_kept before v kept) later in
            let need = need_is system joins v ((All-head (HasTask (joined joins system)) v rest tasks).0, leb-true v n kept) in
            rw kept (omega (arith, here, later', need))
            )
        | inr left ↦ (
            let later' : shared_peak_from system (without_joins n before) (without_joins n rest)
            ≤ shared_peak_from (joined joins system) (before ++ v ∷ []) rest =
            subst (λ (l : List ℕ). shared_peak_from system l (without_joins n rest)
            ≤ shared_peak_from (joined joins system) (before ++ v ∷ []) rest) (push_left before v left) later in
            rw left (omega (arith, later'))
            )
      ]

  pub peak_without : shared_peak_of system (without_joins (length system.tasks) order) ≤ shared_peak_of (joined joins system) order
  peak_without = peak_below [] order traversal.tasks
