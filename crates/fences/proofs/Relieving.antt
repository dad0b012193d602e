-- What a system uses, and what the system uses in which each task needs less by the room of its worker.
use Rattle.std.proofs.Common.{◌≡◌, ℕ, zero, suc, ◌+◌, ◌-◌, ◌*◌, ◌<◌, ◌≤◌, Bool, true, false, cond, List, [], ◌∷◌, ◌++◌, length, map, get_or, refl, sym, ap, ◌∙◌, arith}
use Rattle.std.proofs.Math.Nat.{mul-add}
use Rattle.std.specs.Prelude.{All, count_by}
use Rattle.std.specs.List.{sum_by, range_with_len}
use Rattle.std.proofs.lemmas.List.{length-map}
use Rattle.std.proofs.lemmas.List.Sums.{sum_by-cons}
use Rattle.mp_system.specs.declared.system.Task.{Task}
use Rattle.mp_system.specs.System.{TaskSystem, IsTask, IsItemWithin, need_of}
use Rattle.mp_system.specs.Memory.{peak_from, peak_of, state_memory}
use Rattle.mp_system.specs.Traversal.{IsTraversal}
use Rattle.fences.specs.Moments.{Moment, IsMoment, numbers_of, used_memory}
use Rattle.fences.specs.Amounts.{AreHandedOn, carrying, certified_bound, drawn_by}
use Rattle.fences.specs.Workers.{relieved, relieved_task, running_count}

add_zero : (n : ℕ) → n + 0 ≡ n
add_zero n = omega arith

abbrev no_task : Task
no_task = record { extra = 0; share = 0; time = 0 }

-- ---- the task at a place

module _ (room : ℕ) where
  pub extra_same : (tasks : List Task) (i : ℕ) → (get_or (map (relieved_task room) tasks) i no_task).extra ≡ (get_or tasks i no_task).extra
  extra_same [] i = refl
  extra_same (task ∷ tasks) zero = refl
  extra_same (task ∷ tasks) (suc i) = extra_same tasks i

  share_more : (tasks : List Task) (i : ℕ) → i < length tasks → (get_or (map (relieved_task room) tasks) i no_task).share ≡ (get_or tasks i no_task).share + room
  share_more [] i lt = absurd (omega arith)
  share_more (task ∷ tasks) zero lt = refl
  share_more (task ∷ tasks) (suc i) lt = share_more tasks i (omega arith)

  share_le : (tasks : List Task) (i : ℕ) → (get_or (map (relieved_task room) tasks) i no_task).share ≤ (get_or tasks i no_task).share + room
  share_le [] i = omega arith
  share_le (task ∷ tasks) zero = omega arith
  share_le (task ∷ tasks) (suc i) = share_le tasks i

-- ---- the needs

-- the needs of those that run, beside the room for each of them
needs_le : (needs less : ℕ → ℕ) (room : ℕ) → ((v : ℕ) → needs v ≤ less v + room) → (running : ℕ → Bool) (ns : List ℕ)
    → sum_by (λ v. cond (running v) (needs v) 0) ns ≤ sum_by (λ v. cond (running v) (less v) 0) ns + room * count_by running ns
needs_le needs less room each running [] = omega arith
needs_le needs less room each running (x ∷ xs) =
    let here : cond (running x) (needs x) 0 ≤ cond (running x) (less x) 0 + room * cond (running x) 1 0 =
    elim (running x) as (λ b. cond b (needs x) 0 ≤ cond b (less x) 0 + room * cond b 1 0) [ true ↦ omega (arith, each x) | false ↦ omega arith ] in
    let counted : room * count_by running (x ∷ xs) ≡ room * cond (running x) 1 0 + room * count_by running xs =
    ap (λ n. room * n) (sum_by-cons (λ v. cond (running v) 1 0) x xs) ∙ mul-add room (cond (running x) 1 0) (count_by running xs) in
    omega (
      arith,
      here,
      counted,
      needs_le needs less room each running xs,
      sum_by-cons (λ v. cond (running v) (needs v) 0) x xs,
      sum_by-cons (λ v. cond (running v) (less v) 0) x xs,
    )

-- without room all tasks are as they were
unchanged : (tasks : List Task) → map (relieved_task 0) tasks ≡ tasks
unchanged [] = refl
unchanged (task ∷ tasks) =
    let same : relieved_task 0 task ≡ task = ap (λ n. record { extra = task.extra; share = n; time = task.time }) (add_zero task.share) in
    ap (λ (l : List Task). relieved_task 0 task ∷ l) (unchanged tasks) ∙ ap (λ (t : Task). t ∷ tasks) same

pub system_unchanged : (system : TaskSystem) → relieved 0 system ≡ system
system_unchanged system = ap (λ (l : List Task). record { tasks = l; items = system.items }) (unchanged system.tasks)

module _ (system : TaskSystem) (room : ℕ) where
  pub tasks_long : length (relieved room system).tasks ≡ length system.tasks
  tasks_long = length-map system.tasks (relieved_task room)

  pub need_less : (v : ℕ) → IsTask system v → need_of (relieved room system) v ≡ need_of system v - room
  need_less v task = omega (arith, extra_same room system.tasks (v - 1), share_more room system.tasks (v - 1) (omega (arith, task.0, task.1)))

  need_le : (v : ℕ) → need_of system v ≤ need_of (relieved room system) v + room
  need_le v = omega (arith, extra_same room system.tasks (v - 1), share_le room system.tasks (v - 1))

  pub used_le : (moment : Moment) → used_memory system moment ≤ used_memory (relieved room system) moment + room * running_count system moment
  used_le moment =
      let numbers : numbers_of (relieved room system) ≡ numbers_of system = ap (range_with_len 1) tasks_long in
      let less = need_of (relieved room system) in
      omega (
        arith,
        needs_le (need_of system) less room need_le moment.running (numbers_of system),
        ap (sum_by (λ v. cond (moment.running v) (less v) 0)) numbers,
      )

  peak_from_le : (before rest : List ℕ) → peak_from system before rest ≤ peak_from (relieved room system) before rest + room
  peak_from_le before [] = omega arith
  peak_from_le before (v ∷ rest) = omega (arith, need_le v, peak_from_le (before ++ v ∷ []) rest)

  pub peak_le : (order : List ℕ) → peak_of system order ≤ peak_of (relieved room system) order + room
  peak_le order = peak_from_le [] order

  -- the bound by the first tasks, as many as there are
  pub bound_is : (amounts : List ℕ) (count : ℕ) → count ≡ length system.tasks → certified_bound (relieved room system) amounts
      ≡ state_memory (carrying system amounts) (λ _. false) + sum_by (drawn_by (relieved room system) amounts) (range_with_len 1 count)
  bound_is amounts count same = omega (arith, ap (λ n. sum_by (drawn_by (relieved room system) amounts) (range_with_len 1 n)) (tasks_long ∙ sym same))

  -- ---- what does not depend on the needs

  pub task_kept : (v : ℕ) → IsTask system v → IsTask (relieved room system) v
  task_kept v task = (task.0, omega (arith, task.1, tasks_long))

  pub task_back : (v : ℕ) → IsTask (relieved room system) v → IsTask system v
  task_back v task = (task.0, omega (arith, task.1, tasks_long))

  pub within_kept : All (IsItemWithin system) system.items → All (IsItemWithin (relieved room system)) system.items
  within_kept within i d lt = (
      let item = within i d lt in
      record { size = item.size; producer = λ v e. task_kept v (item.producer v e); consumer = λ v e. task_kept v (item.consumer v e) })

  pub handed_kept : (amounts : List ℕ) → AreHandedOn system amounts → AreHandedOn (relieved room system) amounts
  handed_kept amounts handed = record { long = handed.long; covers = handed.covers }

  pub moment_kept : (moment : Moment) → IsMoment system moment → IsMoment (relieved room system) moment
  moment_kept moment is = record { once = is.once; running_ready = is.running_ready; done_ready = is.done_ready }

  pub traversal_kept : (order : List ℕ) → IsTraversal system order → IsTraversal (relieved room system) order
  traversal_kept order is = record {
    once = λ v task. is.once v (task_back v task);
    tasks = λ i d lt. task_kept _ (is.tasks i d lt);
    after_suppliers = is.after_suppliers;
  }

  pub traversal_back : (order : List ℕ) → IsTraversal (relieved room system) order → IsTraversal system order
  traversal_back order is = record {
    once = λ v task. is.once v (task_kept v task);
    tasks = λ i d lt. task_back _ (is.tasks i d lt);
    after_suppliers = is.after_suppliers;
  }
