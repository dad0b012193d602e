-- What the code of the peak needs of one task of a traversal: its sums fit, and nothing goes below 0.
use Rattle.std.proofs.Common.{◌≡◌, ℕ, ◌+◌, ◌-◌, ◌<◌, ◌≤◌, cond, List, [], ◌∷◌, length}
use Rattle.std.proofs.Common.{take, get_or, Option, Some, refl, ap, arith, inl, inr}
use Rattle.std.specs.List.{All}
use Rattle.std.proofs.lemmas.List.{get_or_past}
use Rattle.std.proofs.lemmas.List.Sums.{sum_by-cons, get_or-le-sum_by}
use Rattle.std.proofs.lemmas.List.Elements.{All-head, All-tail, All-get_or, All-weaker}
use Rattle.std.proofs.lemmas.Bool.{cases_lt}
use Rattle.limits.specs.Limits.{most_total}
use Rattle.mp_system.specs.declared.system.Task.{Task}
use Rattle.mp_system.specs.System.{extra_size, is_named}
use Rattle.mp_system.specs.Memory.{stands_in}
use Rattle.shared_systems.specs.Shared.{SharedTaskSystem, SharedItem, HasTask, shared_task_at}
use Rattle.shared_systems.specs.Shared.{shared_size_if, shared_size_where, is_made_by}
use Rattle.shared_systems.specs.SharedMemory.{is_held, shared_memory, shared_running}
use Rattle.shared_systems.specs.SharedTraversal.{IsSharedTraversal}
use Rattle.shared_systems.specs.Bounds.{IsSharedItemWithin, IsSharedSystem}
use Rattle.shared_systems.specs.Places.{place_in, last_if_any, is_freed_at}
use Rattle.shared_systems.proofs.KeySums.{where-le}
use Rattle.shared_systems.proofs.OrderPlaces.{place-le, last_place_same}
use Rattle.shared_systems.proofs.Freeing.{Reaches, memory-next}

abbrev pub no_task : Task
no_task = record { extra = 0; share = 0; time = 0 }

module _ (system : SharedTaskSystem) (is : IsSharedSystem system) (order : List ℕ)
    (traversal : IsSharedTraversal system order) (i : ℕ) (lt : i < length order)
    (outputs freed : List ℕ) (outs : (v : ℕ) → get_or outputs v 0 ≡ shared_size_where (is_made_by v) system.items)
    (frees : (j : ℕ) → get_or freed j 0 ≡ shared_size_where (is_freed_at (place_in order) j) system.items)
    (memory peak : ℕ) (at : Reaches system order i memory peak) where
  pub task_here : HasTask system (get_or order i 0)
  task_here = All-get_or (HasTask system) order i 0 lt traversal.tasks

  pub memory_small : memory ≤ most_total
  memory_small = omega (arith, at.memory_is, where-le (is_held (stands_in (take i order))) system.items, is.total)

  pub output_small : get_or outputs (get_or order i 0) 0 ≤ most_total
  output_small = omega (arith, outs (get_or order i 0), where-le (is_made_by (get_or order i 0)) system.items, is.total)

  pub extra_small : (shared_task_at system (get_or order i 0)).extra ≤ most_total
  extra_small = omega (
    arith,
    get_or-le-sum_by extra_size system.tasks (get_or order i 0 - 1) no_task (omega (arith, task_here.0, task_here.1)),
    is.total,
  )

  pub share_fits : (shared_task_at system (get_or order i 0)).share
      ≤ (shared_task_at system (get_or order i 0)).extra + get_or outputs (get_or order i 0) 0
  share_fits = omega (arith, (is.shares (get_or order i 0) task_here).1, outs (get_or order i 0))

  pub freed_fits : get_or freed i 0 ≤ memory + get_or outputs (get_or order i 0) 0
  freed_fits = omega (arith, memory-next system order traversal i lt is.items, at.memory_is, frees i, outs (get_or order i 0))

  pub memory_after : memory + get_or outputs (get_or order i 0) 0 - get_or freed i 0 ≡ shared_memory system (stands_in (take (i + 1) order))
  memory_after = omega (arith, memory-next system order traversal i lt is.items, at.memory_is, frees i, outs (get_or order i 0))

  pub running_is : memory + ((shared_task_at system (get_or order i 0)).extra
      + get_or outputs (get_or order i 0) 0 - (shared_task_at system (get_or order i 0)).share)
      ≡ shared_running system (stands_in (take i order)) (get_or order i 0)
  running_is = omega (arith, at.memory_is, outs (get_or order i 0))

-- ---- looked up places are those of the order

module _ (n : ℕ) (order places : List ℕ) (are : (v : ℕ) → v ≤ n → get_or places v 0 ≡ place_in order v) where
  last_same : (readers : List ℕ) → All (λ c. (1 ≤ c) × (c ≤ n)) readers
      → last_if_any (λ c. get_or places c 0) readers ≡ last_if_any (place_in order) readers
  last_same [] within = refl
  last_same (c ∷ cs) within = ap (λ (k : ℕ). Some k)
      (last_place_same (λ v. get_or places v 0) (place_in order) (λ v. (1 ≤ v) × (v ≤ n)) (λ v task. are v task.1) (c ∷ cs) within)

  pub freed_same : (i : ℕ) (xs : List SharedItem) → All (IsSharedItemWithin n) xs
      → shared_size_where (is_freed_at (λ c. get_or places c 0) i) xs ≡ shared_size_where (is_freed_at (place_in order) i) xs
  freed_same i [] within = refl
  freed_same i (x ∷ xs) within =
      let here = ap (λ (o : Option ℕ). cond (is_named o i) x.size 0)
      (last_same x.readers (All-head (IsSharedItemWithin n) x xs within).readers) in
      omega (
        arith,
        here,
        freed_same i xs (All-tail (IsSharedItemWithin n) x xs within),
        sum_by-cons (shared_size_if (is_freed_at (λ c. get_or places c 0) i)) x xs,
        sum_by-cons (shared_size_if (is_freed_at (place_in order) i)) x xs,
      )

  pub places_small : length places ≡ n + 1 → (v : ℕ) → get_or places v 0 ≤ length order
  places_small long v = elim (cases_lt n v) [
    | inl past ↦ omega (arith, get_or_past places v 0 (omega (arith, long)))
    | inr le ↦ omega (arith, are v le, place-le order v)
  ]

pub readers_below : (n m : ℕ) (xs : List SharedItem) → m ≡ n + 1 → All (IsSharedItemWithin n) xs → All (λ x. All (λ c. c < m) x.readers) xs
readers_below n m xs is within =
    All-weaker (IsSharedItemWithin n) (λ x. All (λ c. c < m) x.readers)
    (λ x inside. All-weaker (λ c. (1 ≤ c) × (c ≤ n)) (λ c. c < m) (λ c task. omega (arith, task.1, is)) x.readers inside.readers) xs within
