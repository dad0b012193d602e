-- The tasks of the joined system, and what they need.
use Rattle.std.proofs.Common.{◌≡◌, ℕ, ◌+◌, ◌-◌, ◌≤◌, Bool, ◌&&◌, eqb, List, [], ◌∷◌, map, length}
use Rattle.std.proofs.Common.{length-append, refl, ap, ◌∙◌, arith}
use Rattle.std.specs.Prelude.{All}
use Rattle.std.specs.List.{flat_map, range_with_len, list_all}
use Rattle.std.proofs.lemmas.List.{get_or_append_left, get_or-append_right}
use Rattle.std.proofs.lemmas.List.FromFn.{get_or-map-range_with_len, length-map-range_with_len}
use Rattle.std.proofs.lemmas.List.Folds.{list_all-append}
use Rattle.std.proofs.lemmas.List.Sums.{sum_by-cons, sum_by-append}
use Rattle.std.proofs.lemmas.List.Elements.{All-head, All-tail}
use Rattle.mp_system.specs.declared.system.Task.{Task}
use Rattle.shared_systems.specs.Shared.{SharedTaskSystem, SharedItem, HasTask, HasOwnShare, shared_size_if, shared_size_where, is_made_by}
use Rattle.shared_systems.specs.Shared.{is_read_by_alone, shared_task_at, shared_need_of}
use Rattle.shared_systems.specs.SharedMemory.{is_held}
use Rattle.shared_systems.specs.Bounds.{IsSharedItemWithin}
use Rattle.joined_systems.specs.Joins.{join_count}
use Rattle.joined_systems.specs.Joined.{join_between, released, joined_item, join_at, joined}
use Rattle.joined_systems.proofs.JoinedItems.{makes_same, alone_same, alone_released, join_makes, through_ge, released_ge}

-- ---- sums over the items that stand for these

module _ (n : ℕ) (joins : List ℕ) where
  pub where_cons : (test : SharedItem → Bool) (x : SharedItem) (xs : List SharedItem)
      → shared_size_where test (flat_map (joined_item n joins) (x ∷ xs))
      ≡ shared_size_where test (joined_item n joins x) + shared_size_where test (flat_map (joined_item n joins) xs)
  where_cons test x xs = sum_by-append (shared_size_if test) (joined_item n joins x) (flat_map (joined_item n joins) xs)

  pub all_cons : (test : SharedItem → Bool) (x : SharedItem) (xs : List SharedItem)
      → list_all test (flat_map (joined_item n joins) (x ∷ xs))
      ≡ (list_all test (joined_item n joins x) && list_all test (flat_map (joined_item n joins) xs))
  all_cons test x xs = list_all-append test (joined_item n joins x) (flat_map (joined_item n joins) xs)

  outputs_are : (v : ℕ) → v ≤ n → (xs : List SharedItem)
      → shared_size_where (is_made_by v) (flat_map (joined_item n joins) xs) ≡ shared_size_where (is_made_by v) xs
  outputs_are v le [] = refl
  outputs_are v le (x ∷ xs) =
      omega (
        arith,
        where_cons (is_made_by v) x xs,
        makes_same n v (join_between joins x.from x.readers) (released n joins x) le,
        outputs_are v le xs,
        sum_by-cons (shared_size_if (is_made_by v)) x xs,
      )

  inputs_are : (v : ℕ) → v ≤ n → (xs : List SharedItem)
      → shared_size_where (is_read_by_alone v) (flat_map (joined_item n joins) xs) ≡ shared_size_where (is_read_by_alone v) xs
  inputs_are v le [] = refl
  inputs_are v le (x ∷ xs) =
      omega (
        arith,
        where_cons (is_read_by_alone v) x xs,
        alone_same n v (join_between joins x.from x.readers) (released n joins x) le,
        alone_released n v joins x.size x.from x.readers,
        inputs_are v le xs,
        sum_by-cons (shared_size_if (is_read_by_alone v)) x xs,
      )

  join_outputs : (k : ℕ) → 1 ≤ k → (xs : List SharedItem) → All (IsSharedItemWithin n) xs
      → shared_size_where (is_made_by (n + k)) (flat_map (joined_item n joins) xs)
      ≡ shared_size_where (λ x. eqb (join_between joins x.from x.readers) k) xs
  join_outputs k some [] within = refl
  join_outputs k some (x ∷ xs) within =
      omega (
        arith,
        where_cons (is_made_by (n + k)) x xs,
        join_makes n k (join_between joins x.from x.readers) (released n joins x) some (All-head (IsSharedItemWithin n) x xs within).producer,
        join_outputs k some xs (All-tail (IsSharedItemWithin n) x xs within),
        sum_by-cons (shared_size_if (λ y. eqb (join_between joins y.from y.readers) k)) x xs,
      )

  -- in each state the joined system holds at least what the system holds
  pub held_ge : (done : ℕ → Bool) (xs : List SharedItem)
      → shared_size_where (is_held done) xs ≤ shared_size_where (is_held done) (flat_map (joined_item n joins) xs)
  held_ge done [] = omega arith
  held_ge done (x ∷ xs) =
      omega (
        arith,
        where_cons (is_held done) x xs,
        released_ge done n joins x.size x.from x.readers,
        through_ge done n (join_between joins x.from x.readers) (released n joins x),
        held_ge done xs,
        sum_by-cons (shared_size_if (is_held done)) x xs,
      )

-- ---- the tasks

module _ (system : SharedTaskSystem) (joins : List ℕ) where
  pub task_count : length (joined joins system).tasks ≡ length system.tasks + join_count joins
  task_count =
      omega (
        arith,
        length-append system.tasks (map (join_at joins system) (range_with_len 1 (join_count joins))),
        length-map-range_with_len (join_at joins system) 1 (join_count joins),
      )

  task_is : (v : ℕ) → HasTask system v → shared_task_at (joined joins system) v ≡ shared_task_at system v
  task_is v task = get_or_append_left system.tasks (map (join_at joins system) (range_with_len 1 (join_count joins)))
      (record { extra = 0; share = 0; time = 0 }) (v - 1) (omega (arith, task.0, task.1))

  join_is : (k : ℕ) → 1 ≤ k → k ≤ join_count joins → shared_task_at (joined joins system) (length system.tasks + k) ≡ join_at joins system k
  join_is k some le =
      let none : Task = record { extra = 0; share = 0; time = 0 } in
      let n = length system.tasks in
      get_or-append_right system.tasks (map (join_at joins system) (range_with_len 1 (join_count joins)))
      n (n + k - 1) none refl (omega arith)
      ∙ get_or-map-range_with_len (join_at joins system) 1 (join_count joins) (n + k - 1 - n) k none (omega arith) (omega arith)

  -- a task needs what it needed
  pub need_is : (v : ℕ) → HasTask system v → shared_need_of (joined joins system) v ≡ shared_need_of system v
  need_is v task =
      let extra = ap (λ (t : Task). t.extra) (task_is v task) in
      let share = ap (λ (t : Task). t.share) (task_is v task) in
      omega (arith, extra, share, outputs_are (length system.tasks) joins v task.1 system.items)

  -- and its share fits
  pub share_is : (v : ℕ) → HasTask system v → HasOwnShare system v → HasOwnShare (joined joins system) v
  share_is v task own =
      let extra = ap (λ (t : Task). t.extra) (task_is v task) in
      let share = ap (λ (t : Task). t.share) (task_is v task) in (
        omega (arith, share, own.0, inputs_are (length system.tasks) joins v task.1 system.items),
        omega (arith, extra, share, own.1, outputs_are (length system.tasks) joins v task.1 system.items),
      )

  -- a join needs nothing
  pub join_need : (k : ℕ) → 1 ≤ k → k ≤ join_count joins → All (IsSharedItemWithin (length system.tasks)) system.items
      → shared_need_of (joined joins system) (length system.tasks + k) ≡ 0
  join_need k some le within =
      let extra = ap (λ (t : Task). t.extra) (join_is k some le) in
      let share = ap (λ (t : Task). t.share) (join_is k some le) in
      omega (arith, extra, share, join_outputs (length system.tasks) joins k some system.items within)
