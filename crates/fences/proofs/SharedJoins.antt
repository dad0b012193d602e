-- The collected system with fences, where a join is done exactly where all readers before it are: who is ready.
use Rattle.std.proofs.Common.{◌≡◌, ◌≢◌, ℕ, zero, suc, ◌+◌, ◌-◌, ◌<◌, ◌≤◌, Bool, true, not, ◌&&◌, ◌||◌, eqb, get_or, List, [], ◌∷◌, length, map}
use Rattle.std.proofs.Common.{◌⊎◌, refl, sym, ap, subst, ◌∙◌, arith, inl, inr}
use Rattle.std.specs.Prelude.{All, count_by}
use Rattle.std.specs.List.{filter, list_all}
use Rattle.std.proofs.lemmas.List.Elements.{All-filter, All-head, All-nil, All-tail}
use Rattle.std.proofs.lemmas.List.Folds.{list_all-append, list_all-map, list_any_none}
use Rattle.std.proofs.lemmas.Bool.{and_parts, and_from, cases_Bool, cases_eq, le-leb, lt-leb, ne_eqb}
use Rattle.mp_system.specs.Memory.{is_ready}
use Rattle.shared_systems.specs.Shared.{SharedTaskSystem, SharedItem, HasTask, is_read_by, shared_item_at}
use Rattle.shared_systems.specs.SharedMemory.{is_made, are_done, has_inputs}
use Rattle.shared_systems.specs.Collected.{collected, is_shared, items_from, kept_item, next_from, wait_items}
use Rattle.shared_systems.specs.Bounds.{IsSharedItemWithin}
use Rattle.shared_systems.proofs.ItemParts.{is_supplied, item_ready, item_collects, item_collected, item_made, several_done}
use Rattle.shared_systems.proofs.States.{all_done_same, are_done_same, has_inputs_same, made_same, next_ge, ready_same}
use Rattle.shared_systems.proofs.Collectors.{more_shared, next_shared}
use Rattle.fences.specs.declared.fenced.Fence.{Fence}
use Rattle.fences.specs.JudgedFences.{fence_item, with_fences}
use Rattle.fences.specs.SharedRuns.{is_over, are_passed}

-- ---- the item of a join

-- the joins of these items are numbered from k
abbrev joined_item : ℕ → List SharedItem → ℕ → SharedItem
joined_item k xs v = shared_item_at (filter is_shared xs) (v - k)

here_or_later : (k : ℕ) (x : SharedItem) (v : ℕ) → ((is_shared x ≡ true) × (k ≡ v)) ⊎ (is_shared x ≡ true → k ≢ v)
here_or_later k x v = elim (cases_eq k v) [
  | inr other ↦ inr (λ shared. other)
  | inl same ↦ elim (cases_Bool (is_shared x)) [ inl shared ↦ inl (shared, same) | inr sole ↦ inr (λ shared. absurd cc) ]
]

joined_here : (k : ℕ) (x : SharedItem) (xs : List SharedItem) (v : ℕ) → is_shared x ≡ true → k ≡ v → joined_item k (x ∷ xs) v ≡ x
joined_here k x xs v shared same = let first : v - k ≡ 0 = omega arith in rw (shared, first) refl

joined_later : (k : ℕ) (x : SharedItem) (xs : List SharedItem) (v : ℕ) → k ≤ v → (is_shared x ≡ true → k ≢ v)
    → (next_from k x ≤ v) × (joined_item k (x ∷ xs) v ≡ joined_item (next_from k x) xs v)
joined_later k x xs v low other = elim (cases_Bool (is_shared x)) [
  | inl shared ↦
      let apart = other shared in
      let later : v - k ≡ suc (v - (k + 1)) = omega arith in
      (omega (arith, next_shared k x shared), rw (shared, later) refl)
  | inr sole ↦ rw sole (low, refl)
]

-- a join that is ready has all readers done
pub join_all : (done : ℕ → Bool) (k : ℕ) (xs : List SharedItem) (v : ℕ) → k ≤ v → v < k + count_by is_shared xs
    → list_all (is_supplied done v) (items_from k xs) ≡ true → are_done done (joined_item k xs v).readers ≡ true
join_all done k [] v low high ready = absurd (omega arith)
join_all done k (x ∷ xs) v low high ready =
    let own = kept_item k x ∷ wait_items k x in
    let rest = items_from (next_from k x) xs in
    let parts = and_parts (list_all (is_supplied done v) own) (list_all (is_supplied done v) rest)
    (sym (list_all-append (is_supplied done v) own rest) ∙ ready) in
    elim (here_or_later k x v) [
      | inl here ↦
          ap (λ (y : SharedItem). are_done done y.readers) (joined_here k x xs v here.0 here.1)
          ∙ several_done done x.readers here.0
          ∙ item_collects done k x here.0 (subst (λ (u : ℕ). list_all (is_supplied done u) own ≡ true) (sym here.1) parts.0)
      | inr other ↦
          let later = joined_later k x xs v low other in
          ap (λ (y : SharedItem). are_done done y.readers) later.1
          ∙ join_all done (next_from k x) xs v later.0 (omega (arith, more_shared k x xs)) parts.1
    ]

module _ (system : SharedTaskSystem) (within : All (IsSharedItemWithin (length system.tasks)) system.items) (done : ℕ → Bool) where
  -- ---- tasks

  pub over_task : (u : ℕ) → HasTask system u → is_over system done u ≡ done u
  over_task u task = rw (le-leb u (length system.tasks) task.1) refl

  waits_same : (fences : List Fence) (v : ℕ)
      → list_all (is_supplied (is_over system done) v) (map fence_item fences) ≡ are_passed system fences done v
  waits_same fences v = list_all-map (is_supplied (is_over system done) v) fence_item fences

  pub ready_is : (fences : List Fence) (v : ℕ) → v ≤ length system.tasks
      → is_ready (with_fences (collected system) fences) (is_over system done) v ≡ (has_inputs system done v && are_passed system fences done v)
  ready_is fences v task =
      let test = is_supplied (is_over system done) v in
      let items = items_from (length system.tasks + 1) system.items in
      list_all-append test items (map fence_item fences)
      ∙ ap (λ (b : Bool). b && list_all test (map fence_item fences))
      (ready_same (is_over system done) v (length system.tasks + 1) system.items (omega arith)
      ∙ has_inputs_same system (is_over system done) done over_task v system.items within)
      ∙ ap (λ (b : Bool). has_inputs system done v && b) (waits_same fences v)

  -- ---- joins read nothing, and wait for no fence

  idle_by : (v : ℕ) (x : SharedItem) → length system.tasks < v → IsSharedItemWithin (length system.tasks) x
      → (not (is_read_by v x) || is_made (is_over system done) x) ≡ true
  idle_by v x above own =
      ap (λ (b : Bool). not b || is_made (is_over system done) x)
      (list_any_none (λ c. eqb c v) x.readers (λ i d inside. (
      let task = own.readers i d inside in
      ne_eqb (get_or x.readers i d) v (λ e. omega arith))))

  idle : (v : ℕ) (xs : List SharedItem) → length system.tasks < v → All (IsSharedItemWithin (length system.tasks)) xs
      → list_all (λ x. not (is_read_by v x) || is_made (is_over system done) x) xs ≡ true
  idle v [] above all = refl
  idle v (x ∷ xs) above all =
      rw (idle_by v x above (All-head (IsSharedItemWithin (length system.tasks)) x xs all))
      (idle v xs above (All-tail (IsSharedItemWithin (length system.tasks)) x xs all))

  free : (fences : List Fence) (v : ℕ) → length system.tasks < v → All (λ f. f.to ≤ length system.tasks) fences
      → are_passed system fences done v ≡ true
  free [] v above for_tasks = refl
  free (f ∷ fences) v above for_tasks =
      let here = All-head (λ g. g.to ≤ length system.tasks) f fences for_tasks in
      rw (ne_eqb f.to v (λ e. omega arith)) (free fences v above (All-tail (λ g. g.to ≤ length system.tasks) f fences for_tasks))

  -- ---- a join is ready where all readers are done

  join_here : (k : ℕ) (x : SharedItem) (xs : List SharedItem) → length system.tasks < k → is_shared x ≡ true
      → IsSharedItemWithin (length system.tasks) x → All (IsSharedItemWithin (length system.tasks)) xs
      → ((u : ℕ) → done u ≡ true → (not (is_read_by u x) || is_made done x) ≡ true) → are_done done x.readers ≡ true
      → list_all (is_supplied (is_over system done) k) (items_from k (x ∷ xs)) ≡ true
  join_here k x xs above shared own others closed is =
      let test = is_supplied (is_over system done) k in
      let all : list_all done x.readers ≡ true = sym (several_done done x.readers shared) ∙ is in
      let made = made_same system (is_over system done) done over_task x.from own.producer ∙ item_made done x shared all closed in
      let readers = all_done_same system (is_over system done) done over_task x.readers own.readers ∙ all in
      let later = ready_same (is_over system done) k (next_from k x) xs (omega (arith, next_shared k x shared)) ∙ idle k xs above others in
      list_all-append test (kept_item k x ∷ wait_items k x) (items_from (next_from k x) xs)
      ∙ and_from (list_all test (kept_item k x ∷ wait_items k x)) (list_all test (items_from (next_from k x) xs))
      (item_collected (is_over system done) k x made readers) later

  join_ready : (k : ℕ) (xs : List SharedItem) (v : ℕ) → length system.tasks < k → k ≤ v → All (IsSharedItemWithin (length system.tasks)) xs
      → ((u : ℕ) → done u ≡ true → list_all (λ x. not (is_read_by u x) || is_made done x) xs ≡ true)
      → are_done done (joined_item k xs v).readers ≡ true → list_all (is_supplied (is_over system done) v) (items_from k xs) ≡ true
  join_ready k [] v above low all closed is = refl
  join_ready k (x ∷ xs) v above low all closed is =
      let test = is_supplied (is_over system done) v in
      let own = All-head (IsSharedItemWithin (length system.tasks)) x xs all in
      let others = All-tail (IsSharedItemWithin (length system.tasks)) x xs all in
      let parts = λ (u : ℕ) (e : done u ≡ true).
      and_parts (not (is_read_by u x) || is_made done x) (list_all (λ y. not (is_read_by u y) || is_made done y) xs) (closed u e) in
      elim (here_or_later k x v) [
        | inl here ↦
            let readers = sym (ap (λ (y : SharedItem). are_done done y.readers) (joined_here k x xs v here.0 here.1)) ∙ is in
            subst (λ (u : ℕ). list_all (is_supplied (is_over system done) u) (items_from k (x ∷ xs)) ≡ true) here.1
            (join_here k x xs above here.0 own others (λ u e. (parts u e).0) readers)
        | inr other ↦
            let later = joined_later k x xs v low other in
            let readers = sym (ap (λ (y : SharedItem). are_done done y.readers) later.1) ∙ is in
            list_all-append test (kept_item k x ∷ wait_items k x) (items_from (next_from k x) xs)
            ∙ and_from (list_all test (kept_item k x ∷ wait_items k x)) (list_all test (items_from (next_from k x) xs))
            (item_ready (is_over system done) k v x other ∙ idle_by v x (omega arith) own)
            (join_ready (next_from k x) xs v (omega (arith, next_ge k x)) later.0 others (λ u e. (parts u e).1) readers)
      ]

  pub over_join : (v : ℕ) → length system.tasks < v
      → is_over system done v ≡ are_done done (joined_item (length system.tasks + 1) system.items v).readers
  over_join v above =
      let place : v - length system.tasks - 1 ≡ v - (length system.tasks + 1) = omega arith in
      rw (lt-leb v (length system.tasks) above)
      (ap (λ (i : ℕ). are_done done (shared_item_at (filter is_shared system.items) i).readers) place)

  pub join_is : (fences : List Fence) (v : ℕ) → length system.tasks < v → All (λ f. f.to ≤ length system.tasks) fences
      → ((u : ℕ) → done u ≡ true → has_inputs system done u ≡ true) → is_over system done v ≡ true
      → is_ready (with_fences (collected system) fences) (is_over system done) v ≡ true
  join_is fences v above for_tasks closed over =
      let test = is_supplied (is_over system done) v in
      let items = items_from (length system.tasks + 1) system.items in
      list_all-append test items (map fence_item fences)
      ∙ and_from (list_all test items) (list_all test (map fence_item fences))
      (join_ready (length system.tasks + 1) system.items v (omega arith) (omega arith) within closed (sym (over_join v above) ∙ over))
      (waits_same fences v ∙ free fences v above for_tasks)

  -- ---- and over where it could run

  readers_within : (xs : List SharedItem) (i : ℕ) → All (IsSharedItemWithin (length system.tasks)) xs
      → All (HasTask system) (shared_item_at xs i).readers
  readers_within [] i all = All-nil (HasTask system)
  readers_within (x ∷ xs) zero all = (All-head (IsSharedItemWithin (length system.tasks)) x xs all).readers
  readers_within (x ∷ xs) (suc i) all = readers_within xs i (All-tail (IsSharedItemWithin (length system.tasks)) x xs all)

  pub join_over : (v : ℕ) → length system.tasks < v → v ≤ length system.tasks + count_by is_shared system.items
      → is_ready (collected system) (is_over system done) v ≡ true → is_over system done v ≡ true
  join_over v above high ready =
      let over = is_over system done in
      let readers = readers_within (filter is_shared system.items) (v - (length system.tasks + 1))
      (All-filter is_shared (IsSharedItemWithin (length system.tasks)) system.items within) in
      over_join v above
      ∙ sym (are_done_same system over done over_task (joined_item (length system.tasks + 1) system.items v).readers readers)
      ∙ join_all over (length system.tasks + 1) system.items v (omega arith) (omega arith) ready
