-- The row of the shared items that a task reads, as the task ends: how many of their readers are left then, and what goes.
use Rattle.std.proofs.Common.{◌≡◌, ℕ, ◌+◌, ◌<◌, ◌≤◌, Bool, true, false, cond, ◌&&◌, List, [], ◌∷◌, length, map, get_or}
use Rattle.std.proofs.Common.{refl, sym, ap, subst, ◌∙◌, arith}
use Rattle.std.specs.Prelude.{All, count_by, slice_index, ◌==◌}
use Rattle.std.specs.List.{sum_by}
use Rattle.std.proofs.lemmas.List.{length-map, get_or-map}
use Rattle.std.proofs.lemmas.List.Sums.{sum_by-cons, sum_by-le-sum_by}
use Rattle.std.proofs.lemmas.List.Elements.{All-head, All-tail, All-get_or, All-filter, All-from_get_or, All-weaker}
use Rattle.mp_system.specs.Step.{AddsTask}
use Rattle.shared_systems.specs.Shared.{SharedTaskSystem, SharedItem, shared_item_at, shared_size_if, is_read_by, own_inputs_of}
use Rattle.shared_systems.specs.Bounds.{IsSharedItemWithin, shared_size}
use Rattle.shared_systems.specs.Collected.{is_shared}
use Rattle.shared_systems.specs.Freed.{freed_by}
use Rattle.shared_systems.proofs.KeySums.{no_item}
use Rattle.shared_systems.proofs.Endings.{is_shared_freed_by, freed_parts}
use Rattle.activation.specs.Tables.{shared_items_of, readers_left, numbers_read, AreLeft}
use Rattle.activation.proofs.Totals.{counted_in, in_at}
use Rattle.activation.proofs.Readers.{count_once, left_later, last_is}
use Rattle.activation.proofs.ReadNumbers.{sum_filter, sum_filter-le, numbers_within, numbers_count, numbers_once, numbers_sum}

-- a sum over items that keep to what makes the terms equal
sum_where : {X : Type 0} (P : X → Type 0) (f g : X → ℕ) → ((x : X) → P x → f x ≡ g x) → (xs : List X) → All P xs → sum_by f xs ≡ sum_by g xs
sum_where P f g same [] all = refl
sum_where P f g same (x ∷ xs) all =
    omega (
      arith,
      sum_by-cons f x xs,
      sum_by-cons g x xs,
      same x (All-head P x xs all),
      sum_where P f g same xs (All-tail P x xs all),
    )

-- what a pass over the row needs, and what it finds: the numbers are those of items, none stands twice, and each item has a reader left;
-- then it has one less, and the sizes of those of which one was left make what goes with the task, beside what it alone reads
pub record ReadsRow (system : SharedTaskSystem) (done later : ℕ → Bool) (t : ℕ) (left sizes row : List ℕ) : Type 0 where
  pub within : All (λ j. (j < length left) × (j < length sizes)) row
  pub once : (j : ℕ) → count_by (λ i. i == j) row ≤ 1
  pub some : All (λ j. 1 ≤ slice_index left j) row
  pub total : sum_by (slice_index sizes) row ≤ sum_by shared_size system.items
  pub after : (now : List ℕ) → length now ≡ length left
      → ((j : ℕ) → j < length left → slice_index now j + count_by (λ i. i == j) row ≡ slice_index left j)
      → AreLeft later (shared_items_of system) now
  pub freed : sum_by (λ j. cond (slice_index left j == 1) (slice_index sizes j) 0) row + own_inputs_of system t ≡ freed_by system done t

cond_less : (b : Bool) (n : ℕ) → cond b n 0 ≤ n
cond_less true n = omega arith
cond_less false n = omega arith

module _ (system : SharedTaskSystem) (within : All (IsSharedItemWithin (length system.tasks)) system.items) (done later : ℕ → Bool) (t : ℕ)
    (fresh : done t ≡ false) (adds : AddsTask done t later) (left sizes row : List ℕ)
    (row_is : row ≡ numbers_read t 0 (shared_items_of system)) (sizes_are : sizes ≡ map shared_size (shared_items_of system))
    (left_are : AreLeft done (shared_items_of system) left) where
  item_within : (j : ℕ) → j < length (shared_items_of system)
      → IsSharedItemWithin (length system.tasks) (shared_item_at (shared_items_of system) j)
  item_within j lt = All-get_or (IsSharedItemWithin (length system.tasks)) (shared_items_of system) j no_item lt
      (All-filter is_shared (IsSharedItemWithin (length system.tasks)) system.items within)

  sizes_long : length sizes ≡ length (shared_items_of system)
  sizes_long = ap (λ (ns : List ℕ). length ns) sizes_are ∙ length-map (shared_items_of system) shared_size

  size_at : (j : ℕ) → j < length (shared_items_of system) → get_or sizes j 0 ≡ shared_size (shared_item_at (shared_items_of system) j)
  size_at j lt = ap (λ (ns : List ℕ). get_or ns j 0) sizes_are ∙ get_or-map shared_size (shared_items_of system) j no_item 0 lt

  row_within : All (λ j. (j < length left) × (j < length sizes)) row
  row_within = subst (All (λ j. (j < length left) × (j < length sizes))) (sym row_is)
      (All-weaker (λ j. (0 ≤ j) × (j < 0 + length (shared_items_of system))) (λ j. (j < length left) × (j < length sizes))
      (λ j h. (omega (arith, h.1, left_are.long), omega (arith, h.1, sizes_long)))
      (numbers_read t 0 (shared_items_of system)) (numbers_within t 0 (shared_items_of system)))

  row_once : (j : ℕ) → count_by (λ i. i == j) row ≤ 1
  row_once j = omega (arith, ap (count_by (λ i. i == j)) row_is, numbers_once t (shared_items_of system) j)

  -- the number of an item stands in the row where the task reads it
  row_count : (j : ℕ) → j < length (shared_items_of system)
      → count_by (λ i. i == j) row ≡ cond (is_read_by t (shared_item_at (shared_items_of system) j)) 1 0
  row_count j lt =
      let e : 0 + j ≡ j = omega arith in
      ap (count_by (λ i. i == j)) row_is
      ∙ ap (λ (n : ℕ). count_by (λ i. i == n) (numbers_read t 0 (shared_items_of system))) (sym e)
      ∙ numbers_count t 0 (shared_items_of system) j lt

  -- then there is one reader less
  one_less : (j : ℕ) → j < length (shared_items_of system)
      → readers_left later (shared_item_at (shared_items_of system) j) + count_by (λ i. i == j) row
      ≡ readers_left done (shared_item_at (shared_items_of system) j)
  one_less j lt =
      omega (
        arith,
        row_count j lt,
        left_later done later t fresh adds (shared_item_at (shared_items_of system) j).readers,
        count_once (shared_item_at (shared_items_of system) j).readers (item_within j lt).rising t,
      )

  row_some : All (λ j. 1 ≤ slice_index left j) row
  row_some = All-from_get_or (λ j. 1 ≤ slice_index left j) row 0
      (λ k w.
      let inside = All-get_or (λ j. (j < length left) × (j < length sizes)) row k 0 w row_within in
      let lt : get_or row k 0 < length (shared_items_of system) = omega (arith, inside.0, left_are.long) in
      omega (arith, counted_in row (get_or row k 0) (in_at row k w), one_less (get_or row k 0) lt, left_are.each (get_or row k 0) lt))

  row_total : sum_by (slice_index sizes) row ≤ sum_by shared_size system.items
  row_total =
      let over = numbers_sum t (slice_index sizes) shared_size 0 (shared_items_of system)
      (λ i lt. let e : 0 + i ≡ i = omega arith in ap (slice_index sizes) e ∙ size_at i lt) in
      omega (
        arith,
        ap (sum_by (slice_index sizes)) row_is,
        over,
        sum_by-le-sum_by (λ x. cond (is_read_by t x) (shared_size x) 0) shared_size (shared_items_of system)
            (λ x. cond_less (is_read_by t x) (shared_size x)),
        sum_filter-le is_shared shared_size system.items,
      )

  left_after : (now : List ℕ) → length now ≡ length left
      → ((j : ℕ) → j < length left → slice_index now j + count_by (λ i. i == j) row ≡ slice_index left j)
      → AreLeft later (shared_items_of system) now
  left_after now long less = record {
    long = long ∙ left_are.long;
    each = λ j lt. omega (arith, less j (omega (arith, lt, left_are.long)), left_are.each j lt, one_less j lt);
  }

  -- an item of which one reader is left, and which the task reads, goes with it
  item_goes : (x : SharedItem) → IsSharedItemWithin (length system.tasks) x
      → cond (is_shared x) (cond (is_read_by t x) (cond (readers_left done x == 1) x.size 0) 0) 0
      ≡ shared_size_if (is_shared_freed_by done t) x
  item_goes x inside =
      both (is_shared x) (is_read_by t x) (readers_left done x == 1) x.size
      ∙ ap (λ (b : Bool). cond (is_shared x && b) x.size 0) (sym (last_is done later t fresh adds x.readers inside.rising))
    where
      both : (a b d : Bool) (n : ℕ) → cond a (cond b (cond d n 0) 0) 0 ≡ cond (a && (b && d)) n 0
      both true true d n = refl
      both true false d n = refl
      both false b d n = refl

  freed_is : sum_by (λ j. cond (slice_index left j == 1) (slice_index sizes j) 0) row + own_inputs_of system t ≡ freed_by system done t
  freed_is =
      let f : ℕ → ℕ = λ j. cond (slice_index left j == 1) (slice_index sizes j) 0 in
      let g : SharedItem → ℕ = λ x. cond (readers_left done x == 1) x.size 0 in
      let items = shared_items_of system in
      let over = numbers_sum t f g 0 items
      (λ i lt. let e : 0 + i ≡ i = omega arith in
      ap f e ∙ ap (λ (n : ℕ). cond (n == 1) (slice_index sizes i) 0) (left_are.each i lt)
      ∙ ap (λ (n : ℕ). cond (readers_left done (shared_item_at items i) == 1) n 0) (size_at i lt)) in
      omega (
        arith,
        ap (sum_by f) row_is,
        over,
        sum_filter is_shared (λ x. cond (is_read_by t x) (g x) 0) system.items,
        sum_where (IsSharedItemWithin (length system.tasks)) (λ x. cond (is_shared x) (cond (is_read_by t x) (g x) 0) 0)
            (shared_size_if (is_shared_freed_by done t)) item_goes system.items within,
        freed_parts done t system.items,
      )

  pub reads_row : ReadsRow system done later t left sizes row
  reads_row = record {
    within = row_within;
    once = row_once;
    some = row_some;
    total = row_total;
    after = left_after;
    freed = freed_is;
  }
