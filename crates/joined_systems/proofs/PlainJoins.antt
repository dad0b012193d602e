-- Each task and each item of the joined system is within the limits by itself.
use Rattle.std.proofs.Common.{◌≡◌, ℕ, zero, suc, ◌+◌, ◌-◌, ◌*◌, ◌^◌, ◌<◌, ◌≤◌, true, false, not, eqb, List, [], ◌∷◌, ◌++◌, length, get_or, map}
use Rattle.std.proofs.Common.{Option, Some, refl, sym, ap, subst, ◌∙◌, arith}
use Rattle.std.proofs.Math.Path.{fun_ext}
use Rattle.std.specs.Prelude.{All}
use Rattle.std.specs.List.{flat_map, sum_by, list_all, range_with_len}
use Rattle.std.specs.List.Sorted.{IsStrictlyIncreasing}
use Rattle.std.proofs.lemmas.List.{append-nil}
use Rattle.std.proofs.lemmas.List.Sums.{sum_by-append}
use Rattle.std.proofs.lemmas.List.Elements.{All-head, All-tail, All-nil, All-cons, All-append, All-weaker}
use Rattle.std.proofs.lemmas.Bool.{and_from, ne_eqb}
use Rattle.lists.proofs.Bools.{eqb_same}
use Rattle.limits.specs.Limits.{most_total}
use Rattle.row_table.proofs.NumberLists.{rising-push}
use Rattle.mp_system.specs.declared.system.Task.{Task}
use Rattle.mp_system.specs.System.{IsTaskWithin, extra_size, is_named}
use Rattle.graphs.specs.Graph.{IsAmong}
use Rattle.shared_systems.specs.Shared.{SharedTaskSystem, SharedItem, shared_size_where}
use Rattle.shared_systems.specs.Bounds.{IsSharedItemWithin, IsSharedSystem, reader_count, shared_size}
use Rattle.shared_systems.specs.Judged.{IsPlainShared, IsSharedFault}
use Rattle.shared_systems.specs.declared.judged.SharedFault.{SharedFault}
use Rattle.shared_systems.specs.declared.judged.SharedFault.TheVariants as faults
use Rattle.joined_systems.specs.Joins.{join_count, tasks_of}
use Rattle.joined_systems.specs.Joined.{join_task, join_between, join_after, through, released, joined_item, join_at, joined}
use Rattle.joined_systems.specs.Few.{IsFew}
use Rattle.joined_systems.proofs.JoinNumbers.{all_at}
use Rattle.joined_systems.proofs.JoinedItems.{no_join}
use Rattle.joined_systems.proofs.JoinedStates.{between, after}
use Rattle.joined_systems.proofs.JoinedSystems.{task_count}
use Rattle.joined_systems.proofs.JoinCode.{between-le, after-le, joined_uses, joined_sizes, join_with}

-- ---- one item

among : (n m v : ℕ) → IsAmong n v → n ≤ m → IsAmong m v
among n m v task le = (task.0, omega (arith, task.1, le))

readers_within : (n k most : ℕ) (to : List ℕ) → k ≤ most → All (IsAmong n) to → All (IsAmong (n + most)) (to ++ join_task n k)
readers_within n zero most to le within =
    subst (All (IsAmong (n + most))) (sym (append-nil to))
    (All-weaker (IsAmong n) (IsAmong (n + most)) (λ v task. among n (n + most) v task (omega arith)) to within)
readers_within n (suc k) most to le within =
    All-append (IsAmong (n + most)) to ((n + suc k) ∷ [])
    (All-weaker (IsAmong n) (IsAmong (n + most)) (λ v task. among n (n + most) v task (omega arith)) to within)
    (All-cons (IsAmong (n + most)) (n + suc k) [] (omega arith, omega arith) (All-nil (IsAmong (n + most))))

rising_within : (n k : ℕ) (to : List ℕ) → All (IsAmong n) to → IsStrictlyIncreasing to → IsStrictlyIncreasing (to ++ join_task n k)
rising_within n zero to within rising = subst IsStrictlyIncreasing (sym (append-nil to)) rising
rising_within n (suc k) to within rising =
    rising-push to (n + suc k) rising (λ i lt. (let task = within i 0 lt in omega (arith, task.1)))

apart_within : (n k : ℕ) (from : Option ℕ) (to : List ℕ) → (1 ≤ k → is_named from (n + k) ≡ false)
    → All (λ c. is_named from c ≡ false) to → All (λ c. is_named from c ≡ false) (to ++ join_task n k)
apart_within n zero from to other apart = subst (All (λ c. is_named from c ≡ false)) (sym (append-nil to)) apart
apart_within n (suc k) from to other apart =
    All-append (λ c. is_named from c ≡ false) to ((n + suc k) ∷ []) apart
    (All-cons (λ c. is_named from c ≡ false) (n + suc k) [] (other (omega arith)) (All-nil (λ c. is_named from c ≡ false)))

none_named : (from : Option ℕ) (to : List ℕ) → All (λ c. is_named from c ≡ false) to → list_all (λ c. not (is_named from c)) to ≡ true
none_named from [] apart = refl
none_named from (c ∷ to) apart =
    and_from (not (is_named from c)) (list_all (λ d. not (is_named from d)) to)
    (ap not (All-head (λ d. is_named from d ≡ false) c to apart)) (none_named from to (All-tail (λ d. is_named from d ≡ false) c to apart))

module _ (n : ℕ) (joins : List ℕ) (len : length joins ≡ n) where
  -- an item goes through no join with whose tasks it goes
  two_joins : (x : SharedItem) → IsSharedItemWithin n x → 1 ≤ join_between joins x.from x.readers → 1 ≤ join_after joins x.readers
      → join_between joins x.from x.readers ≡ join_after joins x.readers → ⊥
  two_joins x within some_between some_after same =
      let through_is = between joins x.from x.readers some_between in
      let after_is = after joins x.readers some_after in
      let u = through_is.producer in
      let task = within.producer u through_is.from_is in
      let test = λ (c : ℕ). not (is_named x.from c) in
      let none : list_all test (tasks_of joins (join_after joins x.readers)) ≡ true =
      ap (list_all test) (sym after_is.tasks_are) ∙ none_named x.from x.readers within.apart in
      let place : 1 + (u - 1) ≡ u = omega (arith, task.0) in
      let here : test u ≡ true = subst (λ (v : ℕ). test v ≡ true) place
      (all_at test joins 1 (join_after joins x.readers) (u - 1) (omega (arith, len, task.0, task.1)) (sym through_is.join_is ∙ same) none) in
      let named : is_named x.from u ≡ true = ap (λ (o : Option ℕ). is_named o u) through_is.from_is ∙ eqb_same u in
      let both : not true ≡ true = ap not (sym named) ∙ here in
      cc

  released_within : (x : SharedItem) → IsSharedItemWithin n x → IsSharedItemWithin (n + join_count joins) (released n joins x)
  released_within x within = record {
    producer = λ u e. among n (n + join_count joins) u (within.producer u e) (omega arith);
    readers = readers_within n (join_after joins x.readers) (join_count joins) x.readers (after-le joins x.readers) within.readers;
    apart = apart_within n (join_after joins x.readers) x.from x.readers
        (λ some. no_join n (join_after joins x.readers) x.from some within.producer) within.apart;
    rising = rising_within n (join_after joins x.readers) x.readers within.readers within.rising;
    size = within.size;
  }

  through_within : (k : ℕ) (x : SharedItem) → k ≤ join_count joins → IsSharedItemWithin n x
      → (1 ≤ k → 1 ≤ join_after joins x.readers → k ≡ join_after joins x.readers → ⊥)
      → All (IsSharedItemWithin (n + join_count joins)) (through n k (released n joins x))
  through_within zero x le within other =
      All-cons (IsSharedItemWithin (n + join_count joins)) (released n joins x) [] (released_within x within)
      (All-nil (IsSharedItemWithin (n + join_count joins)))
  through_within (suc k) x le within other =
      let m = n + join_count joins in
      let whole = released_within x within in
      let f = join_after joins x.readers in
      let second : SharedItem = record { size = x.size; from = Some (n + suc k); readers = x.readers ++ join_task n f } in
      let first : SharedItem = record { size = x.size; from = x.from; readers = (n + suc k) ∷ [] } in
      All-cons (IsSharedItemWithin m) first (second ∷ [])
      (record {
        producer = whole.producer;
        readers = readers_within n (suc k) (join_count joins) [] le (All-nil (IsAmong n));
        apart = apart_within n (suc k) x.from [] (λ some. no_join n (suc k) x.from some within.producer) (All-nil (λ c. is_named x.from c ≡ false));
        rising = rising_within n (suc k) [] (All-nil (IsAmong n)) (λ i lt. absurd (omega arith));
        size = within.size;
      })
      (All-cons (IsSharedItemWithin m) second [] (record {
        producer = λ u e. (let same : n + suc k ≡ u = cc in (omega (arith, same), omega (arith, same, le)));
        readers = whole.readers;
        apart = apart_within n f (Some (n + suc k)) x.readers
            (λ some. ne_eqb (n + suc k) (n + f) (λ e. other (omega arith) some (omega arith)))
            (All-weaker (IsAmong n) (λ c. eqb (n + suc k) c ≡ false) (λ c task. ne_eqb (n + suc k) c (λ e. omega (arith, task.1))) x.readers within.readers);
        rising = whole.rising;
        size = within.size;
      }) (All-nil (IsSharedItemWithin m)))

  items_within : (xs : List SharedItem) → All (IsSharedItemWithin n) xs
      → All (IsSharedItemWithin (n + join_count joins)) (flat_map (joined_item n joins) xs)
  items_within [] within = All-nil (IsSharedItemWithin (n + join_count joins))
  items_within (x ∷ xs) within =
      let here = All-head (IsSharedItemWithin n) x xs within in
      All-append (IsSharedItemWithin (n + join_count joins)) (joined_item n joins x) (flat_map (joined_item n joins) xs)
      (through_within (join_between joins x.from x.readers) x (between-le joins x.from x.readers) here (two_joins x here))
      (items_within xs (All-tail (IsSharedItemWithin n) x xs within))

-- ---- the whole

abbrev join_sized : ℕ → Task
join_sized n = record { extra = 0; share = n; time = 1 }

abbrev pub system_of : List Task → List SharedItem → SharedTaskSystem
system_of tasks items = record { tasks = tasks; items = items }

joins_within : (joins : List ℕ) (system : SharedTaskSystem) (first k : ℕ) → All IsTaskWithin (map (join_at joins system) (range_with_len first k))
joins_within joins system first zero = All-nil IsTaskWithin
joins_within joins system first (suc k) =
    All-cons IsTaskWithin (join_at joins system first) (map (join_at joins system) (range_with_len (first + 1) k))
    (record { extra = omega arith; time = (omega arith, omega arith) }) (joins_within joins system (first + 1) k)

join_extras : (joins : List ℕ) (system : SharedTaskSystem) (first k : ℕ)
    → sum_by extra_size (map (join_at joins system) (range_with_len first k)) ≡ 0
join_extras joins system first zero = refl
join_extras joins system first (suc k) = join_extras joins system (first + 1) k

module _ (system : SharedTaskSystem) (joins : List ℕ) (is : IsSharedSystem system) (len : length joins ≡ length system.tasks) where
  pub plain : IsFew (joined joins system) → IsPlainShared (joined joins system)
  plain few = record {
    few_tasks = few.0;
    few_items = few.1;
    few_uses = few.2;
    tasks = All-append IsTaskWithin system.tasks (map (join_at joins system) (range_with_len 1 (join_count joins))) is.tasks
        (joins_within joins system 1 (join_count joins));
    items = subst (λ (m : ℕ). All (IsSharedItemWithin m) (joined joins system).items) (sym (task_count system joins))
        (items_within (length system.tasks) joins len system.items is.items);
    total = few.3;
  }

  pub few : IsSharedSystem (joined joins system) → IsFew (joined joins system)
  few within = (within.few_tasks, within.few_items, within.few_uses, within.total)

  pub extras_small : sum_by extra_size (joined joins system).tasks ≤ most_total
  extras_small =
      omega (
        arith,
        sum_by-append extra_size system.tasks (map (join_at joins system) (range_with_len 1 (join_count joins))),
        join_extras joins system 1 (join_count joins),
        is.total,
      )

  pub sizes_small : sum_by shared_size (joined joins system).items ≤ 2 * most_total
  sizes_small = omega (arith, joined_sizes (length system.tasks) joins system.items, is.total)

  pub uses_small : sum_by reader_count (joined joins system).items < 2 ^ 32
  uses_small = omega (arith, joined_uses (length system.tasks) joins system.items, is.few_uses, is.few_items)

  -- what the code makes is the joined system
  pub system_is : (all : List Task) (made : List SharedItem) (tasks : List Task) (items other : List SharedItem) (shares : List ℕ) (count : ℕ)
      → tasks ≡ system.tasks → items ≡ system.items → other ≡ system.items → made ≡ flat_map (joined_item (length joins) joins) items
      → all ≡ tasks ++ map (join_with shares) (range_with_len 1 (length shares - 1))
      → count ≡ join_count joins → length shares ≡ count + 1
      → ((k : ℕ) → get_or shares k 0 ≡ shared_size_where (λ x. eqb (join_between joins x.from x.readers) k) other)
      → system_of all made ≡ joined joins system
  system_is all made tasks items other shares count tasks_are items_are other_is made_is all_are count_is long shares_are =
      let share : (k : ℕ) → join_with shares k ≡ join_at joins system k =
      λ k. ap (λ (n : ℕ). join_sized n)
      (shares_are k ∙ ap (λ (l : List SharedItem). shared_size_where (λ x. eqb (join_between joins x.from x.readers) k) l) other_is) in
      let many : length shares - 1 ≡ join_count joins = omega (arith, long, count_is) in
      ap (λ (l : List Task). system_of l made)
      (all_are ∙ ap (λ (l : List Task). l ++ map (join_with shares) (range_with_len 1 (length shares - 1))) tasks_are
      ∙ ap (λ (m : ℕ). system.tasks ++ map (join_with shares) (range_with_len 1 m)) many
      ∙ ap (λ (f : ℕ → Task). system.tasks ++ map f (range_with_len 1 (join_count joins))) (fun_ext share))
      ∙ ap (λ (l : List SharedItem). system_of (joined joins system).tasks l)
      (made_is ∙ ap (λ (l : List SharedItem). flat_map (joined_item (length joins) joins) l) items_are
      ∙ ap (λ (m : ℕ). flat_map (joined_item m joins) system.items) len)

-- what a system is refused with is no want of memory: it is not within the limits
pub refused : (system : SharedTaskSystem) (fault : SharedFault) → (fault ≡ faults.NoMemory → ⊥) → IsSharedFault system fault
    → IsSharedSystem system → ⊥
refused system (faults.Cycle v) other is within = is.fails (within.ordered v is.is_place)
refused system (faults.Share v) other is within = is.1.fails (within.shares v is.1.is_place)
refused system faults.NoMemory other is within = other refl
