-- Gaps are spans: across the same steps, with the same sums; and along a traversal they are within the limits.
use Rattle.std.proofs.Common.{◌≡◌, ℕ, suc, ◌+◌, ◌*◌, ◌<◌, ◌≤◌, Bool, true, false, cond, not, refl, sym, subst, ap, arith, ◌∙◌}
use Rattle.std.proofs.Common.{List, [], ◌∷◌, length, take, drop, map, get_or, Option, Some, None, inl, inr}
use Rattle.std.specs.Prelude.{◌==◌, nat_lt, nat_le, ◌&&◌, ◌||◌}
use Rattle.std.specs.List.{All, flat_map, list_any, list_all, sum_by}
use Rattle.std.specs.List.Sorted.{IsStrictlyIncreasing}
use Rattle.std.specs.Option.{ForSome}
use Rattle.std.proofs.lemmas.Bool.{cases_eq, eq-eqb, ne_eqb, true≢false}
use Rattle.std.proofs.lemmas.List.{length-map}
use Rattle.std.proofs.lemmas.List.Elements.{All-get_or, All-from_get_or, All-head, All-tail, All-cons, All-nil}
use Rattle.std.proofs.lemmas.List.Elements.{All-append, All-map, All-weaker}
use Rattle.std.proofs.lemmas.List.Concat.{length-flat_map}
use Rattle.std.proofs.lemmas.List.Folds.{list_all_at, list_any_at, list_any_none}
use Rattle.std.proofs.lemmas.List.Sums.{sum_by-cons, sum_by-append}
use Rattle.limits.specs.Limits.{most_tasks, most_size}
use Rattle.lists.proofs.Lists.{rising-tail, sum_by-map}
use Rattle.mp_system.specs.Memory.{stands_in, is_done_or}
use Rattle.shared_systems.specs.Shared.{SharedTaskSystem, SharedItem, HasTask, is_read_by, shared_size_if, shared_item_at}
use Rattle.shared_systems.specs.SharedMemory.{is_made, has_inputs}
use Rattle.shared_systems.specs.SharedTraversal.{IsSharedTraversal}
use Rattle.shared_systems.specs.Bounds.{IsSharedSystem, IsSharedItemWithin, shared_size, reader_count}
use Rattle.spill_plan.specs.declared.span.Span.{Span}
use Rattle.spill_plan.specs.Steps.{step_of}
use Rattle.spill_plan.specs.Gaps.{Gap, gap_to, gaps_to, gaps_of_item, gaps_of, stands_before, is_across_gap, shared_inputs_of}
use Rattle.spill_plan.specs.GapSpans.{latest_before, span_until, gap_span}
use Rattle.spill_plan.specs.Spans.{IsEachOnce, start_of_item, no_span, AreItemSpans, is_across, end_sum}
use Rattle.spill_plan.proofs.OrderSteps.{task_step, step_of_task, split_at}
use Rattle.spill_plan.proofs.ItemSpans.{from-same, lt-le, lt-true}
use Rattle.spill_plan.proofs.LatestUses.{start-test, latest-test, latest-within}
use Rattle.spill_plan.proofs.SpanSums.{split}

-- ---- across the same steps

made-test : (order : List ℕ) (k : ℕ) (o : Option ℕ) → is_done_or true (stands_before order k) o ≡ nat_le (start_of_item order o) k
made-test order k None = le-zero k
  where
    le-zero : (k : ℕ) → true ≡ nat_le 0 k
    le-zero k = grind arith
made-test order k (Some u) = lt-le (step_of order u) k

turned : (m l a : Bool) → (m && (l && a)) ≡ ((m && a) && l)
turned true true a = and_true a
  where
    and_true : (a : Bool) → a ≡ (a && true)
    and_true true = refl
    and_true false = refl
turned true false a = and_false a
  where
    and_false : (a : Bool) → false ≡ (a && false)
    and_false true = refl
    and_false false = refl
turned false l a = refl

pub gap-across : (order : List ℕ) (k : ℕ) (x : SharedItem) (reader : Option ℕ) → k < length order
    → is_across_gap order k (record { item = x; reader = reader }) ≡ is_across k (span_until order x reader)
gap-across order k x None h = λ i. made-test order k x.from i && lt-true k (length order) h i
gap-across order k x (Some v) h =
    let e = step_of order v in
    let latest = latest_before e (map (step_of order) x.readers) in
    let all = list_all (λ c. stands_before order k c || nat_le e (step_of order c)) x.readers in
    turned (is_made (stands_before order k) x) (nat_lt k e) all
    ∙ (λ i. (made-test order k x.from i && sym (latest-test (step_of order) e k x.readers) i) && nat_lt k e)
    ∙ (λ i. sym (start-test (start_of_item order x.from) latest k) i && nat_lt k e)

-- ---- along a traversal

pub shared_once : (system : SharedTaskSystem) (order : List ℕ) → IsSharedTraversal system order → IsEachOnce (length system.tasks) order
shared_once system order traversal = record { once = traversal.once; tasks = traversal.tasks }

-- what all gaps of all items have, the gaps of each item have
pub all-gaps : {A B : Type 0} (P : B → Type 0) (f : A → List B) (xs : List A) → All (λ x. All P (f x)) xs → All P (flat_map f xs)
all-gaps P f [] each = All-nil P
all-gaps P f (x ∷ xs) each = All-append P (f x) (flat_map f xs) (All-head (λ y. All P (f y)) x xs each)
    (all-gaps P f xs (All-tail (λ y. All P (f y)) x xs each))

pub sum-gaps : {A B : Type 0} (f : B → ℕ) (g : A → List B) (xs : List A) → sum_by f (flat_map g xs) ≡ sum_by (λ x. sum_by f (g x)) xs
sum-gaps f g [] = refl
sum-gaps f g (x ∷ xs) = omega (
  arith,
  sum_by-append f (g x) (flat_map g xs),
  sum-gaps f g xs,
  sum_by-cons (λ y. sum_by f (g y)) x xs,
)

pub sum-each : {A : Type 0} (f g : A → ℕ) (xs : List A) → All (λ x. f x ≡ g x) xs → sum_by f xs ≡ sum_by g xs
sum-each f g [] each = refl
sum-each f g (x ∷ xs) each = omega (
  arith,
  sum_by-cons f x xs,
  sum_by-cons g x xs,
  All-head (λ y. f y ≡ g y) x xs each,
  sum-each f g xs (All-tail (λ y. f y ≡ g y) x xs each),
)

-- each number of a rising list is above those before it
above : (m c : ℕ) (cs : List ℕ) → m ≤ c → IsStrictlyIncreasing (c ∷ cs) → All (λ d. m < d) cs
above m c [] low rising = All-nil (λ d. m < d)
above m c (d ∷ cs) low rising =
    let next : c < d = rising 0 (omega arith) in
    All-cons (λ e. m < e) d cs (omega arith) (above m d cs (omega arith) (rising-tail c (d ∷ cs) rising))

module _ (system : SharedTaskSystem) (order : List ℕ) (within : IsSharedSystem system) (traversal : IsSharedTraversal system order) where
  item_within : (i : ℕ) (d : SharedItem) → i < length system.items → IsSharedItemWithin (length system.tasks) (get_or system.items i d)
  item_within i d h = All-get_or (IsSharedItemWithin (length system.tasks)) system.items i d h within.items

  pub placed : (v : ℕ) → HasTask system v → (step_of order v < length order) × (get_or order (step_of order v) 0 ≡ v)
  placed v task = task_step (length system.tasks) order (shared_once system order traversal) v task

  -- a reader of an item stands after its producer
  made_before : (i j : ℕ) (d : SharedItem) → i < length system.items → j < length (get_or system.items i d).readers
      → start_of_item order (get_or system.items i d).from ≤ step_of order (get_or (get_or system.items i d).readers j 0)
  made_before i j d h l =
      let x = get_or system.items i d in
      let v = get_or x.readers j 0 in
      let k = step_of order v in
      let at = placed v (All-get_or (HasTask system) x.readers j 0 l (item_within i d h).readers) in
      let ready : has_inputs system (stands_in (take k order)) v ≡ true =
      subst (λ u. has_inputs system (stands_in (take k order)) u ≡ true) at.1
      (traversal.after_suppliers (take k order) (drop (suc k) order) (get_or order k 0) (split_at order k at.0)) in
      let reads : is_read_by v x ≡ true = list_any_at (λ c. c == v) x.readers j 0 l (eq-eqb v v refl) in
      split (start_of_item order x.from) k
      (λ there. there)
      (λ late. absurd (
      let lacks : is_made (stands_in (take k order)) x ≡ false =
      from-same order k x.from at.0 ∙ not_le (start_of_item order x.from) k late in
      let fails : (not (is_read_by v x) || is_made (stands_in (take k order)) x) ≡ false = rw (reads, lacks) refl in
      true≢false (sym ready ∙ list_all_at (λ y. not (is_read_by v y) || is_made (stands_in (take k order)) y) system.items i d h fails)))
    where
      not_le : (m n : ℕ) → n < m → nat_le m n ≡ false
      not_le m n h = grind arith

  -- where a reader stands
  record IsReaderStep (x : SharedItem) (c : ℕ) : Type 0 where
    after : start_of_item order x.from ≤ step_of order c
    inside : step_of order c < length order

  reader_steps : (i : ℕ) (d : SharedItem) → i < length system.items
      → All (IsReaderStep (get_or system.items i d)) (get_or system.items i d).readers
  reader_steps i d h =
      let x = get_or system.items i d in
      All-from_get_or (IsReaderStep x) x.readers 0 (λ j l. record {
        after = made_before i j d h l;
        inside = (placed (get_or x.readers j 0) (All-get_or (HasTask system) x.readers j 0 l (item_within i d h).readers)).0;
      })

  pub start_inside : (o : Option ℕ) → ForSome o (HasTask system) → start_of_item order o ≤ length order
  start_inside None task = omega arith
  start_inside (Some u) task = omega (arith, (placed u (task u refl)).0)

  abbrev IsInside : Span → Type 0
  IsInside s = (s.start ≤ s.end) × (s.end ≤ length order)

  item_inside : (x : SharedItem) (rs : List ℕ) → start_of_item order x.from ≤ length order → All (IsReaderStep x) rs
      → All (λ g. IsInside (gap_span order g)) (gaps_to x rs)
  item_inside x [] low each = All-cons (λ g. IsInside (gap_span order g)) (record { item = x; reader = None }) []
      (low, omega arith) (All-nil (λ g. IsInside (gap_span order g)))
  item_inside x (c ∷ cs) low each = All-map (λ g. IsInside (gap_span order g)) (gap_to x) (c ∷ cs)
      (All-weaker (IsReaderStep x) (λ c. IsInside (span_until order x (Some c))) (λ d at.
      let before = latest-within (step_of order d) (map (step_of order) x.readers) in
      (omega (arith, at.after, before), omega (arith, at.inside))) (c ∷ cs) each)

  all_inside : All IsInside (map (gap_span order) (gaps_of system))
  all_inside = All-map IsInside (gap_span order) (gaps_of system)
      (all-gaps (λ g. IsInside (gap_span order g)) gaps_of_item system.items
      (All-from_get_or (λ x. All (λ g. IsInside (gap_span order g)) (gaps_of_item x)) system.items (shared_item_at [] 0)
      (λ i h. item_inside (get_or system.items i (shared_item_at [] 0)) (get_or system.items i (shared_item_at [] 0)).readers
      (start_inside (get_or system.items i (shared_item_at [] 0)).from (item_within i (shared_item_at [] 0) h).producer)
      (reader_steps i (shared_item_at [] 0) h))))

  -- ---- how many there are, and their sizes

  count_item : (x : SharedItem) (rs : List ℕ) → length (gaps_to x rs) ≤ suc (length rs)
  count_item x [] = omega arith
  count_item x (c ∷ cs) = let same : length (map (gap_to x) cs) ≡ length cs = simp length-map in omega arith

  count_gaps : (xs : List SharedItem) → sum_by (λ x. length (gaps_of_item x)) xs ≤ sum_by reader_count xs + length xs
  count_gaps [] = omega arith
  count_gaps (x ∷ xs) = omega (
    arith,
    sum_by-cons (λ y. length (gaps_of_item y)) x xs,
    sum_by-cons reader_count x xs,
    count_item x x.readers,
    count_gaps xs,
  )

  gap_size : Gap → ℕ
  gap_size g = (gap_span order g).size

  read_sizes : (x : SharedItem) (rs : List ℕ) → x.size ≤ most_size → sum_by (λ c. x.size) rs ≤ length rs * most_size
  read_sizes x [] fits = omega arith
  read_sizes x (c ∷ cs) fits = omega (arith, sum_by-cons (λ d. x.size) c cs, read_sizes x cs fits)

  item_sizes : (x : SharedItem) (rs : List ℕ) → x.size ≤ most_size
      → sum_by (λ g. (gap_span order g).size) (gaps_to x rs) ≤ length rs * most_size + x.size
  item_sizes x [] fits = omega (arith, sum_by-cons (λ g. (gap_span order g).size) (record { item = x; reader = None }) [])
  item_sizes x (c ∷ cs) fits = omega (arith, sum_by-map (λ g. (gap_span order g).size) (gap_to x) (c ∷ cs), read_sizes x (c ∷ cs) fits)

  all_sizes : (xs : List SharedItem) → All (λ x. x.size ≤ most_size) xs
      → sum_by (λ x. sum_by (λ g. (gap_span order g).size) (gaps_of_item x)) xs
      ≤ sum_by reader_count xs * most_size + sum_by shared_size xs
  all_sizes [] each = omega arith
  all_sizes (x ∷ xs) each = omega (
    arith,
    sum_by-cons (λ y. sum_by (λ g. (gap_span order g).size) (gaps_of_item y)) x xs,
    sum_by-cons reader_count x xs,
    sum_by-cons shared_size x xs,
    item_sizes x x.readers (All-head (λ y. y.size ≤ most_size) x xs each),
    all_sizes xs (All-tail (λ y. y.size ≤ most_size) x xs each),
  )

  pub gap_item_spans : length order ≤ most_tasks → AreItemSpans (map (gap_span order) (gaps_of system)) (length order)
  gap_item_spans few =
      let long : length (map (gap_span order) (gaps_of system)) ≡ length (gaps_of system) = simp length-map in
      let sizes = all_sizes system.items (All-weaker (IsSharedItemWithin (length system.tasks)) (λ x. x.size ≤ most_size)
      (λ x at. at.size) system.items within.items) in
      record {
        few = omega (
          arith,
          long,
          length-flat_map gaps_of_item system.items,
          count_gaps system.items,
          within.few_uses,
          within.few_items,
        );
        steps_few = few;
        ordered = λ i h. (All-get_or IsInside (map (gap_span order) (gaps_of system)) i no_span h all_inside).0;
        ends = λ i h. (All-get_or IsInside (map (gap_span order) (gaps_of system)) i no_span h all_inside).1;
        total = omega (
          arith,
          sum_by-map (λ (s : Span). s.size) (gap_span order) (gaps_of system),
          sum-gaps (λ g. (gap_span order g).size) gaps_of_item system.items,
          sizes,
          within.few_uses,
          within.total,
        );
      }

  -- ---- what ends at a step is what its task reads

  ends_at_step : (k c : ℕ) → k < length order → HasTask system c → (step_of order c == k) ≡ (c == get_or order k 0)
  ends_at_step k c h task = elim (cases_eq c (get_or order k 0)) [
    | inl same ↦ eq-eqb (step_of order c) k
        (step_of_task (length system.tasks) order (shared_once system order traversal) c k task h (sym same))
        ∙ sym (eq-eqb c (get_or order k 0) same)
    | inr other ↦ ne_eqb (step_of order c) k (λ e. other (sym (placed c task).1 ∙ ap (λ j. get_or order j 0) e))
        ∙ sym (ne_eqb c (get_or order k 0) other)
  ]

  pub reads_at : (k size : ℕ) → k < length order → (cs : List ℕ) → All (HasTask system) cs → IsStrictlyIncreasing cs
      → sum_by (λ c. cond (step_of order c == k) size 0) cs ≡ cond (list_any (λ c. c == get_or order k 0) cs) size 0
  reads_at k size h [] tasks rising = refl
  reads_at k size h (c ∷ cs) tasks rising =
      let v = get_or order k 0 in
      let here : cond (step_of order c == k) size 0 ≡ cond (c == v) size 0 =
      ap (λ b. cond b size 0) (ends_at_step k c h (All-head (HasTask system) c cs tasks)) in
      let rest = reads_at k size h cs (All-tail (HasTask system) c cs tasks) (rising-tail c cs rising) in
      let sum = sum_by-cons (λ d. cond (step_of order d == k) size 0) c cs in
      elim (cases_eq c v) [
        | inl same ↦ (
            let yes : (c == v) ≡ true = eq-eqb c v same in
            let none : list_any (λ d. d == v) cs ≡ false = list_any_none (λ d. d == v) cs
            (All-weaker (λ d. c < d) (λ d. (d == v) ≡ false) (λ d high. ne_eqb d v (λ e. omega arith)) cs
            (above c c cs (omega arith) rising)) in
            let one : ◌≡◌ {A = ℕ} (cond (c == v) size 0) size = rw yes refl in
            let rest_none : ◌≡◌ {A = ℕ} (cond (list_any (λ d. d == v) cs) size 0) 0 = rw none refl in
            let all : ◌≡◌ {A = ℕ} (cond ((c == v) || list_any (λ d. d == v) cs) size 0) size = rw yes refl in
            omega (arith, here, rest, sum, one, rest_none, all))
        | inr other ↦ (
            let no : (c == v) ≡ false = ne_eqb c v other in
            let zero_here : ◌≡◌ {A = ℕ} (cond (c == v) size 0) 0 = rw no refl in
            let all : ◌≡◌ {A = ℕ} (cond ((c == v) || list_any (λ d. d == v) cs) size 0) (cond (list_any (λ d. d == v) cs) size 0) =
            rw no refl in
            omega (arith, here, rest, sum, zero_here, all))
      ]

  ends_of_item : (k : ℕ) → k < length order → (x : SharedItem) (rs : List ℕ) → All (HasTask system) rs → IsStrictlyIncreasing rs
      → sum_by (λ g. cond ((gap_span order g).end == k) (gap_span order g).size 0) (gaps_to x rs)
      ≡ cond (list_any (λ c. c == get_or order k 0) rs) x.size 0
  ends_of_item k h x [] tasks rising =
      let no : ◌≡◌ {A = ℕ} (cond (length order == k) x.size 0) 0 = rw (ne_eqb (length order) k (λ e. omega arith)) refl in
      omega (
        arith,
        no,
        sum_by-cons (λ g. cond ((gap_span order g).end == k) (gap_span order g).size 0) (record { item = x; reader = None }) [],
      )
  ends_of_item k h x (c ∷ cs) tasks rising =
      sum_by-map (λ g. cond ((gap_span order g).end == k) (gap_span order g).size 0) (gap_to x) (c ∷ cs)
      ∙ reads_at k x.size h (c ∷ cs) tasks rising

  pub end_sum-reads : (k : ℕ) → k < length order
      → end_sum k (map (gap_span order) (gaps_of system)) ≡ shared_inputs_of system (get_or order k 0)
  end_sum-reads k h =
      sum_by-map (λ s. cond (s.end == k) s.size 0) (gap_span order) (gaps_of system)
      ∙ sum-gaps (λ g. cond ((gap_span order g).end == k) (gap_span order g).size 0) gaps_of_item system.items
      ∙ sum-each (λ x. sum_by (λ g. cond ((gap_span order g).end == k) (gap_span order g).size 0) (gaps_of_item x))
      (shared_size_if (is_read_by (get_or order k 0))) system.items
      (All-weaker (IsSharedItemWithin (length system.tasks))
      (λ x. sum_by (λ g. cond ((gap_span order g).end == k) (gap_span order g).size 0) (gaps_of_item x)
      ≡ shared_size_if (is_read_by (get_or order k 0)) x)
      (λ x at. ends_of_item k h x x.readers at.readers at.rising) system.items within.items)
