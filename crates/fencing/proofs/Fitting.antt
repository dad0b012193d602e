-- The amounts are as many as the items and fences, each within its limits, and all together.
use Rattle.std.proofs.Common.{◌≡◌, ℕ, zero, suc, ◌+◌, ◌-◌, ◌*◌, ◌^◌, ◌<◌, ◌≤◌, Bool, true, false, not, ◌||◌, eqb, eq-eqb, Option, None, Some, List, [], ◌∷◌, ◌++◌, length, get_or, map, refl, ap, ◌∙◌, arith, ⊎_elim}
use Rattle.std.specs.Prelude.{All}
use Rattle.std.specs.List.{sum_by}
use Rattle.std.proofs.lemmas.Bool.{cases_Bool, eqb-true}
use Rattle.std.proofs.lemmas.List.{length-append, length-map}
use Rattle.std.proofs.lemmas.List.Elements.{All-filter, All-head, All-tail}
use Rattle.std.proofs.lemmas.List.FromFn.{length-range_with_len}
use Rattle.std.proofs.lemmas.List.Sums.{AllPass-from_list_all, sum-map, sum_by-append, sum_by-cons}
use Rattle.limits.specs.Limits.{most_size, most_total}
use Rattle.mp_system.specs.declared.system.Item.{Item}
use Rattle.mp_system.specs.declared.system.Task.{Task}
use Rattle.mp_system.specs.System.{TaskSystem, IsTask, IsTaskWithin, extra_size, is_input, is_named, is_output, item_size, outputs_of, size_if, size_where, task_at}
use Rattle.mp_system.specs.Memory.{is_done_or, is_produced, stands_in}
use Rattle.mp_system.specs.Traversal.{IsTraversal}
use Rattle.fences.specs.declared.judged.AmountTest.{AmountTest}
use Rattle.fences.specs.declared.judged.AmountTest.TheVariants as tests
use Rattle.fences.specs.Judged.{AmountPasses, AreAccepted, most_amount}
use Rattle.fences.specs.JudgedFences.{fence_item, with_fences}
use Rattle.fences.specs.Moments.{numbers_of}
use Rattle.fences.proofs.Along.{stands_split}
use Rattle.fences.proofs.Chains.{not_before}
use Rattle.fences.proofs.ChainAmounts.{stands_once}
use Rattle.fences.proofs.Sizes.{size_if-le, size_where-le}
use Rattle.fences.proofs.Swaps.{once_in_range, swap}
use Rattle.fencing.specs.declared.ledger.Taking.{Taking}
use Rattle.fencing.specs.Needs.{taken_need}
use Rattle.fencing.specs.Takings.{AreTakings, amounts_for, fence_of, fences_left, handed_along, is_fence, item_at, taken_by, taking_amount}
use Rattle.fencing.proofs.Passing.{to_task}
use Rattle.fencing.proofs.Raising.{along_high, along_long, along_low, along_only, along_sum}
use Rattle.fencing.proofs.Relieved.{KeepsLimits}
use Rattle.fencing.proofs.Sums.{all_taken, sums_le, to_among}

abbrev pub fence_items : List Taking → List Item
fence_items takings = map fence_item (map fence_of takings)

-- ---- each amount, by its place: of the items, and behind them of the fences

-- at least the size
low_of_fences : (left : List Taking) (k : ℕ) (d : Item) → k < length left → (get_or (fence_items left) k d).size ≤ get_or (map taking_amount left) k 0
low_of_fences [] k d lt = absurd (omega arith)
low_of_fences (taking ∷ left) zero d lt = omega arith
low_of_fences (taking ∷ left) (suc k) d lt = low_of_fences left k d (omega arith)

low_of_all : (items : List Item) (own : List ℕ) (left : List Taking) → length own ≡ length items → ((k : ℕ) (d : Item) → k < length items → (get_or items k d).size ≤ get_or own k 0)
    → (k : ℕ) (d : Item) → k < length items + length left → (get_or (items ++ fence_items left) k d).size ≤ get_or (own ++ map taking_amount left) k 0
low_of_all [] [] left long each k d lt = low_of_fences left k d (omega arith)
low_of_all [] (x ∷ own) left long each k d lt = absurd cc
low_of_all (item ∷ items) [] left long each k d lt = absurd cc
low_of_all (item ∷ items) (x ∷ own) left long each zero d lt = each zero d (omega arith)
low_of_all (item ∷ items) (x ∷ own) left long each (suc k) d lt =
    low_of_all items own left (omega (arith, long)) (λ j e l. each (suc j) e (omega arith)) k d (omega arith)

-- at most so much
high_of_fences : (top : ℕ) (left : List Taking) (k : ℕ) → All (λ (t : Taking). t.amount ≤ top) left → k < length left → get_or (map taking_amount left) k 0 ≤ top
high_of_fences top [] k all lt = absurd (omega arith)
high_of_fences top (taking ∷ left) zero all lt = All-head (λ (t : Taking). t.amount ≤ top) taking left all
high_of_fences top (taking ∷ left) (suc k) all lt = high_of_fences top left k (All-tail (λ (t : Taking). t.amount ≤ top) taking left all) (omega arith)

high_of_all : (top : ℕ) (own : List ℕ) (left : List Taking) → ((k : ℕ) → k < length own → get_or own k 0 ≤ top) → All (λ (t : Taking). t.amount ≤ top) left
    → (k : ℕ) → k < length own + length left → get_or (own ++ map taking_amount left) k 0 ≤ top
high_of_all top [] left each all k lt = high_of_fences top left k all (omega arith)
high_of_all top (x ∷ own) left each all zero lt = each zero (omega arith)
high_of_all top (x ∷ own) left each all (suc k) lt = high_of_all top own left (λ j l. each (suc j) (omega arith)) all k (omega arith)

-- ---- what all tasks take

extra_among : (tasks : List Task) (i : ℕ) → (get_or tasks i (record { extra = 0; share = 0; time = 0 })).extra ≤ sum_by extra_size tasks
extra_among [] i = omega arith
extra_among (task ∷ tasks) zero = omega (arith, sum_by-cons extra_size task tasks)
extra_among (task ∷ tasks) (suc i) = omega (arith, extra_among tasks i, sum_by-cons extra_size task tasks)

extra_within : (tasks : List Task) (i : ℕ) → All IsTaskWithin tasks → (get_or tasks i (record { extra = 0; share = 0; time = 0 })).extra ≤ most_size
extra_within [] i all = omega arith
extra_within (task ∷ tasks) zero all = (All-head IsTaskWithin task tasks all).extra
extra_within (task ∷ tasks) (suc i) all = extra_within tasks i (All-tail IsTaskWithin task tasks all)

needs_within : (need extra output : ℕ → ℕ) → ((v : ℕ) → need v ≤ extra v + output v) → ((v : ℕ) → extra v ≤ most_size) → (ns : List ℕ) → sum_by need ns ≤ length ns * most_size + sum_by output ns
needs_within need extra output each within [] = omega arith
needs_within need extra output each within (x ∷ xs) =
    omega (arith, each x, within x, needs_within need extra output each within xs, sum_by-cons need x xs, sum_by-cons output x xs)

-- an item that does not pass a test, and all that pass
beside : (test : Item → Bool) (items : List Item) (k : ℕ) (d : Item) → k < length items → test (get_or items k d) ≡ false → (get_or items k d).size + size_where test items ≤ sum_by item_size items
beside test [] k d lt fails = absurd (omega arith)
beside test (item ∷ items) zero d lt fails =
    let none : size_if test item ≡ 0 = rw fails refl in
    omega (arith, none, size_where-le test items, sum_by-cons (size_if test) item items, sum_by-cons item_size item items)
beside test (item ∷ items) (suc k) d lt fails =
    omega (arith, size_if-le test item, beside test items k d (omega arith) fails, sum_by-cons (size_if test) item items, sum_by-cons item_size item items)

module _ (system : TaskSystem) (sys : KeepsLimits system) where
  all_outputs : sum_by (outputs_of system) (numbers_of system) ≤ most_total
  all_outputs =
      let whole : sum_by (outputs_of system) (numbers_of system) ≡ size_where (λ item. is_done_or false (λ _. true) item.from) system.items =
      swap (λ _. true) (λ i. i.from) (numbers_of system) system.items (λ i d lt u e. (let task = (sys.items i d lt).producer u e in once_in_range 1 (length system.tasks) u task.0 (omega (arith, task.1)))) in
      omega (arith, whole, size_where-le (λ item. is_done_or false (λ _. true) item.from) system.items, sys.total)

  all_taken_needs : sum_by (taken_need system) (numbers_of system) ≤ 2 ^ 61
  all_taken_needs =
      omega (
        arith,
        needs_within (taken_need system) (λ v. (task_at system v).extra) (outputs_of system) (λ v. omega arith) (λ v. extra_within system.tasks (v - 1) sys.tasks) (numbers_of system),
        all_outputs,
        length-range_with_len 1 (length system.tasks),
        sys.few_tasks,
      )

  pub need_within : (v : ℕ) → taken_need system v ≤ most_total
  need_within v = omega (arith, extra_among system.tasks (v - 1), size_where-le (is_output v) system.items, sys.total)

  -- with an item that is not among its outputs
  need_beside : (v k : ℕ) (d : Item) → k < length system.items → is_output v (get_or system.items k d) ≡ false → (get_or system.items k d).size + taken_need system v ≤ most_total
  need_beside v k d lt fails = omega (arith, extra_among system.tasks (v - 1), beside (is_output v) system.items k d lt fails, sys.total)

  module _ (order : List ℕ) (is : IsTraversal system order) where
    -- no task of a traversal consumes what it produces
    not_output : (v k : ℕ) (d : Item) → k < length system.items → (get_or system.items k d).to ≡ Some v → is_output v (get_or system.items k d) ≡ false
    not_output v k d lt to =
        let item = get_or system.items k d in
        let task : IsTask system v = (sys.items k d lt).consumer v to in
        let at = stands_split order v (stands_once order v (omega (arith, is.once v task))) in
        let ready = AllPass-from_list_all (λ i. not (is_input v i) || is_produced (stands_in at.0) i) system.items (is.after_suppliers at.0 at.1 v at.2) k d lt in
        let input : is_input v item ≡ true = ap (λ (o : Option ℕ). is_named o v) to ∙ eq-eqb v v refl in
        let produced : is_produced (stands_in at.0) item ≡ true = rw input at ready in
        other (stands_in at.0) item.from produced (not_before system order is at.0 at.1 v at.2)
      where
        other : (done : ℕ → Bool) (from : Option ℕ) → is_done_or true done from ≡ true → done v ≡ false → is_named from v ≡ false
        other done None produced fresh = refl
        other done (Some u) produced fresh =
            ⊎_elim (λ e. absurd (let same : done u ≡ done v = ap done (eqb-true u v e) in cc)) (λ n. n) (cases_Bool (eqb u v))

    module _ (bound : ℕ) (takings : List Taking) (are : AreTakings system order bound takings) where
      aimed : All (λ (t : Taking). IsTask system t.to) takings
      aimed k d lt = to_task system order is (get_or takings k d) (are.forward k d lt)

      amount_within : All (λ (t : Taking). t.amount ≤ most_amount) takings
      amount_within k d lt =
          let v = (get_or takings k d).to in
          omega (arith, to_among takings k d lt, are.taken v (aimed k d lt), need_within v)

      pub taken_within : sum_by taking_amount takings ≤ 2 ^ 61
      taken_within =
          let all = all_taken takings (numbers_of system) (λ k d lt. once_in_range 1 (length system.tasks) (get_or takings k d).to (aimed k d lt).0 (omega (arith, (aimed k d lt).1))) in
          omega (arith, all, sums_le (taken_by takings) (taken_need system) 1 (length system.tasks) (λ v least most. are.taken v (least, omega (arith, most))), all_taken_needs)

      own_within : (k : ℕ) → k < length system.items → get_or (handed_along system.items takings) k 0 ≤ most_amount
      own_within k lt = by_consumer (item_at system.items k).to refl
        where
          by_consumer : (to : Option ℕ) → (item_at system.items k).to ≡ to → get_or (handed_along system.items takings) k 0 ≤ most_amount
          by_consumer None is_to = omega (arith, along_only system.items takings k (record { size = 0; from = None; to = None }) lt are.carried is_to, (sys.items k (record { size = 0; from = None; to = None }) lt).size)
          by_consumer (Some v) is_to =
              let d : Item = record { size = 0; from = None; to = None } in
              omega (
                arith,
                along_high system.items takings k v d lt are.carried is_to,
                are.taken v ((sys.items k d lt).consumer v is_to),
                need_beside v k d lt (not_output v k d lt is_to),
              )

      all_long : length (amounts_for system.items takings) ≡ length (system.items ++ fence_items (fences_left takings))
      all_long = omega (
        arith,
        length-append (handed_along system.items takings) (map taking_amount (fences_left takings)),
        length-append system.items (fence_items (fences_left takings)),
        along_long system.items takings,
        length-map (fences_left takings) taking_amount,
        length-map (map fence_of (fences_left takings)) fence_item,
        length-map (fences_left takings) fence_of,
      )

      place_within : (place : ℕ) → 1 ≤ place → place ≤ length (system.items ++ fence_items (fences_left takings)) → place - 1 < length system.items + length (fences_left takings)
      place_within place least most = omega (
        arith,
        length-append system.items (fence_items (fences_left takings)),
        length-map (map fence_of (fences_left takings)) fence_item,
        length-map (fences_left takings) fence_of,
      )

      fits : (place : ℕ) → 1 ≤ place → place ≤ length (system.items ++ fence_items (fences_left takings)) → (test : AmountTest)
          → AmountPasses (with_fences system (map fence_of (fences_left takings))) (amounts_for system.items takings) test place
      fits place least most tests.Size =
          low_of_all system.items (handed_along system.items takings) (fences_left takings) (along_long system.items takings) (λ k d lt. along_low system.items takings k d lt)
          (place - 1) (record { size = 0; from = None; to = None }) (place_within place least most)
      fits place least most tests.Limit =
          high_of_all most_amount (handed_along system.items takings) (fences_left takings) (λ k lt. own_within k (omega (arith, lt, along_long system.items takings)))
          (All-filter is_fence (λ (t : Taking). t.amount ≤ most_amount) takings amount_within) (place - 1) (omega (arith, place_within place least most, along_long system.items takings))

      pub accepted : AreAccepted (with_fences system (map fence_of (fences_left takings))) (amounts_for system.items takings)
      accepted = record {
        long = all_long;
        fit = λ place at. fits place at.0 at.1;
        total = omega (
          arith,
          sum_by-append (λ (x : ℕ). x) (handed_along system.items takings) (map taking_amount (fences_left takings)),
          sum-map taking_amount (fences_left takings),
          along_sum system.items takings are.carried,
          taken_within,
          sys.total,
        );
      }
