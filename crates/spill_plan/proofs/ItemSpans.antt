-- A spill plan of a system is one of its items' spans.
use Rattle.std.proofs.Common.{◌≡◌, ℕ, zero, suc, ◌+◌, ◌-◌, ◌<◌, ◌≤◌, inl, inr, true, false, cond, not, refl, sym, subst}
use Rattle.std.proofs.Common.{ap, arith, ◌∙◌, List, [], ◌∷◌, length, take, map, get_or, Option, Some, None}
use Rattle.std.specs.Prelude.{◌==◌, nat_lt, nat_le, ◌&&◌}
use Rattle.std.specs.List.{sum_by}
use Rattle.std.specs.Option.{ForSome, option_map_or}
use Rattle.std.proofs.lemmas.Bool.{cases_eq, eq-eqb, ne_eqb}
use Rattle.std.proofs.lemmas.List.{length-map}
use Rattle.std.proofs.lemmas.List.Elements.{All-get_or}
use Rattle.std.proofs.lemmas.List.Sums.{sum_by-cons}
use Rattle.limits.specs.Limits.{most_tasks}
use Rattle.mp_system.specs.declared.system.Item.{Item}
use Rattle.mp_system.specs.System.{TaskSystem, IsSystem, IsTask, IsItemWithin, is_named, is_input}
use Rattle.mp_system.specs.System.{is_output, inputs_of, outputs_of, size_if, item_size}
use Rattle.mp_system.specs.Memory.{stands_in, is_done_or}
use Rattle.mp_system.specs.Traversal.{IsTraversal}
use Rattle.spill_plan.specs.declared.span.Span.{Span}
use Rattle.spill_plan.specs.SpillPlans.{is_held, own_need, sum_from, kept_across, IsSpillPlan, most_among, plan_volume}
use Rattle.spill_plan.specs.Steps.{step_of}
use Rattle.spill_plan.specs.Spans.{IsStepTable, IsInTable, start_of_item, end_of_item, span_of, no_span}
use Rattle.spill_plan.specs.Spans.{AreItemSpans, is_across, start_sum, end_sum, kept_at, IsSpanPlan, span_volume}
use Rattle.spill_plan.proofs.OrderSteps.{stands-take, each_once, task_step, step_of_task, produced_before}

pub lt-le : (m n : ℕ) → nat_lt m n ≡ nat_le (suc m) n
lt-le m n = grind arith

not-lt : (m n : ℕ) → not (nat_lt m (suc n)) ≡ nat_lt n m
not-lt m n = grind arith

pub lt-true : (m n : ℕ) → m < n → true ≡ nat_lt m n
lt-true m n h = grind arith

le-zero : (n : ℕ) → true ≡ nat_le 0 n
le-zero n = grind arith

pub from-same : (order : List ℕ) (k : ℕ) (o : Option ℕ) → k < length order → is_done_or true (stands_in (take k order)) o
    ≡ nat_le (start_of_item order o) k
from-same order k None h = le-zero k
from-same order k (Some u) h = stands-take order u k (omega arith) ∙ lt-le (step_of order u) k

to-same : (order : List ℕ) (k : ℕ) (o : Option ℕ) → k < length order → not (is_done_or false (stands_in (take (suc k) order)) o)
    ≡ nat_lt k (end_of_item order o)
to-same order k None h = lt-true k (length order) h
to-same order k (Some w) h = ap not (stands-take order w (suc k) (omega arith)) ∙ not-lt (step_of order w) k

pub held-across : (order : List ℕ) (k : ℕ) (item : Item) → k < length order → is_held order k item ≡ is_across k (span_of order item)
held-across order k item h = λ i. from-same order k item.from h i && to-same order k item.to h i

pub sum_from-map : {X : Type 0} (f : ℕ → X → ℕ) (g : ℕ → Span → ℕ) (to : X → Span) → ((i : ℕ) (x : X) → f i x ≡ g i (to x))
    → (base : ℕ) (items : List X) → sum_from base f items ≡ sum_from base g (map to items)
sum_from-map f g to each base [] = refl
sum_from-map f g to each base (x ∷ items) = omega (arith, each base x, sum_from-map f g to each (suc base) items)

pub get-map : (order : List ℕ) (items : List Item) (i : ℕ) (d : Item) → i < length items → get_or (map (span_of order) items) i no_span
    ≡ span_of order (get_or items i d)
get-map order [] i d h = absurd (omega arith)
get-map order (x ∷ items) zero d h = refl
get-map order (x ∷ items) (suc i) d h = get-map order items i d (omega arith)

abbrev no_item : Item
no_item = record { size = 0; from = None; to = None }

module _ (system : TaskSystem) (order : List ℕ) where
  abbrev spans : List Span
  spans = map (span_of order) system.items

  pub spans-length : length spans ≡ length system.items
  spans-length = simp length-map

  pub kept-same : (k : ℕ) (amount : ℕ → ℕ) → k < length order → kept_across system order k amount ≡ kept_at k amount spans
  kept-same k amount h =
      sum_from-map (λ i (x : Item). cond (is_held order k x) (x.size - amount i) 0) (λ i x. cond (is_across k x) (x.size - amount i) 0)
      (span_of order)
      (λ i x. ap (λ b. cond b (x.size - amount i) 0) (held-across order k x h)) 0 system.items

  pub volume-same : (plan : ℕ → ℕ → ℕ) → plan_volume system order plan ≡ span_volume (length order) plan spans
  volume-same plan = sum_from-map (λ i (x : Item). most_among (length order) (λ k. plan k i)) (λ i x. most_among (length order) (λ k. plan k i))
      (span_of order) (λ i x. refl) 0 system.items

  pub to_spans : (bound : ℕ) (plan : ℕ → ℕ → ℕ) → IsSpillPlan system order bound plan
      → IsSpanPlan spans (length order) (own_need system order) bound plan
  to_spans bound plan p = record {
    within = λ k i h l. let l' : i < length system.items = omega (arith, spans-length) in subst (λ (s : Span). plan k i ≤ s.size)
        (sym (get-map order system.items i no_item l')) (p.within k i h l');
    absent = λ k i h l e. let l' : i < length system.items = omega (arith, spans-length) in
        p.absent k i h l' (held-across order k (get_or system.items i no_item) h
        ∙ subst (λ (s : Span). is_across k s ≡ false) (get-map order system.items i no_item l') e);
    fits = λ k h. omega (arith, kept-same k (plan k) h, p.fits k h);
  }

  pub from_spans : (bound : ℕ) (plan : ℕ → ℕ → ℕ) → IsSpanPlan spans (length order) (own_need system order) bound plan
      → IsSpillPlan system order bound plan
  from_spans bound plan p = record {
    within = λ k i h l. let l' : i < length spans = omega (arith, spans-length) in subst (λ (s : Span). plan k i ≤ s.size)
        (get-map order system.items i no_item l) (p.within k i h l');
    absent = λ k i h l e. let l' : i < length spans = omega (arith, spans-length) in
        p.absent k i h l' (subst (λ (s : Span). is_across k s ≡ false) (sym (get-map order system.items i no_item l))
        (sym (held-across order k (get_or system.items i no_item) h) ∙ e));
    fits = λ k h. omega (arith, kept-same k (plan k) h, p.fits k h);
  }

-- ---- in a traversal

sum_by-map : (f : Span → ℕ) (g : Item → ℕ) (to : Item → Span) (items : List Item)
    → ((i : ℕ) (d : Item) → i < length items → f (to (get_or items i d)) ≡ g (get_or items i d)) → sum_by f (map to items)
    ≡ sum_by g items
sum_by-map f g to [] each = refl
sum_by-map f g to (x ∷ items) each =
    omega (
      arith,
      sum_by-cons f (to x) (map to items),
      sum_by-cons g x items,
      each 0 x (omega arith),
      sum_by-map f g to items
          (λ i d h. each (suc i) d (omega arith)),
    )

module _ (system : TaskSystem) (order : List ℕ) (within : IsSystem system) (traversal : IsTraversal system order) where
  placed : (v : ℕ) → IsTask system v → (step_of order v < length order) × (get_or order (step_of order v) 0 ≡ v)
  placed v task = task_step (length system.tasks) order (each_once system order traversal) v task

  placed_only : (v k : ℕ) → IsTask system v → k < length order → get_or order k 0 ≡ v → step_of order v ≡ k
  placed_only v k task h e = step_of_task (length system.tasks) order (each_once system order traversal) v k task h e

  pub producer : (i : ℕ) (d : Item) → i < length system.items → ForSome (get_or system.items i d).from (IsTask system)
  producer i d h = (All-get_or (IsItemWithin system) system.items i d h within.items).producer

  pub consumer : (i : ℕ) (d : Item) → i < length system.items → ForSome (get_or system.items i d).to (IsTask system)
  consumer i d h = (All-get_or (IsItemWithin system) system.items i d h within.items).consumer

  -- an item that a task consumes ends at the task's step
  ends_at_step : (k : ℕ) (o : Option ℕ) → k < length order → ForSome o (IsTask system) → (end_of_item order o == k)
      ≡ is_named o (get_or order k 0)
  ends_at_step k None h task = ne_eqb (length order) k (λ e. omega arith)
  ends_at_step k (Some w) h task = elim (cases_eq w (get_or order k 0)) [
    | inl same ↦ eq-eqb (step_of order w) k (placed_only w k (task w refl) h (sym same))
        ∙ sym (eq-eqb w (get_or order k 0) same)
    | inr other ↦ ne_eqb (step_of order w) k
        (λ e. other (sym (placed w (task w refl)).1 ∙ ap (λ j. get_or order j 0) e))
        ∙ sym (ne_eqb w (get_or order k 0) other)
  ]

  -- one that it produces starts a step later
  starts_after_step : (k : ℕ) (o : Option ℕ) → k < length order → ForSome o (IsTask system) → (start_of_item order o == k + 1)
      ≡ is_named o (get_or order k 0)
  starts_after_step k None h task = ne_eqb 0 (k + 1) (λ e. omega arith)
  starts_after_step k (Some u) h task = elim (cases_eq u (get_or order k 0)) [
    | inl same ↦ eq-eqb (suc (step_of order u)) (k + 1)
        (omega (arith, placed_only u k (task u refl) h (sym same))) ∙ sym (eq-eqb u (get_or order k 0) same)
    | inr other ↦ ne_eqb (suc (step_of order u)) (k + 1)
        (λ e. let same : step_of order u ≡ k = omega arith in other
        (sym (placed u (task u refl)).1 ∙ ap (λ j. get_or order j 0) same))
        ∙ sym (ne_eqb u (get_or order k 0) other)
  ]

  pub end_sum-inputs : (k : ℕ) → k < length order → end_sum k (map (span_of order) system.items) ≡ inputs_of system (get_or order k 0)
  end_sum-inputs k h = sum_by-map (λ x. cond (x.end == k) x.size 0) (size_if (is_input (get_or order k 0))) (span_of order) system.items
      (λ i d l. ap (λ b. cond b (get_or system.items i d).size 0) (ends_at_step k (get_or system.items i d).to h (consumer i d l)))

  pub start_sum-outputs : (k : ℕ) → k < length order → start_sum (k + 1) (map (span_of order) system.items)
      ≡ outputs_of system (get_or order k 0)
  start_sum-outputs k h = sum_by-map (λ x. cond (x.start == k + 1) x.size 0) (size_if (is_output (get_or order k 0)))
      (span_of order) system.items
      (λ i d l. ap (λ b. cond b (get_or system.items i d).size 0) (starts_after_step k (get_or system.items i d).from h (producer i d l)))

  -- an item's span by the table of steps
  module _ (steps : List ℕ) (are : IsStepTable (length system.tasks) order steps) where
    pub in_table : (o : Option ℕ) → ForSome o (IsTask system) → ForSome o (IsInTable steps)
    in_table o tasks task is =
        let t = tasks task is in
        (t.0, omega (arith, t.1, are.len), omega (arith, are.each task t, (placed task t).0, are.few))

    pub start_read : (o : Option ℕ) → ForSome o (IsTask system) → option_map_or (λ task. get_or steps (task - 1) 0 + 1) o 0
        ≡ start_of_item order o
    start_read None tasks = refl
    start_read (Some u) tasks = omega (arith, are.each u (tasks u refl))

    pub end_read : (o : Option ℕ) → ForSome o (IsTask system) → option_map_or (λ task. get_or steps (task - 1) 0) o (length order)
        ≡ end_of_item order o
    end_read None tasks = refl
    end_read (Some w) tasks = are.each w (tasks w refl)

  pub end_within : (o : Option ℕ) → ForSome o (IsTask system) → end_of_item order o ≤ length order
  end_within None task = omega arith
  end_within (Some w) task = omega (arith, (placed w (task w refl)).0)

  pub start_within : (o : Option ℕ) → ForSome o (IsTask system) → start_of_item order o ≤ length order
  start_within None task = omega arith
  start_within (Some u) task = omega (arith, (placed u (task u refl)).0)

  rises : (i : ℕ) (d : Item) → i < length system.items → start_of_item order (get_or system.items i d).from
      ≤ end_of_item order (get_or system.items i d).to
  rises i d h = go (get_or system.items i d).from (get_or system.items i d).to refl refl
    where
      go : (from to : Option ℕ) → (get_or system.items i d).from ≡ from → (get_or system.items i d).to ≡ to → start_of_item order from
          ≤ end_of_item order to
      go None to e f = omega arith
      go (Some u) None e f = start_within (Some u) (subst (λ o. ForSome o (IsTask system)) e (producer i d h))
      go (Some u) (Some w) e f = omega (
        arith,
        produced_before system order traversal i d u w h e f
            (subst (λ o. ForSome o (IsTask system)) f (consumer i d h) w refl),
      )

  pub item_spans : length order ≤ most_tasks → AreItemSpans (map (span_of order) system.items) (length order)
  item_spans few =
      let long = spans-length system order in
      record {
        few = omega (arith, long, within.few_items);
        steps_few = few;
        ordered = λ i h. let l : i < length system.items = omega (arith, long) in rw (get-map order system.items i no_item l)
            (rises i no_item l);
        ends = λ i h. let l : i < length system.items = omega (arith, long) in rw (get-map order system.items i no_item l)
            (end_within (get_or system.items i no_item).to (consumer i no_item l));
        total = omega (arith, within.total, sum_by-map (λ x. x.size) item_size (span_of order) system.items (λ i d h. refl));
      }
