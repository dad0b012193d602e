-- Where each item has at most one reader its one gap is the item, across the same steps, and a least spill of the one is one of the other.
use Rattle.std.proofs.Common.{◌≡◌, ℕ, suc, ◌<◌, cond, refl, sym, subst, ap, arith, ◌∙◌}
use Rattle.std.proofs.Common.{List, [], ◌∷◌, ◌++◌, length, map, get_or, Option, Some, None}
use Rattle.std.specs.Prelude.{◌==◌}
use Rattle.std.specs.List.{flat_map, list_any}
use Rattle.std.proofs.lemmas.List.{map-append}
use Rattle.mp_system.specs.declared.system.Item.{Item}
use Rattle.mp_system.specs.System.{TaskSystem, is_named, is_input}
use Rattle.shared_systems.specs.Shared.{SharedTaskSystem, SharedItem, is_read_by}
use Rattle.shared_systems.specs.OneReader.{readers_of, shared_item_of, shared_of}
use Rattle.shared_systems.proofs.SameSystems.{own_need_same}
use Rattle.shared_systems.proofs.OneReader.{where_same}
use Rattle.lists.proofs.Bools.{or_false}
use Rattle.spill_plan.specs.declared.span.Span.{Span}
use Rattle.spill_plan.specs.Steps.{step_of}
use Rattle.spill_plan.specs.SpillPlans.{is_held, own_need, nth_item, IsSpillPlan, plan_volume, plan_by_amounts, IsLeastSpill}
use Rattle.spill_plan.specs.Gaps.{gaps_to, gaps_of_item, gaps_of, nth_gap, is_across_gap, own_gap_need}
use Rattle.spill_plan.specs.Gaps.{IsGapPlan, gap_volume, gap_plan_by_amounts, IsLeastGapSpill}
use Rattle.spill_plan.specs.GapSpans.{start_of_gap, gap_span}
use Rattle.spill_plan.specs.Spans.{start_of_item, end_of_item, span_of, no_span, is_across, IsSpanPlan, span_volume}
use Rattle.spill_plan.proofs.SpanSums.{lt-no}
use Rattle.spill_plan.proofs.ItemSpans as items
use Rattle.spill_plan.proofs.LeastGaps as gaps
use Rattle.spill_plan.proofs.LeastAmounts.{plan_agrees}

-- ---- the spans are the same

one-gap : (x : SharedItem) (to : Option ℕ) → gaps_to x (readers_of to) ≡ record { item = x; reader = to } ∷ []
one-gap x None = refl
one-gap x (Some w) = refl

one-start : (order : List ℕ) (size : ℕ) (from to : Option ℕ)
    → start_of_gap order (record { size = size; from = from; readers = readers_of to }) to ≡ start_of_item order from
one-start order size from None = refl
one-start order size from (Some w) = omega (arith, lt-no (step_of order w) (step_of order w) (suc (step_of order w)) (omega arith))

one-span : (order : List ℕ) (x : Item) → gap_span order (record { item = shared_item_of x; reader = x.to }) ≡ span_of order x
one-span order x = λ i. record { size = x.size; start = one-start order x.size x.from x.to i; end = end_of_item order x.to }

one-item : (order : List ℕ) (x : Item) → map (gap_span order) (gaps_of_item (shared_item_of x)) ≡ span_of order x ∷ []
one-item order x = ap (map (gap_span order)) (one-gap (shared_item_of x) x.to) ∙ ap (λ (s : Span). s ∷ []) (one-span order x)

one-spans : (order : List ℕ) (xs : List Item)
    → map (gap_span order) (flat_map gaps_of_item (map shared_item_of xs)) ≡ map (span_of order) xs
one-spans order [] = refl
one-spans order (x ∷ xs) = map-append (gap_span order) (gaps_of_item (shared_item_of x)) (flat_map gaps_of_item (map shared_item_of xs))
    ∙ (λ i. one-item order x i ++ one-spans order xs i)

-- ---- the needs are the same

read-one : (v : ℕ) (to : Option ℕ) → list_any (λ c. c == v) (readers_of to) ≡ is_named to v
read-one v None = refl
read-one v (Some c) = or_false (c == v)

needs-same : (system : TaskSystem) (order : List ℕ) (k : ℕ) → own_gap_need (shared_of system) order k ≡ own_need system order k
needs-same system order k =
    let v = get_or order k 0 in
    omega (
      arith,
      where_same (is_read_by v) (is_input v) (λ x. read-one v x.to) system.items,
      own_need_same system v,
    )

-- ---- the plans are the same

module _ (system : TaskSystem) (order : List ℕ) where
  abbrev shared : SharedTaskSystem
  shared = shared_of system

  spans-same : map (gap_span order) (gaps_of shared) ≡ map (span_of order) system.items
  spans-same = one-spans order system.items

  length-same : length (gaps_of shared) ≡ length system.items
  length-same = omega (arith, gaps.gaps-length shared order, items.spans-length system order, ap length spans-same)

  across-same : (k i : ℕ) → k < length order → i < length system.items
      → is_across_gap order k (nth_gap shared i) ≡ is_held order k (nth_item system i)
  across-same k i h l =
      gaps.across shared order k (nth_gap shared i) h
      ∙ ap (is_across k) (sym (gaps.get-gap order (gaps_of shared) i (omega (arith, length-same)))
      ∙ ap (λ (xs : List Span). get_or xs i no_span) spans-same
      ∙ items.get-map order system.items i (record { size = 0; from = None; to = None }) l)
      ∙ sym (items.held-across order k (nth_item system i) h)

  volumes-same : (plan : ℕ → ℕ → ℕ) → gap_volume shared order plan ≡ plan_volume system order plan
  volumes-same plan =
      gaps.volume-same shared order plan ∙ ap (span_volume (length order) plan) spans-same ∙ sym (items.volume-same system order plan)

  -- the same plan, or one that says the same
  plan-to : (bound : ℕ) (plan other : ℕ → ℕ → ℕ)
      → ((k i : ℕ) → k < length order → i < length system.items → other k i ≡ plan k i)
      → IsGapPlan shared order bound plan → IsSpillPlan system order bound other
  plan-to bound plan other same p = items.from_spans system order bound other
      (plan_agrees (map (span_of order) system.items) (length order) (own_gap_need shared order) (own_need system order) bound plan other
      (λ k h. sym (needs-same system order k)) (λ k i h l. same k i h (omega (arith, items.spans-length system order)))
      (subst (λ (xs : List Span). IsSpanPlan xs (length order) (own_gap_need shared order) bound plan) spans-same
      (gaps.to_spans shared order bound plan p)))

  plan-from : (bound : ℕ) (plan other : ℕ → ℕ → ℕ)
      → ((k i : ℕ) → k < length order → i < length system.items → other k i ≡ plan k i)
      → IsSpillPlan system order bound plan → IsGapPlan shared order bound other
  plan-from bound plan other same p = gaps.from_spans shared order bound other
      (plan_agrees (map (gap_span order) (gaps_of shared)) (length order) (own_need system order) (own_gap_need shared order) bound
      plan other (λ k h. needs-same system order k)
      (λ k i h l. same k i h (omega (arith, length-same, gaps.gaps-length shared order)))
      (subst (λ (xs : List Span). IsSpanPlan xs (length order) (own_need system order) bound plan) (sym spans-same)
      (items.to_spans system order bound plan p)))

  amounts-same : (amounts : List ℕ) (k i : ℕ) → k < length order → i < length system.items
      → plan_by_amounts system order amounts k i ≡ gap_plan_by_amounts shared order amounts k i
  amounts-same amounts k i h l = ap (λ b. cond b (get_or amounts i 0) 0) (sym (across-same k i h l))

  pub to-least : (bound : ℕ) (amounts : List ℕ) (volume : ℕ)
      → IsLeastGapSpill shared order bound amounts volume → IsLeastSpill system order bound amounts volume
  to-least bound amounts volume g = record {
    len = g.len ∙ length-same;
    plan = plan-to bound (gap_plan_by_amounts shared order amounts) (plan_by_amounts system order amounts) (amounts-same amounts) g.plan;
    volume_is = g.volume_is;
    idle = λ i h nowhere. g.idle i (omega (arith, length-same)) (λ k l. across-same k i l h ∙ nowhere k l);
    least = λ other p. omega (arith, g.least other (plan-from bound other other (λ k i h l. refl) p), volumes-same other);
  }

  pub from-least : (bound : ℕ) (amounts : List ℕ) (volume : ℕ)
      → IsLeastSpill system order bound amounts volume → IsLeastGapSpill shared order bound amounts volume
  from-least bound amounts volume s = record {
    len = s.len ∙ sym length-same;
    plan = plan-from bound (plan_by_amounts system order amounts) (gap_plan_by_amounts shared order amounts)
        (λ k i h l. sym (amounts-same amounts k i h l)) s.plan;
    volume_is = s.volume_is;
    idle = λ i h nowhere. let l : i < length system.items = omega (arith, length-same) in
        s.idle i l (λ k h. sym (across-same k i h l) ∙ nowhere k h);
    least = λ other p. omega (arith, s.least other (plan-to bound other other (λ k i h l. refl) p), volumes-same other);
  }
