-- The amounts after the last step are those of a least spill.
use Rattle.std.proofs.Common.{◌≡◌, ℕ, suc, ◌+◌, ◌-◌, ◌<◌, ◌≤◌, Bool, true, false, cond, refl, sym}
use Rattle.std.proofs.Common.{subst, ap, arith, ◌∙◌, List, [], ◌∷◌, length, map, get_or, None}
use Rattle.std.specs.Prelude.{sum, slice_index}
use Rattle.std.proofs.lemmas.Bool.{true≢false}
use Rattle.std.proofs.lemmas.List.Sums.{sum_by-cons}
use Rattle.limits.specs.Limits.{most_tasks}
use Rattle.mp_system.specs.declared.system.Item.{Item}
use Rattle.mp_system.specs.System.{TaskSystem, IsSystem}
use Rattle.mp_system.specs.Traversal.{IsTraversal}
use Rattle.spill_plan.specs.declared.span.Span.{Span}
use Rattle.spill_plan.specs.SpillPlans.{is_held, own_need, nth_item, sum_from, IsSpillPlan, most_among}
use Rattle.spill_plan.specs.SpillPlans.{plan_volume, plan_by_amounts, IsLeastSpill}
use Rattle.spill_plan.specs.declared.refusal.SpillRefusal.{SpillRefusal}
use Rattle.spill_plan.specs.declared.refusal.SpillRefusal.TheVariants.{Order, WorkingSet, NoMemory}
use Rattle.spill_plan.specs.Refusal.{IsSpillRefusal}
use Rattle.spill_plan.specs.Spilled.{IsOverNeed}
use Rattle.spill_plan.specs.Spans.{most_span_total, span_of, no_span, span_at, AreItemSpans, is_across}
use Rattle.spill_plan.specs.Spans.{IsSpanPlan, span_plan, IsSpilledAfter}
use Rattle.spill_plan.proofs.SpanSums.{split, across-yes, sum-le-all, sum-same-all, sum_from-sum_by}
use Rattle.spill_plan.proofs.Leads.{most_among-within}
use Rattle.spill_plan.proofs.Running.{run_plan, run_least}
use Rattle.spill_plan.proofs.ItemSpans.{held-across, get-map, spans-length, volume-same, to_spans, from_spans, item_spans}

-- a plan that says the same is one
pub plan_agrees : (xs : List Span) (steps : ℕ) (need other_need : ℕ → ℕ) (bound : ℕ) (plan other : ℕ → ℕ → ℕ)
    → ((k : ℕ) → k < steps → other_need k ≡ need k)
    → ((k i : ℕ) → k < steps → i < length xs → other k i ≡ plan k i) → IsSpanPlan xs steps need bound plan
    → IsSpanPlan xs steps other_need bound other
plan_agrees xs steps need other_need bound plan other needs same p = record {
  within = λ k i h l. omega (arith, same k i h l, p.within k i h l);
  absent = λ k i h l e. same k i h l ∙ p.absent k i h l e;
  fits = λ k h.
      let kept = sum-same-all (λ i x. cond (is_across k x) (x.size - other k i) 0) (λ i x. cond (is_across k x) (x.size - plan k i) 0) xs
      (λ i l. ap (λ n. cond (is_across k (get_or xs i no_span)) ((get_or xs i no_span).size - n) 0) (same k i h l)) in
      omega (arith, kept, needs k h, p.fits k h);
}

-- a sum of amounts is that of their list
pub sum_from-list : {X : Type 0} (f : ℕ → X → ℕ) (base : ℕ) (xs : List X) (amounts : List ℕ) → length amounts ≡ length xs
    → ((i : ℕ) → i < length xs → (d : X) → f (base + i) (get_or xs i d) ≡ get_or amounts i 0) → sum_from base f xs ≡ sum amounts
sum_from-list f base [] [] len each = refl
sum_from-list f base [] (a ∷ amounts) len each = absurd (omega arith)
sum_from-list f base (x ∷ xs) [] len each = absurd (omega arith)
sum_from-list f base (x ∷ xs) (a ∷ amounts) len each =
    let here : f base x ≡ a = subst (λ n. f n x ≡ a) (omega arith) (each 0 (omega arith) x) in
    let rest = sum_from-list f (suc base) xs amounts (omega arith)
    (λ i h d. subst (λ n. f n (get_or xs i d) ≡ get_or amounts i 0) (omega arith) (each (suc i) (omega arith) d)) in
    omega (arith, here, rest, sum_by-cons (λ n. n) a amounts)

pub sum_from-list-all : {X : Type 0} (xs : List X) (amounts : List ℕ) → length amounts ≡ length xs
    → sum_from 0 (λ i (x : X). get_or amounts i 0) xs ≡ sum amounts
sum_from-list-all {X} xs amounts len = sum_from-list (λ i (x : X). get_or amounts i 0) 0 xs amounts len
    (λ i h d. let e : 0 + i ≡ i = omega arith in ap (λ j. get_or amounts j 0) e)

-- amounts within the sizes are few
pub amounts_fit : (xs : List Span) (steps : ℕ) (amounts : List ℕ) → AreItemSpans xs steps → length amounts ≡ length xs
    → ((i : ℕ) → i < length xs → get_or amounts i 0 ≤ (span_at xs i).size)
    → sum amounts ≤ most_span_total
amounts_fit xs steps amounts spans len within =
    let less = sum-le-all (λ i x. get_or amounts i 0) (λ i x. x.size) xs within in
    omega (arith, less, sum_from-list-all xs amounts len, sum_from-sum_by (λ x. x.size) 0 xs, spans.total)

module _ (system : TaskSystem) (order : List ℕ) (within : IsSystem system) (traversal : IsTraversal system order)
    (few : length order ≤ most_tasks)
    (needs amounts : List ℕ) (bound : ℕ) (needs_are : (k : ℕ) → k < length order → get_or needs k 0 ≡ own_need system order k)
    (fit : (k : ℕ) → k < length order → get_or needs k 0 ≤ bound) (len : length amounts ≡ length system.items)
    (after : IsSpilledAfter (map (span_of order) system.items) (length order) (slice_index needs) bound (length order)
    (slice_index amounts)) where
  same_plan : (k i : ℕ) → k < length order → i < length (map (span_of order) system.items) → plan_by_amounts system order amounts k i
      ≡ span_plan (map (span_of order) system.items) (slice_index amounts) k i
  same_plan k i h l =
      let w : i < length system.items = omega (arith, spans-length system order) in
      ap (λ b. cond b (get_or amounts i 0) 0) (held-across order k (nth_item system i) h
      ∙ ap (is_across k) (sym (get-map order system.items i (record { size = 0; from = None; to = None }) w)))

  is_plan : IsSpillPlan system order bound (plan_by_amounts system order amounts)
  is_plan = from_spans system order bound (plan_by_amounts system order amounts)
      (plan_agrees (map (span_of order) system.items) (length order) (slice_index needs) (own_need system order) bound
      (span_plan (map (span_of order) system.items) (slice_index amounts)) (plan_by_amounts system order amounts)
      (λ k h. sym (needs_are k h)) same_plan (run_plan (map (span_of order) system.items) (length order) (slice_index needs) bound
      (slice_index amounts) fit after))

  no_less : (other : ℕ → ℕ → ℕ) → IsSpillPlan system order bound other → sum amounts ≤ plan_volume system order other
  no_less other p =
      let xs = map (span_of order) system.items in
      let q = plan_agrees xs (length order) (own_need system order) (slice_index needs) bound other other needs_are (λ k i h l. refl)
      (to_spans system order bound other p) in
      let low = run_least xs (length order) (slice_index needs) bound (slice_index amounts)
      (item_spans system order within traversal few) after other q in
      omega (arith, low, volume-same system order other, sum_from-list-all xs amounts (omega (arith, len, spans-length system order)))

  stays_idle : (i : ℕ) → i < length system.items → ((step : ℕ) → step < length order → is_held order step (nth_item system i) ≡ false)
      → get_or amounts i 0 ≡ 0
  stays_idle i h nowhere =
      let xs = map (span_of order) system.items in
      let w : i < length xs = omega (arith, spans-length system order) in
      let x = span_at xs i in
      let is = get-map order system.items i (record { size = 0; from = None; to = None }) h in
      split x.end x.start
      (λ none. after.idle i w none)
      (λ some. absurd (
      let k : x.start < length order = omega (arith, (item_spans system order within traversal few).ends i w) in
      true≢false (sym (across-yes x.start x (omega arith) some) ∙ ap (is_across x.start) is
      ∙ sym (held-across order x.start (nth_item system i) k) ∙ nowhere x.start k)))

  pub least_spill : (volume : ℕ) → volume ≡ sum amounts → IsLeastSpill system order bound amounts volume
  least_spill volume is = record {
    len = len;
    plan = is_plan;
    volume_is = is;
    idle = stays_idle;
    least = λ other p. omega (arith, is, no_less other p);
  }

-- the same of lists that are equal to these
pub least_of_run : (system : TaskSystem) (order : List ℕ) → IsSystem system → IsTraversal system order → length order ≤ most_tasks
    → (bound : ℕ) (xs : List Span) (needs amounts : List ℕ)
    → xs ≡ map (span_of order) system.items → length needs ≡ length order
    → ((k : ℕ) → k < length order → get_or needs k 0 ≡ own_need system order k)
    → ((k : ℕ) → k < length needs → get_or needs k 0 ≤ bound) → length amounts ≡ length xs
    → IsSpilledAfter xs (length needs) (slice_index needs) bound (length needs) (slice_index amounts) → (volume : ℕ) → volume
    ≡ sum amounts → IsLeastSpill system order bound amounts volume
least_of_run system order within traversal few bound xs needs amounts same long needs_are fit len after volume is =
    let now = subst (λ n. IsSpilledAfter (map (span_of order) system.items) n (slice_index needs) bound n (slice_index amounts)) long
    (subst (λ (ys : List Span). IsSpilledAfter ys (length needs) (slice_index needs) bound (length needs) (slice_index amounts)) same
    after) in
    least_spill system order within traversal few needs amounts bound needs_are (λ k h. fit k (omega arith))
    (omega (arith, len, ap length same, spans-length system order)) now volume is

-- a step that needs more for itself than the bound is refused as such
pub over_need : (system : TaskSystem) (order : List ℕ) → IsTraversal system order → (bound : ℕ) (needs : List ℕ) → length needs
    ≡ length order
    → ((k : ℕ) → k < length order → get_or needs k 0 ≡ own_need system order k) → (refusal : SpillRefusal)
    → IsOverNeed needs bound refusal → IsSpillRefusal system order bound refusal
over_need system order traversal bound needs long needs_are (Order fault) over = absurd over
over_need system order traversal bound needs long needs_are (WorkingSet step need stated) over = (
  traversal,
  record {
    positive = over.0;
    within = omega (arith, over.1);
    need_is = omega (arith, over.2, needs_are (step - 1) (omega (arith, over.0, over.1)));
    passes = over.3;
    first = λ earlier h. omega (arith, over.4 earlier h, needs_are earlier (omega (arith, over.1)));
  },
  over.5,
)
over_need system order traversal bound needs long needs_are NoMemory over = absurd over

-- ---- two least spills have one volume

pub cond_le : (b : Bool) (n : ℕ) → cond b n 0 ≤ n
cond_le true n = omega arith
cond_le false n = omega arith

pub sum_from-le : {X : Type 0} (f g : ℕ → X → ℕ) (base : ℕ) (xs : List X) → ((i : ℕ) (x : X) → f i x ≤ g i x)
    → sum_from base f xs ≤ sum_from base g xs
sum_from-le f g base [] each = omega arith
sum_from-le f g base (x ∷ xs) each = omega (arith, each base x, sum_from-le f g (suc base) xs each)

-- amounts that make a plan come to no less than its volume
pub plan_volume-le : (system : TaskSystem) (order amounts : List ℕ) → length amounts ≡ length system.items
    → plan_volume system order (plan_by_amounts system order amounts) ≤ sum amounts
plan_volume-le system order amounts len =
    let plan = plan_by_amounts system order amounts in
    let each = sum_from-le (λ i (item : Item). most_among (length order) (λ k. plan k i)) (λ i item. get_or amounts i 0) 0 system.items
    (λ i item. most_among-within (length order) (get_or amounts i 0) (λ k. plan k i)
    (λ k h. cond_le (is_held order k (nth_item system i)) (get_or amounts i 0))) in
    omega (arith, each, sum_from-list-all system.items amounts len)

pub one_volume : (system : TaskSystem) (order : List ℕ) (bound : ℕ) (amounts others : List ℕ) (volume other : ℕ)
    → IsLeastSpill system order bound amounts volume → IsLeastSpill system order bound others other → volume ≡ other
one_volume system order bound amounts others volume other one two =
    omega (
      arith,
      one.least (plan_by_amounts system order others) two.plan,
      plan_volume-le system order others two.len,
      two.volume_is,
      two.least (plan_by_amounts system order amounts) one.plan,
      plan_volume-le system order amounts one.len,
      one.volume_is,
    )
