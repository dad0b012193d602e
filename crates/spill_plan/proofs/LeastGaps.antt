-- A spill plan of gaps is one of their spans, and the amounts after the last step are those of a least spill.
use Rattle.std.proofs.Common.{◌≡◌, ℕ, zero, suc, ◌-◌, ◌<◌, ◌≤◌, false, cond, refl, sym}
use Rattle.std.proofs.Common.{subst, ap, arith, ◌∙◌, List, [], ◌∷◌, length, map, get_or, None}
use Rattle.std.specs.Prelude.{sum, slice_index}
use Rattle.std.proofs.lemmas.Bool.{true≢false}
use Rattle.std.proofs.lemmas.List.{length-map}
use Rattle.limits.specs.Limits.{most_tasks}
use Rattle.shared_systems.specs.Shared.{SharedTaskSystem}
use Rattle.shared_systems.specs.SharedTraversal.{IsSharedTraversal}
use Rattle.shared_systems.specs.Bounds.{IsSharedSystem}
use Rattle.spill_plan.specs.declared.span.Span.{Span}
use Rattle.spill_plan.specs.declared.refusal.SpillRefusal.{SpillRefusal}
use Rattle.spill_plan.specs.declared.refusal.SpillRefusal.TheVariants.{Order, WorkingSet, NoMemory}
use Rattle.spill_plan.specs.SpillPlans.{most_among}
use Rattle.spill_plan.specs.Gaps.{Gap, gaps_of, nth_gap, is_across_gap, own_gap_need, gap_kept, IsGapPlan, gap_volume}
use Rattle.spill_plan.specs.Gaps.{gap_plan_by_amounts, IsLeastGapSpill}
use Rattle.spill_plan.specs.GapSpans.{gap_span}
use Rattle.spill_plan.specs.Refusal.{IsGapRefusal}
use Rattle.spill_plan.specs.Spilled.{IsOverNeed}
use Rattle.spill_plan.specs.Spans.{no_span, span_at, is_across, kept_at, IsSpanPlan, span_volume, span_plan, IsSpilledAfter}
use Rattle.spill_plan.proofs.SpanSums.{split, across-yes}
use Rattle.spill_plan.proofs.Leads.{most_among-within}
use Rattle.spill_plan.proofs.Running.{run_plan, run_least}
use Rattle.spill_plan.proofs.ItemSpans.{sum_from-map}
use Rattle.spill_plan.proofs.GapSpans.{gap-across, gap_item_spans}
use Rattle.spill_plan.proofs.LeastAmounts.{plan_agrees, sum_from-list-all, cond_le, sum_from-le}

abbrev no_gap : Gap
no_gap = record { item = record { size = 0; from = None; readers = [] }; reader = None }

pub get-gap : (order : List ℕ) (gaps : List Gap) (i : ℕ) → i < length gaps
    → get_or (map (gap_span order) gaps) i no_span ≡ gap_span order (get_or gaps i no_gap)
get-gap order [] i h = absurd (omega arith)
get-gap order (x ∷ gaps) zero h = refl
get-gap order (x ∷ gaps) (suc i) h = get-gap order gaps i (omega arith)

module _ (system : SharedTaskSystem) (order : List ℕ) where
  abbrev spans : List Span
  spans = map (gap_span order) (gaps_of system)

  pub gaps-length : length spans ≡ length (gaps_of system)
  gaps-length = simp length-map

  pub across : (k : ℕ) (g : Gap) → k < length order → is_across_gap order k g ≡ is_across k (gap_span order g)
  across k g h = gap-across order k g.item g.reader h

  kept-same : (k : ℕ) (amount : ℕ → ℕ) → k < length order → gap_kept system order k amount ≡ kept_at k amount spans
  kept-same k amount h =
      sum_from-map (λ i (g : Gap). cond (is_across_gap order k g) (g.item.size - amount i) 0)
      (λ i x. cond (is_across k x) (x.size - amount i) 0) (gap_span order)
      (λ i g. ap (λ b. cond b (g.item.size - amount i) 0) (across k g h)) 0 (gaps_of system)

  pub volume-same : (plan : ℕ → ℕ → ℕ) → gap_volume system order plan ≡ span_volume (length order) plan spans
  volume-same plan = sum_from-map (λ i (g : Gap). most_among (length order) (λ k. plan k i))
      (λ i x. most_among (length order) (λ k. plan k i)) (gap_span order) (λ i g. refl) 0 (gaps_of system)

  pub to_spans : (bound : ℕ) (plan : ℕ → ℕ → ℕ) → IsGapPlan system order bound plan
      → IsSpanPlan spans (length order) (own_gap_need system order) bound plan
  to_spans bound plan p = record {
    within = λ k i h l. let l' : i < length (gaps_of system) = omega (arith, gaps-length) in subst (λ (s : Span). plan k i ≤ s.size)
        (sym (get-gap order (gaps_of system) i l')) (p.within k i h l');
    absent = λ k i h l e. let l' : i < length (gaps_of system) = omega (arith, gaps-length) in
        p.absent k i h l' (across k (nth_gap system i) h
        ∙ subst (λ (s : Span). is_across k s ≡ false) (get-gap order (gaps_of system) i l') e);
    fits = λ k h. omega (arith, kept-same k (plan k) h, p.fits k h);
  }

  pub from_spans : (bound : ℕ) (plan : ℕ → ℕ → ℕ) → IsSpanPlan spans (length order) (own_gap_need system order) bound plan
      → IsGapPlan system order bound plan
  from_spans bound plan p = record {
    within = λ k i h l. let l' : i < length spans = omega (arith, gaps-length) in subst (λ (s : Span). plan k i ≤ s.size)
        (get-gap order (gaps_of system) i l) (p.within k i h l');
    absent = λ k i h l e. let l' : i < length spans = omega (arith, gaps-length) in
        p.absent k i h l' (subst (λ (s : Span). is_across k s ≡ false) (sym (get-gap order (gaps_of system) i l))
        (sym (across k (nth_gap system i) h) ∙ e));
    fits = λ k h. omega (arith, kept-same k (plan k) h, p.fits k h);
  }

module _ (system : SharedTaskSystem) (order : List ℕ) (within : IsSharedSystem system) (traversal : IsSharedTraversal system order)
    (few : length order ≤ most_tasks)
    (needs amounts : List ℕ) (bound : ℕ) (needs_are : (k : ℕ) → k < length order → get_or needs k 0 ≡ own_gap_need system order k)
    (fit : (k : ℕ) → k < length order → get_or needs k 0 ≤ bound) (len : length amounts ≡ length (gaps_of system))
    (after : IsSpilledAfter (map (gap_span order) (gaps_of system)) (length order) (slice_index needs) bound (length order)
    (slice_index amounts)) where
  same_plan : (k i : ℕ) → k < length order → i < length (map (gap_span order) (gaps_of system))
      → gap_plan_by_amounts system order amounts k i ≡ span_plan (map (gap_span order) (gaps_of system)) (slice_index amounts) k i
  same_plan k i h l =
      let w : i < length (gaps_of system) = omega (arith, gaps-length system order) in
      ap (λ b. cond b (get_or amounts i 0) 0) (across system order k (nth_gap system i) h
      ∙ ap (is_across k) (sym (get-gap order (gaps_of system) i w)))

  is_plan : IsGapPlan system order bound (gap_plan_by_amounts system order amounts)
  is_plan = from_spans system order bound (gap_plan_by_amounts system order amounts)
      (plan_agrees (map (gap_span order) (gaps_of system)) (length order) (slice_index needs) (own_gap_need system order) bound
      (span_plan (map (gap_span order) (gaps_of system)) (slice_index amounts)) (gap_plan_by_amounts system order amounts)
      (λ k h. sym (needs_are k h)) same_plan (run_plan (map (gap_span order) (gaps_of system)) (length order) (slice_index needs) bound
      (slice_index amounts) fit after))

  no_less : (other : ℕ → ℕ → ℕ) → IsGapPlan system order bound other → sum amounts ≤ gap_volume system order other
  no_less other p =
      let xs = map (gap_span order) (gaps_of system) in
      let q = plan_agrees xs (length order) (own_gap_need system order) (slice_index needs) bound other other needs_are (λ k i h l. refl)
      (to_spans system order bound other p) in
      let low = run_least xs (length order) (slice_index needs) bound (slice_index amounts)
      (gap_item_spans system order within traversal few) after other q in
      omega (arith, low, volume-same system order other, sum_from-list-all xs amounts (omega (arith, len, gaps-length system order)))

  stays_idle : (i : ℕ) → i < length (gaps_of system)
      → ((step : ℕ) → step < length order → is_across_gap order step (nth_gap system i) ≡ false) → get_or amounts i 0 ≡ 0
  stays_idle i h nowhere =
      let xs = map (gap_span order) (gaps_of system) in
      let w : i < length xs = omega (arith, gaps-length system order) in
      let x = span_at xs i in
      let is = get-gap order (gaps_of system) i h in
      split x.end x.start
      (λ none. after.idle i w none)
      (λ some. absurd (
      let k : x.start < length order = omega (arith, (gap_item_spans system order within traversal few).ends i w) in
      true≢false (sym (across-yes x.start x (omega arith) some) ∙ ap (is_across x.start) is
      ∙ sym (across system order x.start (nth_gap system i) k) ∙ nowhere x.start k)))

  least_gaps : (volume : ℕ) → volume ≡ sum amounts → IsLeastGapSpill system order bound amounts volume
  least_gaps volume is = record {
    len = len;
    plan = is_plan;
    volume_is = is;
    idle = stays_idle;
    least = λ other p. omega (arith, is, no_less other p);
  }

-- the same of lists that are equal to these
pub least_gaps_of_run : (system : SharedTaskSystem) (order : List ℕ) → IsSharedSystem system → IsSharedTraversal system order
    → length order ≤ most_tasks → (bound : ℕ) (xs : List Span) (needs amounts : List ℕ)
    → xs ≡ map (gap_span order) (gaps_of system) → length needs ≡ length order
    → ((k : ℕ) → k < length order → get_or needs k 0 ≡ own_gap_need system order k)
    → ((k : ℕ) → k < length needs → get_or needs k 0 ≤ bound) → length amounts ≡ length xs
    → IsSpilledAfter xs (length needs) (slice_index needs) bound (length needs) (slice_index amounts) → (volume : ℕ) → volume
    ≡ sum amounts → IsLeastGapSpill system order bound amounts volume
least_gaps_of_run system order within traversal few bound xs needs amounts same long needs_are fit len after volume is =
    let now = subst (λ n. IsSpilledAfter (map (gap_span order) (gaps_of system)) n (slice_index needs) bound n (slice_index amounts)) long
    (subst (λ (ys : List Span). IsSpilledAfter ys (length needs) (slice_index needs) bound (length needs) (slice_index amounts)) same
    after) in
    least_gaps system order within traversal few needs amounts bound needs_are (λ k h. fit k (omega arith))
    (omega (arith, len, ap length same, gaps-length system order)) now volume is

-- a step that needs more for itself than the bound is refused as such
pub over_gap_need : (system : SharedTaskSystem) (order : List ℕ) → IsSharedTraversal system order → (bound : ℕ) (needs : List ℕ)
    → length needs ≡ length order
    → ((k : ℕ) → k < length order → get_or needs k 0 ≡ own_gap_need system order k) → (refusal : SpillRefusal)
    → IsOverNeed needs bound refusal → IsGapRefusal system order bound refusal
over_gap_need system order traversal bound needs long needs_are (Order fault) over = absurd over
over_gap_need system order traversal bound needs long needs_are (WorkingSet step need stated) over = (
  traversal,
  record {
    positive = over.0;
    within = omega (arith, over.1);
    need_is = omega (arith, over.2, needs_are (step - 1) (omega (arith, over.0, over.1)));
    passes = over.3;
    first = λ earlier h. omega (arith, over.4 earlier h, needs_are earlier (omega (arith, over.1)));
  },
  over.5,
)
over_gap_need system order traversal bound needs long needs_are NoMemory over = absurd over

-- ---- two least spills have one volume

-- amounts that make a plan come to no less than its volume
pub gap_volume-le : (system : SharedTaskSystem) (order amounts : List ℕ) → length amounts ≡ length (gaps_of system)
    → gap_volume system order (gap_plan_by_amounts system order amounts) ≤ sum amounts
gap_volume-le system order amounts len =
    let plan = gap_plan_by_amounts system order amounts in
    let each = sum_from-le (λ i (g : Gap). most_among (length order) (λ k. plan k i)) (λ i g. get_or amounts i 0) 0 (gaps_of system)
    (λ i g. most_among-within (length order) (get_or amounts i 0) (λ k. plan k i)
    (λ k h. cond_le (is_across_gap order k (nth_gap system i)) (get_or amounts i 0))) in
    omega (arith, each, sum_from-list-all (gaps_of system) amounts len)

pub one_gap_volume : (system : SharedTaskSystem) (order : List ℕ) (bound : ℕ) (amounts others : List ℕ) (volume other : ℕ)
    → IsLeastGapSpill system order bound amounts volume → IsLeastGapSpill system order bound others other → volume ≡ other
one_gap_volume system order bound amounts others volume other one two =
    omega (
      arith,
      one.least (gap_plan_by_amounts system order others) two.plan,
      gap_volume-le system order others two.len,
      two.volume_is,
      two.least (gap_plan_by_amounts system order amounts) one.plan,
      gap_volume-le system order amounts one.len,
      one.volume_is,
    )
