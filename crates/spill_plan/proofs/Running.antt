-- From step to step.
use Rattle.std.proofs.Common.{◌≡◌, ◌≢◌, ℕ, zero, suc, ◌+◌, ◌-◌, ◌<◌, ◌≤◌, inl, inr, Bool, true, false}
use Rattle.std.proofs.Common.{cond, refl, subst, ap, arith, ◌∙◌, List, length, get_or, take}
use Rattle.std.specs.Prelude.{nat_lt, nat_le, nat_eq, ◌&&◌, slice_index}
use Rattle.std.specs.List.{sum_by}
use Rattle.std.specs.Prelude.{replicate}
use Rattle.std.proofs.lemmas.List.Sums.{sum_by_more_le_part}
use Rattle.spill_plan.specs.declared.span.Span.{Span}
use Rattle.spill_plan.specs.Spans.{most_span_total, no_span, AreItemSpans, is_across, start_sum, end_sum, spilled_at, kept_at, amount_sum}
use Rattle.spill_plan.specs.Spans.{demand, IsSpanPlan, span_volume, span_plan, IsRaised, IsSpilledAfter}
use Rattle.spill_plan.specs.Spilled.{left_at, AreZero, between_at, IsRaising}
use Rattle.spill_plan.specs.SpillPlans.{sum_from, most_among}
use Rattle.spill_plan.proofs.SpanSums.{split, across-yes, across-early, across-late, cond-yes, cond-no, cond-le}
use Rattle.spill_plan.proofs.SpanSums.{parts, sum-add, sum-le-all, sum-same-all, sum_from-sum_by, sum-none}
use Rattle.spill_plan.proofs.Leads.{raised-best, none-best, best-volume, plan-within, plan-meets}

pub held_parts : (xs : List Span) (k : ℕ) (amount : ℕ → ℕ) → ((i : ℕ) → i < length xs → amount i ≤ (get_or xs i no_span).size)
    → sum_from 0 (λ i x. cond (is_across k x) x.size 0) xs ≡ spilled_at k amount xs + kept_at k amount xs
held_parts xs k amount fits =
    let f : ℕ → Span → ℕ = λ i x. cond (is_across k x) (amount i) 0 in
    let g : ℕ → Span → ℕ = λ i x. cond (is_across k x) (x.size - amount i) 0 in
    sum-same-all (λ i x. cond (is_across k x) x.size 0) (λ i x. f i x + g i x) xs
    (λ i h. parts (is_across k (get_or xs i no_span)) (get_or xs i no_span).size (amount i) (fits i h))
    ∙ sum-add f g 0 xs

-- one step that spilled something
pub raised_some : (xs : List Span) (need : ℕ → ℕ) (bound k over turn : ℕ) (was is : ℕ → ℕ)
    → ((i : ℕ) → i < length xs → was i ≤ (get_or xs i no_span).size)
    → need k + kept_at k was xs ≡ bound + over → 0 < over → IsRaising xs k was is over turn → IsRaised xs k (demand xs need bound k) was is
raised_some xs need bound k over turn was is fits total some r =
    let e = held_parts xs k was fits in
    record {
      within = r.within;
      more = r.more;
      others = r.others;
      enough = omega (arith, e, r.sum_is, total);
      last = inr (record { exact = omega (arith, e, r.sum_is, total); turn = turn; before = r.before; after = r.after });
    }

-- one step, whatever it spilled
pub raised_over : (xs : List Span) (need : ℕ → ℕ) (bound k over : ℕ) (was is : ℕ → ℕ)
    → ((i : ℕ) → i < length xs → was i ≤ (get_or xs i no_span).size)
    → over ≡ need k + kept_at k was xs - bound → (turn : ℕ) → IsRaising xs k was is over turn → (over ≡ 0 → (i : ℕ) → is i ≡ was i)
    → IsRaised xs k (demand xs need bound k) was is
raised_over xs need bound k over was is fits over_is turn r none = split over 0
    (λ nothing. record {
      within = r.within;
      more = r.more;
      others = r.others;
      enough = omega (arith, held_parts xs k was fits, r.sum_is);
      last = inl (λ i h. none (omega arith) i);
    })
    (λ some. raised_some xs need bound k over turn was is fits (omega arith) some r)

-- what ends where it starts is held nowhere
empty_across : (k : ℕ) (x : Span) → x.end ≤ x.start → is_across k x ≡ false
empty_across k x h = grind arith

pub run_next : (xs : List Span) (steps : ℕ) (need : ℕ → ℕ) (bound k : ℕ) (was is : ℕ → ℕ) → k < steps
    → IsSpilledAfter xs steps need bound k was → IsRaised xs k (demand xs need bound k) was is
    → IsSpilledAfter xs steps need bound (suc k) is
run_next xs steps need bound k was is inside run r = record {
  within = r.within;
  meets = λ j h. split k j
      (λ late. let e : k ≡ j = omega arith in subst (λ z. demand xs need bound z ≤ spilled_at z is xs) e r.enough)
      (λ sooner. omega (
        arith,
        run.meets j sooner,
        sum-le-all (λ i x. cond (is_across j x) (was i) 0)
            (λ i x. cond (is_across j x) (is i) 0) xs (λ i l. cond-le (is_across j (get_or xs i no_span)) (was i) (is i) (r.more i l)),
      ));
  fresh = λ i h l. r.others i h (across-early k (get_or xs i no_span) (omega arith)) ∙ run.fresh i h (omega arith);
  idle = λ i h l. r.others i h (empty_across k (get_or xs i no_span) l) ∙ run.idle i h l;
  best = λ other rival. raised-best xs k (demand xs need bound k) was is other rival.within (rival.meets k inside) r (run.best other rival);
}

pub run_first : (xs : List Span) (steps : ℕ) (need : ℕ → ℕ) (bound : ℕ) (amount : ℕ → ℕ) → ((i : ℕ) → i < length xs → amount i ≡ 0)
    → IsSpilledAfter xs steps need bound 0 amount
run_first xs steps need bound amount none = record {
  within = λ i h. omega (arith, none i h);
  meets = λ j h. absurd (omega arith);
  fresh = λ i h l. none i h;
  idle = λ i h l. none i h;
  best = λ other rival. none-best xs amount other none;
}

-- ---- the end

pub run_least : (xs : List Span) (steps : ℕ) (need : ℕ → ℕ) (bound : ℕ) (amount : ℕ → ℕ) → AreItemSpans xs steps
    → IsSpilledAfter xs steps need bound steps amount
    → (plan : ℕ → ℕ → ℕ) → IsSpanPlan xs steps need bound plan → amount_sum amount xs ≤ span_volume steps plan xs
run_least xs steps need bound amount spans run plan p =
    best-volume xs steps steps amount (λ i. most_among steps (λ k. plan k i)) spans.ends
    (run.best (λ i. most_among steps (λ k. plan k i))
    (record { within = plan-within xs steps need bound plan p; meets = plan-meets xs steps need bound plan p }))

part_le : (b : Bool) (a s : ℕ) → a ≤ s → cond b a 0 ≤ s
part_le true a s h = h
part_le false a s h = omega arith

kept_cond : (b : Bool) (s a : ℕ) → cond b (s - cond b a 0) 0 ≡ cond b (s - a) 0
kept_cond true s a = refl
kept_cond false s a = refl

pub run_plan : (xs : List Span) (steps : ℕ) (need : ℕ → ℕ) (bound : ℕ) (amount : ℕ → ℕ) → ((k : ℕ) → k < steps → need k ≤ bound)
    → IsSpilledAfter xs steps need bound steps amount → IsSpanPlan xs steps need bound (span_plan xs amount)
run_plan xs steps need bound amount fit run = record {
  within = λ k i l h. part_le (is_across k (get_or xs i no_span)) (amount i) (get_or xs i no_span).size (run.within i h);
  absent = λ k i l h e. cond-no (is_across k (get_or xs i no_span)) (amount i) e;
  fits = λ k l.
      let same = sum-same-all (λ i x. cond (is_across k x) (x.size - span_plan xs amount k i) 0)
      (λ i x. cond (is_across k x) (x.size - amount i) 0) xs
      (λ i h. kept_cond (is_across k (get_or xs i no_span)) (get_or xs i no_span).size (amount i)) in
      omega (arith, same, held_parts xs k amount run.within, run.meets k l, fit k l);
}

-- ---- the running sum

between-yes : (k : ℕ) (x : Span) → x.start < k → k ≤ x.end → (nat_lt x.start k && nat_le k x.end) ≡ true
between-yes k x h l = grind arith

between-late : (k : ℕ) (x : Span) → k ≤ x.start → (nat_lt x.start k && nat_le k x.end) ≡ false
between-late k x h = grind arith

between-ended : (k : ℕ) (x : Span) → x.end < k → (nat_lt x.start k && nat_le k x.end) ≡ false
between-ended k x h = grind arith

eq-yes : (m n : ℕ) → m ≡ n → nat_eq m n ≡ true
eq-yes m n h = grind arith

eq-no : (m n : ℕ) → m ≢ n → nat_eq m n ≡ false
eq-no m n h = grind arith

one_place : (k : ℕ) (x : Span) (a : ℕ) → x.start ≤ x.end → (k ≤ x.start → a ≡ 0)
    → cond (nat_lt x.start k && nat_le k x.end) (x.size - a) 0 + cond (nat_eq x.start k) x.size 0
    ≡ cond (is_across k x) (x.size - a) 0 + cond (nat_eq x.end k) (x.size - a) 0
one_place k x a ordered fresh =
    split k x.start
    (λ late. let e = fresh late in let b1 = cond-no (nat_lt x.start k && nat_le k x.end) (x.size - a) (between-late k x late) in
    split x.start k
    (λ same. let b2 = cond-yes (nat_eq x.start k) x.size (eq-yes x.start k (omega arith)) in
    split x.end k
    (λ ends. omega (
      arith,
      b1,
      b2,
      e,
      cond-no (is_across k x) (x.size - a) (across-late k x ends),
      cond-yes (nat_eq x.end k) (x.size - a)
          (eq-yes x.end k (omega arith)),
    ))
    (λ later. omega (
      arith,
      b1,
      b2,
      e,
      cond-yes (is_across k x) (x.size - a) (across-yes k x same later),
      cond-no (nat_eq x.end k)
          (x.size - a) (eq-no x.end k (omega arith)),
    )))
    (λ after. omega (
      arith,
      b1,
      cond-no (nat_eq x.start k) x.size (eq-no x.start k (omega arith)),
      cond-no (is_across k x) (x.size - a)
          (across-early k x after),
      cond-no (nat_eq x.end k) (x.size - a) (eq-no x.end k (omega arith)),
    )))
    (λ before. let b2 = cond-no (nat_eq x.start k) x.size (eq-no x.start k (omega arith)) in
    split k x.end
    (λ there. let b1 = cond-yes (nat_lt x.start k && nat_le k x.end) (x.size - a) (between-yes k x before there) in
    split x.end k
    (λ ends. omega (
      arith,
      b1,
      b2,
      cond-no (is_across k x) (x.size - a) (across-late k x ends),
      cond-yes (nat_eq x.end k) (x.size - a)
          (eq-yes x.end k (omega arith)),
    ))
    (λ later. omega (
      arith,
      b1,
      b2,
      cond-yes (is_across k x) (x.size - a) (across-yes k x (omega arith) later),
      cond-no (nat_eq x.end k)
          (x.size - a) (eq-no x.end k (omega arith)),
    )))
    (λ ended. omega (
      arith,
      b2,
      cond-no (nat_lt x.start k && nat_le k x.end) (x.size - a) (between-ended k x ended),
      cond-no
          (is_across k x) (x.size - a) (across-late k x (omega arith)),
      cond-no (nat_eq x.end k) (x.size - a)
          (eq-no x.end k (omega arith)),
    )))

pub held_now : (xs : List Span) (steps k : ℕ) (amount : ℕ → ℕ) → AreItemSpans xs steps
    → ((i : ℕ) → i < length xs → k ≤ (get_or xs i no_span).start → amount i ≡ 0)
    → between_at k amount xs + start_sum k xs ≡ kept_at k amount xs + left_at k amount xs
held_now xs steps k amount spans fresh =
    let f1 : ℕ → Span → ℕ = λ i x. cond (nat_lt x.start k && nat_le k x.end) (x.size - amount i) 0 in
    let f2 : ℕ → Span → ℕ = λ i x. cond (nat_eq x.start k) x.size 0 in
    let g1 : ℕ → Span → ℕ = λ i x. cond (is_across k x) (x.size - amount i) 0 in
    let g2 : ℕ → Span → ℕ = λ i x. cond (nat_eq x.end k) (x.size - amount i) 0 in
    let e = sum-same-all (λ i x. f1 i x + f2 i x) (λ i x. g1 i x + g2 i x) xs
    (λ i h. one_place k (get_or xs i no_span) (amount i) (spans.ordered i h) (fresh i h)) in
    omega (arith, e, sum-add f1 f2 0 xs, sum-add g1 g2 0 xs, sum_from-sum_by (λ x. cond (nat_eq x.start k) x.size 0) 0 xs)

same_test : (k : ℕ) (x : Span) → (nat_lt x.start (suc k) && nat_le (suc k) x.end) ≡ is_across k x
same_test k x = grind arith

pub held_next : (xs : List Span) (k : ℕ) (amount : ℕ → ℕ) → between_at (suc k) amount xs ≡ kept_at k amount xs
held_next xs k amount = sum-same-all (λ i x. cond (nat_lt x.start (suc k) && nat_le (suc k) x.end) (x.size - amount i) 0)
    (λ i x. cond (is_across k x) (x.size - amount i) 0) xs
    (λ i h. ap (λ b. cond b ((get_or xs i no_span).size - amount i) 0) (same_test k (get_or xs i no_span)))

pub kept_after : (xs : List Span) (k over turn : ℕ) (was is : ℕ → ℕ) → ((i : ℕ) → i < length xs → was i ≤ (get_or xs i no_span).size)
    → over ≤ kept_at k was xs → IsRaising xs k was is over turn
    → kept_at k was xs - over ≡ kept_at k is xs
kept_after xs k over turn was is fits room r = omega (arith, held_parts xs k was fits, held_parts xs k is r.within, r.sum_is)

pub place_fits : (xs : List Span) (steps : ℕ) (test : Span → Bool) (i old : ℕ) → AreItemSpans xs steps → i < length xs → old
    ≡ sum_by (λ x. cond (test x) x.size 0) (take i xs) → old + (get_or xs i no_span).size ≤ most_span_total
place_fits xs steps test i old spans h e =
    let part = sum_by_more_le_part (λ x. cond (test x) x.size 0) (λ x. x.size) xs i no_span h
    (λ x. part_le (test x) x.size x.size (omega arith)) in
    omega (arith, part, e, spans.total)

pub between_none : (xs : List Span) (amount : ℕ → ℕ) → between_at 0 amount xs ≡ 0
between_none xs amount = sum-none (λ i x. cond (nat_lt x.start 0 && nat_le 0 x.end) (x.size - amount i) 0) xs
    (λ i h. cond-no (nat_lt (get_or xs i no_span).start 0 && nat_le 0 (get_or xs i no_span).end) ((get_or xs i no_span).size - amount i)
    (between-late 0 (get_or xs i no_span) (omega arith)))

within_le : (b : Bool) (a s : ℕ) → cond b (s - a) 0 ≤ s
within_le true a s = omega arith
within_le false a s = omega arith

within_both : (k : ℕ) (x : Span) (a : ℕ) → cond (is_across k x) (x.size - a) 0 + cond (nat_eq x.end k) (x.size - a) 0 ≤ x.size
within_both k x a = split x.end k
    (λ ended. omega (arith, cond-no (is_across k x) (x.size - a) (across-late k x ended), within_le (nat_eq x.end k) a x.size))
    (λ later. omega (
      arith,
      cond-no (nat_eq x.end k) (x.size - a) (eq-no x.end k (λ e. omega arith)),
      within_le (is_across k x) a x.size,
    ))

-- what is kept and what is left are no more than all there is
pub held_fits : (xs : List Span) (steps k : ℕ) (amount : ℕ → ℕ) → AreItemSpans xs steps
    → kept_at k amount xs + left_at k amount xs ≤ most_span_total
held_fits xs steps k amount spans =
    let f : ℕ → Span → ℕ = λ i x. cond (is_across k x) (x.size - amount i) 0 in
    let g : ℕ → Span → ℕ = λ i x. cond (nat_eq x.end k) (x.size - amount i) 0 in
    omega (
      arith,
      spans.total,
      sum_from-sum_by (λ x. x.size) 0 xs,
      sum-add f g 0 xs,
      sum-le-all (λ i x. f i x + g i x) (λ i x. x.size) xs (λ i h. within_both k (get_or xs i no_span) (amount i)),
    )

-- with nothing spilled what is left is all
pub left_zero : (xs : List Span) (amounts : List ℕ) (e : ℕ) → AreZero amounts → left_at e (slice_index amounts) xs ≡ end_sum e xs
left_zero xs amounts e none =
    sum-same-all (λ i x. cond (nat_eq x.end e) (x.size - get_or amounts i 0) 0) (λ i x. cond (nat_eq x.end e) x.size 0) xs
    (λ i h. ap (λ n. cond (nat_eq (get_or xs i no_span).end e) n 0) (omega (arith, none i)))
    ∙ sum_from-sum_by (λ x. cond (nat_eq x.end e) x.size 0) 0 xs

pub zeros : (n : ℕ) → AreZero (replicate n 0)
zeros zero i = refl
zeros (suc n) zero = refl
zeros (suc n) (suc i) = zeros n i
