-- The greedy amounts are least.
use Rattle.std.proofs.Common.{◌≡◌, ℕ, zero, suc, ◌+◌, ◌-◌, ◌<◌, ◌≤◌, inl, inr, true, false, cond, ap, arith, ◌∙◌, List, length, get_or}
use Rattle.std.specs.Prelude.{nat_lt}
use Rattle.spill_plan.specs.declared.span.Span.{Span}
use Rattle.spill_plan.specs.SpillPlans.{sum_from, most_among}
use Rattle.spill_plan.specs.Spans.{no_span, is_across, spilled_at, amount_sum, IsSpanPlan, demand, IsJustEnough, IsRaised, IsLowestBefore}
use Rattle.spill_plan.proofs.SpanSums.{split, lt-yes, lt-no, across-yes, across-early, across-late, cond-yes}
use Rattle.spill_plan.proofs.SpanSums.{cond-no, cond-le, parts, sum-add, sum-le-all, sum-same-all}

-- ---- one step keeps the greedy's lead

-- one item's part: what ends below q, the plan's part of what is held, and what has ended
one_item : (k q turn : ℕ) (x : Span) (was is other : ℕ) → turn < q → k < q → other ≤ x.size
    → (is_across k x ≡ false → is ≡ was) → (is_across k x ≡ true → turn < x.end → is ≡ x.size) → (suc k ≤ x.start → is ≡ 0)
    → cond (nat_lt x.end q) is 0 + (cond (is_across k x) other 0 + cond (nat_lt x.end (suc k)) other 0)
    ≤ cond (nat_lt x.end q) other 0 + (cond (is_across k x) is 0 + cond (nat_lt x.end (suc k)) was 0)
one_item k q turn x was is other turn_q k_q fits others full fresh =
    split (suc k) x.end
    (λ ends_late. split x.start k
    (λ held. let a = across-yes k x held (omega arith) in
    let h1 = cond-yes (is_across k x) other a in
    let h2 = cond-yes (is_across k x) is a in
    let h3 = lt-no x.end (suc k) other ends_late in
    split q x.end
    (λ later. let e = full a (omega arith) in omega (arith, e, h1, h2, h3, lt-no x.end q is later))
    (λ sooner. omega (arith, h1, h2, h3, lt-yes x.end q is sooner, lt-yes x.end q other sooner)))
    (λ unborn. let a = across-early k x unborn in
    let e = fresh (omega arith) in
    omega (
      arith,
      cond-no (is_across k x) other a,
      lt-no x.end (suc k) other ends_late,
      e,
      cond-le (nat_lt x.end q) is other
          (omega arith),
    )))
    (λ ended. let a = across-late k x (omega arith) in
    let e = others a in
    let h1 = cond-no (is_across k x) other a in
    let h2 = lt-yes x.end (suc k) other ended in
    let h3 = lt-yes x.end (suc k) was ended in
    omega (arith, h1, h2, h3, e, lt-yes x.end q is (omega arith), lt-yes x.end q other (omega arith)))

module _ (xs : List Span) (k least : ℕ) (was is other : ℕ → ℕ) where
  -- on what is not raised the lead stays
  unraised : (q : ℕ) → ((i : ℕ) → i < length xs → (get_or xs i no_span).end < q → is i ≡ was i)
      → sum_from 0 (λ i x. cond (nat_lt x.end q) (is i) 0) xs ≤ sum_from 0 (λ i x. cond (nat_lt x.end q) (was i) 0) xs
  unraised q same = sum-le-all (λ i x. cond (nat_lt x.end q) (is i) 0) (λ i x. cond (nat_lt x.end q) (was i) 0) xs
      (λ i h. let x = get_or xs i no_span in split q x.end
      (λ later. omega (arith, lt-no x.end q (is i) later))
      (λ sooner. cond-le (nat_lt x.end q) (is i) (was i) (omega (arith, same i h sooner))))

  module _ (fits : (i : ℕ) → i < length xs → other i ≤ (get_or xs i no_span).size) (meets : least ≤ spilled_at k other xs)
      (raised : IsRaised xs k least was is) (best : IsLowestBefore xs k was other) where
    fresh : (i : ℕ) → i < length xs → suc k ≤ (get_or xs i no_span).start → is i ≡ 0
    fresh i h l = raised.others i h (across-early k (get_or xs i no_span) (omega arith)) ∙ best.fresh i h (omega arith)

    key : (last : IsJustEnough xs k least was is) (q : ℕ) → last.turn < q → k < q
        → sum_from 0 (λ i x. cond (nat_lt x.end q) (is i) 0) xs ≤ sum_from 0 (λ i x. cond (nat_lt x.end q) (other i) 0) xs
    key last q turn_q k_q =
        let f1 : ℕ → Span → ℕ = λ i x. cond (nat_lt x.end q) (is i) 0 in
        let f2 : ℕ → Span → ℕ = λ i x. cond (is_across k x) (other i) 0 in
        let f3 : ℕ → Span → ℕ = λ i x. cond (nat_lt x.end (suc k)) (other i) 0 in
        let g1 : ℕ → Span → ℕ = λ i x. cond (nat_lt x.end q) (other i) 0 in
        let g2 : ℕ → Span → ℕ = λ i x. cond (is_across k x) (is i) 0 in
        let g3 : ℕ → Span → ℕ = λ i x. cond (nat_lt x.end (suc k)) (was i) 0 in
        let all = sum-le-all (λ i x. f1 i x + (f2 i x + f3 i x)) (λ i x. g1 i x + (g2 i x + g3 i x)) xs
        (λ i h. one_item k q last.turn (get_or xs i no_span) (was i) (is i) (other i) turn_q k_q (fits i h) (raised.others i h)
        (last.after i h) (fresh i h)) in
        omega (
          arith,
          all,
          sum-add f1 (λ i x. f2 i x + f3 i x) 0 xs,
          sum-add f2 f3 0 xs,
          sum-add g1
              (λ i x. g2 i x + g3 i x) 0 xs,
          sum-add g2 g3 0 xs,
          meets,
          last.exact,
          best.low (suc k),
        )

    pub raised-best : IsLowestBefore xs (suc k) is other
    raised-best = record {
      low = λ q. split q (suc k)
          (λ early. omega (arith, unraised q (λ i h l. raised.others i h (across-late k (get_or xs i no_span) (omega arith))), best.low q))
          (λ late. elim (raised.last) [
            | inl none ↦ omega (arith, unraised q (λ i h l. none i h), best.low q)
            | inr last ↦ split q last.turn
                (λ low. omega (arith, unraised q (λ i h l. last.before i h (omega arith)), best.low q))
                (λ high. key last q high (omega arith))
          ]);
      fresh = fresh;
    }

-- ---- the whole run

-- nothing is spilled at first
pub none-best : (xs : List Span) (amount other : ℕ → ℕ) → ((i : ℕ) → i < length xs → amount i ≡ 0) → IsLowestBefore xs 0 amount other
none-best xs amount other none = record {
  low = λ q. sum-le-all (λ i x. cond (nat_lt x.end q) (amount i) 0) (λ i x. cond (nat_lt x.end q) (other i) 0) xs
      (λ i h. cond-le (nat_lt (get_or xs i no_span).end q) (amount i) (other i) (omega (arith, none i h)));
  fresh = λ i h l. none i h;
}

-- the lead at a place that nothing ends behind is one on the amount_sum
pub best-volume : (xs : List Span) (k n : ℕ) (amount other : ℕ → ℕ) → ((i : ℕ) → i < length xs → (get_or xs i no_span).end ≤ n)
    → IsLowestBefore xs k amount other → amount_sum amount xs ≤ amount_sum other xs
best-volume xs k n amount other ends best =
    let whole : (a : ℕ → ℕ) → sum_from 0 (λ i x. cond (nat_lt x.end (suc n)) (a i) 0) xs ≡ amount_sum a xs =
    λ a. sum-same-all (λ i x. cond (nat_lt x.end (suc n)) (a i) 0) (λ i x. a i) xs
    (λ i h. lt-yes (get_or xs i no_span).end (suc n) (a i) (omega (arith, ends i h))) in
    omega (arith, whole amount, whole other, best.low (suc n))

-- ---- any plan, by the most_among amounts of its items

pub most_among-le : (n k : ℕ) (f : ℕ → ℕ) → k < n → f k ≤ most_among n f
most_among-le zero k f h = absurd (omega arith)
most_among-le (suc n) k f h = split n k (λ l. let e : k ≡ n = omega arith in omega (arith, ap f e))
    (λ l. omega (arith, most_among-le n k f l))

pub most_among-within : (n m : ℕ) (f : ℕ → ℕ) → ((k : ℕ) → k < n → f k ≤ m) → most_among n f ≤ m
most_among-within zero m f h = omega arith
most_among-within (suc n) m f h = omega (arith, h n (omega arith), most_among-within n m f (λ k l. h k (omega arith)))

pub plan-within : (xs : List Span) (steps : ℕ) (need : ℕ → ℕ) (bound : ℕ) (plan : ℕ → ℕ → ℕ) → IsSpanPlan xs steps need bound plan
    → (i : ℕ) → i < length xs → most_among steps (λ k. plan k i) ≤ (get_or xs i no_span).size
plan-within xs steps need bound plan p i h = most_among-within steps (get_or xs i no_span).size (λ k. plan k i) (λ k l. p.within k i l h)

pub plan-meets : (xs : List Span) (steps : ℕ) (need : ℕ → ℕ) (bound : ℕ) (plan : ℕ → ℕ → ℕ) → IsSpanPlan xs steps need bound plan
    → (k : ℕ) → k < steps → demand xs need bound k ≤ spilled_at k (λ i. most_among steps (λ j. plan j i)) xs
plan-meets xs steps need bound plan p k h =
    let f : ℕ → Span → ℕ = λ i x. cond (is_across k x) (x.size - plan k i) 0 in
    let g : ℕ → Span → ℕ = λ i x. cond (is_across k x) (plan k i) 0 in
    let a = sum-same-all (λ i x. cond (is_across k x) x.size 0) (λ i x. g i x + f i x) xs
    (λ i l. parts (is_across k (get_or xs i no_span)) (get_or xs i no_span).size (plan k i) (p.within k i h l)) in
    let b = sum-le-all g (λ i x. cond (is_across k x) (most_among steps (λ j. plan j i)) 0) xs
    (λ i l. cond-le (is_across k (get_or xs i no_span)) (plan k i) (most_among steps (λ j. plan j i))
    (most_among-le steps k (λ j. plan j i) h)) in
    omega (arith, a, b, sum-add g f 0 xs, p.fits k h)
