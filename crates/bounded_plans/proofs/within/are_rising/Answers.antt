use Rattle.std.proofs.Common.{◌≡◌, ap, ℕ, ◌<◌, ◌≤◌, ◌+◌, ◌-◌, length, map, get_or, arith, inl, inr}
use Rattle.std.proofs.lemmas.Bool.{cases_lt}
use Rattle.std.proofs.lemmas.List.{length-map}
use Rattle.peak_bounds.specs.Evidence.{place_of}
use Rattle.peak_bounds.proofs.Told.{place_at}
use Rattle.bounded_plans.proofs.within.are_rising.Goals as goal

pub returns-then-amounts-i : goal.returns-then-amounts-i
returns-then-amounts-i c = (
  λ e. absurd cc,
  λ rising.
      let amounts = c.args.amounts.now in
      let i = c.loop-i.i in
      let lt : i < length amounts = c.loop-i-test.true in
      let low : 1 ≤ i = c.loop-i.auto.i in
      let at = rising (i - 1) (omega (arith, lt, low, length-map amounts place_of)) in
      let here = ap (λ (k : ℕ). get_or (map place_of amounts) k 0) (let e : i - 1 + 1 ≡ i = omega (arith, low) in e) in
      absurd (omega (arith, at, here, place_at amounts i lt, place_at amounts (i - 1) (omega (arith, lt)), c.if-amounts-i.true)),
)

pub loop-i-preserved : goal.loop-i-preserved
loop-i-preserved c = λ k lt.
    let amounts = c.args.amounts.now in
    let i = c.loop-i.i in
    let inside : i < length amounts = c.loop-i-test.true in
    elim (cases_lt (k + 1) i) [
      | inl before ↦ c.loop-i.invariant k before
      | inr last ↦ (
          let k_is : k ≡ i - 1 = omega (arith, last, lt) in
          let next : k + 1 ≡ i = omega (arith, last, lt) in
          omega (
            arith,
            ap (λ (j : ℕ). get_or (map place_of amounts) j 0) k_is,
            ap (λ (j : ℕ). get_or (map place_of amounts) j 0) next,
            place_at amounts i inside,
            place_at amounts (i - 1) (omega (arith, inside)),
            c.if-amounts-i.false,
          ))
    ]
