use Rattle.std.proofs.Common.{◌≡◌, ℕ, ◌<◌, ◌≤◌, ◌+◌, ◌-◌, List, length, take, drop, sym, ap, ◌∙◌, arith}
use Rattle.std.specs.Prelude.{ℤ}
use Rattle.std.specs.List.{sum_by}
use Rattle.shared_systems.specs.Shared.{shared_item_at}
use Rattle.peak_bounds.specs.Moments.{uses_for, above_zero}
use Rattle.peak_bounds.proofs.Told.{fit_parts, long_more}
use Rattle.peak_bounds.proofs.lowered.fit_sizes.Goals as goal
use Rattle.peak_bounds.proofs.lowered.fit_sizes.Goals.{After-fits}

inside : (c : After-fits) → c.loop-i.i < length c.args.items.now
inside c = omega (arith, c.loop-i-test.true, c.len-i-end.ensures)

count : (c : After-fits) → c.use_count.result ≡ length (uses_for (shared_item_at c.args.items.now c.loop-i.i).from (shared_item_at c.args.items.now c.loop-i.i).readers)
count c = c.use_count.ensures (shared_item_at c.args.items.now c.loop-i.i).from ∙ ap (λ (l : List ℕ). length (uses_for (shared_item_at c.args.items.now c.loop-i.i).from l)) c.readers.ensures

part : (lowered : List ℤ) (start n size m : ℕ) → size ≡ m → sum_by above_zero (take n (drop start lowered)) ≤ m → sum_by above_zero (take (start + n - start) (drop start lowered)) ≤ size
part lowered start n size m same h =
    let e : start + n - start ≡ n = omega arith in
    omega (arith, h, same, ap (λ (k : ℕ). sum_by above_zero (take k (drop start lowered))) e)

back : (lowered : List ℤ) (start n size m : ℕ) → size ≡ m → sum_by above_zero (take (start + n - start) (drop start lowered)) ≤ size → sum_by above_zero (take n (drop start lowered)) ≤ m
back lowered start n size m same h =
    let e : start + n - start ≡ n = omega arith in
    omega (arith, h, same, ap (λ (k : ℕ). sum_by above_zero (take k (drop start lowered))) e)

pub returns-then-not-fits : goal.returns-then-not-fits
returns-then-not-fits c = (
  λ e. absurd cc,
  λ fit.
      let a = (goal.at.returns-then-not-fits c).After-fits in
      let l = c.loop-i in
      let n = c.use_count.result in
      let parts = (fit_parts c.args.items.now c.args.lowered.now l.i l.start n (inside a) (count a)).0 (l.invariant.left.0 fit) in
      let yes = c.fits.ensures.1 (part c.args.lowered.now l.start n c.size.result (shared_item_at c.args.items.now l.i).size c.size.ensures parts.0) in
      sym c.if-not-fits.true ∙ yes,
)

pub loop-i-preserved : goal.loop-i-preserved
loop-i-preserved c =
    let a = (goal.at.loop-i-preserved c).After-fits in
    let l = c.loop-i in
    let n = c.use_count.result in
    let parts = fit_parts c.args.items.now c.args.lowered.now l.i l.start n (inside a) (count a) in
    let here = back c.args.lowered.now l.start n c.size.result (shared_item_at c.args.items.now l.i).size c.size.ensures (c.fits.ensures.0 c.if-not-fits.false) in
    record {
      left = (λ fit. (parts.0 (l.invariant.left.0 fit)).1, λ rest. l.invariant.left.1 (parts.1 (here, rest)));
      long = omega (arith, l.invariant.long, long_more c.args.items.now c.args.lowered.now l.i l.start n (inside a) (count a));
    }
