use Rattle.std.proofs.Common.{◌≡◌, ◌≤◌, ◌<◌, ℕ, List, length, get_or, arith, ap, ◌∙◌}
use Rattle.std.proofs.lemmas.Result.{err_from_is_err_and}
use Rattle.limits.specs.Limits.{most_tasks}
use Rattle.spill_plan.proofs.LeastAmounts.{least_of_run, over_need}
use Rattle.spill_plan.proofs.spilling.spill.Goals as goal

pub returns-clause-least : goal.returns-clause-least
returns-clause-least c =
    let traversal = c.in_ok-replay.ensures.peak.0 in
    let order = c.args.order.now in
    let needs = c.deref-8.result.now in
    let few : length order ≤ most_tasks = omega (
      arith,
      c.traversal_law.ensures.long c.args.system.now order traversal,
      c.keeps.ensures.few_tasks,
    ) in
    let long : length needs ≡ length order = omega (
      arith,
      ap length c.deref-8.ensures.value,
      c.in_ok-needs.ensures.len,
      c.in_ok-needs.needs.ok,
    ) in
    let read : (k : ℕ) → get_or needs k 0 ≡ get_or c.in_ok-needs.needs.items k 0 = λ k. ap
    (λ (ys : List ℕ). get_or ys k 0) c.deref-8.ensures.value in
    let fits : (k : ℕ) → k < length needs → get_or needs k 0 ≤ c.args.bound = λ k h.
    let tested = ap (λ (ys : List ℕ). get_or ys k 0) c.deref-5.ensures.value in
    omega (
      arith,
      c.in_ok-check_needs.ensures.fit k
          (omega (arith, ap length c.deref-5.ensures.value, ap length c.deref-8.ensures.value)),
      read k,
      tested,
    ) in
    least_of_run c.args.system.now order c.keeps.ensures traversal few c.args.bound c.deref-6.result.now needs
    c.in_ok-spill_spans.field-0.amounts.items (c.deref-6.ensures.value ∙ c.in_ok-spans.ensures.spans) long
    (λ k h. read k ∙ c.in_ok-needs.ensures.needs k h) fits c.in_ok-spill_spans.ensures.len c.in_ok-spill_spans.ensures.run
    c.in_ok-spill_spans.field-0.volume c.in_ok-spill_spans.ensures.volume

pub returns-in_err-check_needs-clause-refused : goal.returns-in_err-check_needs-clause-refused
returns-in_err-check_needs-clause-refused c =
    let needs = c.deref-5.result.now in
    let long : length needs ≡ length c.args.order.now = omega (
      arith,
      ap length c.deref-5.ensures.value,
      c.in_ok-needs.ensures.len,
      c.in_ok-needs.needs.ok,
    ) in
    let p = err_from_is_err_and c.from_residual-in_err-check_needs.result c.from_residual-in_err-check_needs.ensures.1 in
    rw (p.1, p.2) (over_need c.args.system.now c.args.order.now c.in_ok-replay.ensures.peak.0 c.args.bound needs long
    (λ k h. ap (λ (ys : List ℕ). get_or ys k 0) c.deref-5.ensures.value ∙ c.in_ok-needs.ensures.needs k h) _
    c.in_err-check_needs.ensures.refused)
