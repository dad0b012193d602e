use Rattle.std.proofs.Common.{◌≤◌, ◌<◌, length, arith, ◌∙◌}
use Rattle.std.specs.Prelude.{◌==◌}
use Rattle.std.proofs.lemmas.List.{get_or_read}
use Rattle.spill_plan.specs.Spans.{span_at}
use Rattle.spill_plan.proofs.Running.{place_fits}
use Rattle.spill_plan.proofs.sums.end_sums.Goals as goal

pub overflow_add-index_mut : goal.overflow_add-index_mut
overflow_add-index_mut c =
    let xs = c.args.spans.now in
    let i = c.loop-span.span-index in
    let e = (span_at xs i).end in
    let lt : i < length xs = omega arith in
    let in_range : e ≤ c.args.steps = omega (arith, c.requires.ends i lt, c.requires.ordered i lt) in
    let was = get_or_read c.loop-span.sums.items e c.index_mut.result.now
    (omega (arith, c.loop-span.invariant.len)) c.index_mut.ensures.value 0 in
    omega (
      arith,
      place_fits xs c.args.steps (λ x. x.end == e) i c.index_mut.result.now c.requires lt
          (was ∙ c.loop-span.invariant.sums e in_range),
    )
