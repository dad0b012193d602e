use Rattle.std.proofs.Common.{◌≡◌, ℕ, ◌+◌, ◌-◌, ◌<◌, suc, List, length, get_or, arith, subst, sym, ap, ◌∙◌}
use Rattle.std.specs.Prelude.{slice_index}
use Rattle.std.proofs.lemmas.List.{get_or_read}
use Rattle.spill_plan.specs.Spans.{IsSpilledAfter, kept_at}
use Rattle.spill_plan.specs.Spilled.{between_at}
use Rattle.spill_plan.proofs.Running.{run_first, run_next, raised_over, held_now, held_next, kept_after, between_none, held_fits}
use Rattle.spill_plan.proofs.spilled.Spilled.run.Goals as goal

pub loop-step-init : goal.loop-step-init
loop-step-init c = record {
  len_leaving = c.requires.len.0;
  run = run_first c.args.spans.now (length c.args.needs.now) (slice_index c.args.needs.now) c.args.bound
      (slice_index c.args.self.now.amounts.items) (λ i h. c.requires.state.1 i);
  state = c.requires.state.0;
  held_is = sym (between_none c.args.spans.now (slice_index c.args.self.now.amounts.items));
}

pub overflow_add-held : goal.overflow_add-held
overflow_add-held c =
    let k = c.loop-step.step in
    let xs = c.args.spans.now in
    let joins = c.requires.joining k (omega arith) in
    omega (
      arith,
      joins,
      c.loop-step.invariant.held_is,
      held_now xs (length c.args.needs.now) k
          (slice_index c.loop-step.self.amounts.items) c.requires.spans c.loop-step.invariant.run.fresh,
      held_fits xs
          (length c.args.needs.now) k (slice_index c.loop-step.self.amounts.items) c.requires.spans,
    )

pub overflow_sub-held : goal.overflow_sub-held
overflow_sub-held c =
    let k = c.loop-step.step in
    let xs = c.args.spans.now in
    let was = slice_index c.loop-step.self.amounts.items in
    let joins = c.requires.joining k (omega arith) in
    let in_leaving : k < length c.loop-step.self.leaving.items = omega (arith, c.loop-step.invariant.len_leaving) in
    let leaves = get_or_read c.loop-step.self.leaving.items k c.index.result.now in_leaving c.index.ensures 0
    ∙ c.loop-step.invariant.state.left k in_leaving in
    let now = held_now xs (length c.args.needs.now) k was c.requires.spans c.loop-step.invariant.run.fresh in
    omega (arith, joins, leaves, now, c.loop-step.invariant.held_is)

pub overflow_add-need : goal.overflow_add-need
overflow_add-need c =
    let k = c.loop-step.step in
    let xs = c.args.spans.now in
    let was = slice_index c.loop-step.self.amounts.items in
    let joins = c.requires.joining k (omega arith) in
    let in_leaving : k < length c.loop-step.self.leaving.items = omega (arith, c.loop-step.invariant.len_leaving) in
    let leaves = get_or_read c.loop-step.self.leaving.items k c.index.result.now in_leaving c.index.ensures 0
    ∙ c.loop-step.invariant.state.left k in_leaving in
    let now = held_now xs (length c.args.needs.now) k was c.requires.spans c.loop-step.invariant.run.fresh in
    omega (
      arith,
      joins,
      leaves,
      now,
      c.loop-step.invariant.held_is,
      held_fits xs
          (length c.args.needs.now) k was c.requires.spans,
      c.requires.small k c.loop-step-test.true,
    )

pub raise-requires-clause-over : goal.raise-requires-clause-over
raise-requires-clause-over c =
    let k = c.loop-step.step in
    let xs = c.args.spans.now in
    let was = slice_index c.loop-step.self.amounts.items in
    let joins = c.requires.joining k (omega arith) in
    let in_leaving : k < length c.loop-step.self.leaving.items = omega (arith, c.loop-step.invariant.len_leaving) in
    let leaves = get_or_read c.loop-step.self.leaving.items k c.index.result.now in_leaving c.index.ensures 0
    ∙ c.loop-step.invariant.state.left k in_leaving in
    let now = held_now xs (length c.args.needs.now) k was c.requires.spans c.loop-step.invariant.run.fresh in
    omega (arith, joins, leaves, now, c.loop-step.invariant.held_is, c.saturating_sub-over.ensures, c.requires.fit k c.loop-step-test.true)

pub loop-step-preserved : goal.loop-step-preserved
loop-step-preserved c =
    let k = c.loop-step.step in
    let xs = c.args.spans.now in
    let was = slice_index c.loop-step.self.amounts.items in
    let joins = c.requires.joining k (omega arith) in
    let in_leaving : k < length c.loop-step.self.leaving.items = omega (arith, c.loop-step.invariant.len_leaving) in
    let leaves = get_or_read c.loop-step.self.leaving.items k c.index.result.now in_leaving c.index.ensures 0
    ∙ c.loop-step.invariant.state.left k in_leaving in
    let now = held_now xs (length c.args.needs.now) k was c.requires.spans c.loop-step.invariant.run.fresh in
    let is = slice_index c.raise.new.self.amounts.items in
    let n = length c.args.needs.now in
    let over = c.saturating_sub-over.result in
    let within = c.loop-step.invariant.state.within in
    let raising = c.raise.ensures.raised in
    let over_is : over ≡ get_or c.args.needs.now k 0 + kept_at k was xs - c.args.bound = omega
    (arith, joins, leaves, now, c.loop-step.invariant.held_is, c.saturating_sub-over.ensures) in
    let raised = raised_over xs (slice_index c.args.needs.now) c.args.bound k over was is within over_is raising.0 raising.1
    (λ none i. ap (λ (ys : List ℕ). get_or ys i 0) (c.raise.ensures.none none)) in
    let more : k + 1 ≡ suc k = omega arith in
    let run = run_next xs n (slice_index c.args.needs.now) c.args.bound k was is c.loop-step-test.true c.loop-step.invariant.run raised in
    let after = kept_after xs k over raising.0 was is within (omega (arith, over_is, c.requires.fit k c.loop-step-test.true)) raising.1 in
    let next : between_at (k + 1) is xs ≡ kept_at k is xs = subst (λ j. between_at j is xs ≡ kept_at k is xs) (sym more)
    (held_next xs k is) in
    record {
      len_leaving = omega (arith, c.loop-step.invariant.len_leaving, c.raise.ensures.len);
      run = subst (λ j. IsSpilledAfter xs n (slice_index c.args.needs.now) c.args.bound j is) (sym more) run;
      state = c.raise.ensures.state;
      held_is = omega (arith, joins, leaves, now, c.loop-step.invariant.held_is, after, next);
    }
