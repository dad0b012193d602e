use Rattle.std.proofs.Common.{length, arith, ap, sym, subst, ◌∙◌}
use Rattle.std.proofs.lemmas.List.{length-replicate}
use Rattle.spill_plan.specs.Spilled.{AreZero}
use Rattle.spill_plan.proofs.Running.{zeros, left_zero}
use Rattle.spill_plan.proofs.spilled.Spilled.new.Goals as goal

pub returns-clause-state : goal.returns-clause-state
returns-clause-state c =
    let zero_now : AreZero c.in_ok-amounts.amounts.items = subst AreZero (sym (c.in_ok-amounts.ensures.items_if_clones_equal (λ y e. e)))
    (zeros (length c.args.spans.now)) in
    record {
      len = ap length (c.in_ok-amounts.ensures.items_if_clones_equal (λ y e. e)) ∙ length-replicate (length c.args.spans.now) 0;
      within = λ i h. omega (arith, zero_now i);
      starts = c.in_ok-starts.ensures c.in_ok-amounts.amounts.items zero_now;
      left = λ e h. c.requires.leaving e h ∙ sym (left_zero c.args.spans.now c.in_ok-amounts.amounts.items e zero_now);
    }
