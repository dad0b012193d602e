use Rattle.std.proofs.Common.{◌≡◌}
use Rattle.mp_gen.specs.Dice.{dice_of}
use Rattle.mp_gen.specs.RandomWorkflow.{with_tasks}
use Rattle.mp_gen.proofs.workflow.gen_workflow.Given as goal

abbrev pub invariant-loop-i : goal.invariant-loop-i
invariant-loop-i l = record {
  positions : l.builder ≡ (with_tasks l._i (dice_of l.seed)).0;
  dice : l.dice ≡ (with_tasks l._i (dice_of l.seed)).1;
}
