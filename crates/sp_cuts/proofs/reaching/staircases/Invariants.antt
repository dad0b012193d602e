use Rattle.std.proofs.Common.{◌≡◌, ◌≤◌, length}
use Rattle.limits.specs.Limits.{most_steps}
use Rattle.sp_cuts.specs.Stairs.{AreStairsFrom, step_total, all_of}
use Rattle.sp_cuts.proofs.Pushed.{Standing, Spent}
use Rattle.sp_cuts.proofs.reaching.staircases.Given as goal

abbrev pub invariant-loop-done : goal.invariant-loop-done
invariant-loop-done g l = record {
  standing : Standing l.terms l.done l.ropes l.stack.items l.next;
  spent : Spent l.terms l.done l.fn.steps l.steps;
  made : AreStairsFrom l.terms 0 (all_of l.found.items);
  many : length l.found.items ≡ l.done;
  counted : l.total ≡ step_total (all_of l.found.items);
  few : l.total ≤ most_steps;
}
