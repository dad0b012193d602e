use Rattle.std.proofs.Common.{◌≡◌, length, get_or}
use Rattle.carried_graphs.specs.Places.{AreGreatest}
use Rattle.carried_graphs.proofs.lasts.lasts_by.Given as goal

abbrev pub invariant-loop-i : goal.invariant-loop-i
invariant-loop-i l = record {
  len : length l.lasts.items ≡ l.i;
  are : AreGreatest (λ v. get_or l.places v 0) l.items l.lasts.items l.i;
}
