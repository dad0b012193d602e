use Rattle.std.proofs.Common.{◌≡◌, ℕ, ◌+◌, ◌-◌, ◌≤◌, max, [], length, get_or}
use Rattle.rounds_run.proofs.rounds.reach.Given as goal

abbrev pub invariant-more : goal.invariant-more
invariant-more l = record {
  long : length l.fn.lists.items ≤ length l.lists.items;
  within : length l.lists.items ≤ max (length l.fn.lists.items) (l.place + 1);
  same : (k : ℕ) → get_or l.lists.items k [] ≡ get_or l.fn.lists.items k [];
}

abbrev pub decreases-more : goal.decreases-more
decreases-more l = l.place + 1 - length l.lists.items
