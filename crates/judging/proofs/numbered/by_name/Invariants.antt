use Rattle.std.proofs.Common.{◌≡◌, ◌-◌, ℕ, ◌<◌, length, get_or}
use Rattle.judging.proofs.numbered.by_name.Given as goal

abbrev pub invariant-loop-i : goal.invariant-loop-i
invariant-loop-i l = record {
  long : length l.named.items ≡ length l.names;
  each : (k : ℕ) → k < l.i → get_or l.named.items (get_or l.names k 0 - 1) 0 ≡ get_or l.positions k 0;
}
