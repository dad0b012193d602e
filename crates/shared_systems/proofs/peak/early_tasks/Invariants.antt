use Rattle.std.proofs.Common.{◌≡◌, ◌+◌, ℕ, false, not, length, take, get_or}
use Rattle.shared_systems.specs.Places.{are_in_time}
use Rattle.shared_systems.proofs.peak.early_tasks.Given as goal

abbrev pub invariant-loop-i : goal.invariant-loop-i
invariant-loop-i l = record {
  len : length l.early.items ≡ l.count + 1;
  early : (v : ℕ) → get_or l.early.items v false ≡ not (are_in_time (λ u. get_or l.places u 0) v (take l.i l.items));
}
