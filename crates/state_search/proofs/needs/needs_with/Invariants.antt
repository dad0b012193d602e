use Rattle.std.proofs.Common.{◌≡◌, ℕ, ◌+◌, ◌-◌, ◌≤◌, ◌<◌, length, get_or}
use Rattle.shared_systems.specs.Shared.{shared_need_of}
use Rattle.state_search.proofs.needs.needs_with.Given as goal

abbrev pub invariant-loop-i : goal.invariant-loop-i
invariant-loop-i l = record {
  len : length l.needs.items ≡ l.i;
  needs : (v : ℕ) → 1 ≤ v → v < l.i + 1 → get_or l.needs.items (v - 1) 0 ≡ shared_need_of l.system v;
}
