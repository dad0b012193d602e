use Rattle.std.proofs.Common.{◌≡◌, ℕ, ◌+◌, length, take, get_or}
use Rattle.shared_systems.specs.Shared.{is_read_by, shared_size_where}
use Rattle.bound_search.proofs.needs.inputs_of.Given as goal

abbrev pub invariant-loop-i : goal.invariant-loop-i
invariant-loop-i l = record {
  len : length l.sums.items ≡ l.count + 1;
  sums : (v : ℕ) → get_or l.sums.items v 0 ≡ shared_size_where (is_read_by v) (take l.i l.items);
}
