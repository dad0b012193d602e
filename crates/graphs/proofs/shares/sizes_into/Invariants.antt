use Rattle.std.proofs.Common.{◌≡◌, ◌+◌, ℕ, length, take, get_or}
use Rattle.std.specs.List.{sum_by}
use Rattle.graphs.specs.Graph.{size_into}
use Rattle.graphs.proofs.shares.sizes_into.Given as goal

abbrev pub invariant-loop-arc : goal.invariant-loop-arc
invariant-loop-arc l = record {
  len : length l.sizes.items ≡ l.count + 1;
  sums : (v : ℕ) → get_or l.sizes.items v 0 ≡ sum_by (size_into v) (take l.arc-index l.arcs);
}
