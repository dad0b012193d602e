use Rattle.std.proofs.Common.{◌≡◌, ◌+◌, ℕ, eqb, length, take, get_or}
use Rattle.std.specs.List.{count_by}
use Rattle.graphs.proofs.counts.count_ends.Given as goal

abbrev pub invariant-loop-end : goal.invariant-loop-end
invariant-loop-end l = record {
  len : length l.counts.items ≡ l.count + 1;
  counts : (v : ℕ) → get_or l.counts.items v 0 ≡ count_by (λ e. eqb e v) (take l.end-index l.ends);
}
