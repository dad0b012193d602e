use Rattle.std.proofs.Common.{◌≡◌, ◌-◌, ◌<◌, ℕ, length, map}
use Rattle.std.specs.List.{range_with_len}
use Rattle.column_counts.specs.Leaves.{HasCount}
use Rattle.column_counts.proofs.leaves.Leaves.counts.Given as goal

abbrev pub invariant-loop-column : goal.invariant-loop-column
invariant-loop-column l =
    (count : ℕ → ℕ) → ((x : ℕ) → 0 < x → x < length l.firsts → HasCount l.firsts l.self x (count x))
    → l.counts.items ≡ map count (range_with_len 1 (l.column - 1))
