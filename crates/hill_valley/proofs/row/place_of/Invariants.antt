use Rattle.std.proofs.Common.{◌≡◌, ℕ, ◌+◌, ◌-◌, ◌<◌, ◌≤◌, length}
use Rattle.hill_valley.specs.Places.{up_at}
use Rattle.hill_valley.proofs.row.place_of.Given as goal

abbrev pub invariant-loop-low : goal.invariant-loop-low
invariant-loop-low l = record {
  order : l.low ≤ l.high;
  within : l.high ≤ length l.row.items;
  below : (i : ℕ) → i + 1 ≡ l.low → up_at i l.row.items < l.up;
  above : l.high < length l.row.items → l.up ≤ up_at l.high l.row.items;
}

abbrev pub decreases-loop-low : goal.decreases-loop-low
decreases-loop-low l = l.high - l.low
