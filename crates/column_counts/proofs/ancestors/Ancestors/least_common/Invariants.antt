use Rattle.std.proofs.Common.{◌≡◌, ◌<◌, ◌≤◌, ◌-◌, ℕ, length, slice_index}
use Rattle.column_counts.specs.Leaves.{AreSpans, AreAncestors}
use Rattle.column_counts.proofs.ancestors.Ancestors.least_common.Given as goal

abbrev pub invariant-up : goal.invariant-up
invariant-up l = record {
  len : length l.self.table.items ≡ length l.fn.self.table.items;
  place : l.above < length l.self.table.items;
  low : l.fn.column ≤ l.above;
  inside : (x : ℕ) → slice_index l.self.table.items x < length l.self.table.items;
  ancestors : (first : ℕ → ℕ) → AreSpans first → AreAncestors first (length l.fn.self.table.items) l.j (slice_index l.fn.self.table.items) →
      AreAncestors first (length l.fn.self.table.items) l.j (slice_index l.self.table.items) × (first l.above ≤ l.fn.column)
      × ((w : ℕ) → w < length l.fn.self.table.items → l.j ≤ w → first w ≤ l.fn.column → l.above ≤ w);
}

abbrev pub decreases-up : goal.decreases-up
decreases-up l = l.j - l.above
