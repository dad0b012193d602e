-- No public clause names this.
-- The table of the places of the vertices, as the judge of an order fills it.
use Rattle.std.specs.Prelude.{◌≡◌, ◌≢◌, ℕ, ◌+◌, ◌<◌, ◌≤◌, List, length, slice_index}
use Rattle.lists.specs.Numbers.{from_one, number_at}
use Rattle.permutations.specs.Order.{PlaceFits}

-- the first i places are right, and the table has the place of each vertex that stands there, and 0 for all others
pub record ArePlaced (base n : ℕ) (numbers places : List ℕ) (i : ℕ) : Type 0 where
  pub len : length places ≡ n + 1
  pub unused : slice_index places 0 ≡ 0
  pub fit : (k : ℕ) → 1 ≤ k → k < i + 1 → PlaceFits base n numbers k
  pub placed : (k : ℕ) → 1 ≤ k → k < i + 1 → slice_index places (from_one base (number_at numbers k)) ≡ k
  pub told : (v : ℕ) → 1 ≤ v → v ≤ n → slice_index places v ≢ 0 →
      (slice_index places v < i + 1) × (from_one base (number_at numbers (slice_index places v)) ≡ v)
