-- No public clause names this.
-- Readers of items that have one each, or none.
use Rattle.std.specs.Prelude.{◌≡◌, ℕ, ◌<◌, ◌≤◌, List, length, slice_index, unwrap_or}
use Rattle.shared_systems.specs.Shared.{SharedItem, only, shared_item_at}

abbrev pub HasSeveral : List ℕ → Type 0
HasSeveral readers = 2 ≤ length readers

-- at most one reads, and this is its number, or 0
pub record IsSingle (readers : List ℕ) (c : ℕ) : Type 0 where
  pub few : length readers ≤ 1
  pub is : c ≡ unwrap_or (only readers) 0

-- such a number for each of the first k items
abbrev pub AreSingle : List SharedItem → List ℕ → ℕ → Type 0
AreSingle items lasts k = (i : ℕ) → i < k → IsSingle (shared_item_at items i).readers (slice_index lasts i)
