-- No public clause names this.
-- The readers of items by their places in an order.
use Rattle.std.specs.Prelude.{◌≡◌, ◌≢◌, ℕ, ◌-◌, ◌<◌, ◌≤◌, true, List, length, slice_index}
use Rattle.std.specs.List.{All}
use Rattle.mp_system.specs.Memory.{stands_in}
use Rattle.shared_systems.specs.Shared.{SharedItem, shared_item_at}

-- one of the readers, whose place none passes; 0 without readers
pub record IsGreatest (place : ℕ → ℕ) (readers : List ℕ) (z : ℕ) : Type 0 where
  pub some : 0 < length readers → stands_in readers z ≡ true
  pub none : length readers ≡ 0 → z ≡ 0
  pub greatest : All (λ c. place c ≤ place z) readers

-- the readers of the item at a place, counted from 0
abbrev pub readers_at : List SharedItem → ℕ → List ℕ
readers_at items i = (shared_item_at items i).readers

-- such a number for each of the first k items
abbrev pub AreGreatest : (ℕ → ℕ) → List SharedItem → List ℕ → ℕ → Type 0
AreGreatest place items lasts k = (i : ℕ) → i < k → IsGreatest place (readers_at items i) (slice_index lasts i)

-- at this item, counted from 1, another number is such, and at the items before it these are
pub record IsFirstOther (place : ℕ → ℕ) (items : List SharedItem) (lasts : List ℕ) (k : ℕ) : Type 0 where
  pub some : 1 ≤ k
  pub within : k ≤ length items
  pub before : AreGreatest place items lasts (k - 1)
  pub other : ℕ
  pub greatest : IsGreatest place (readers_at items (k - 1)) other
  pub apart : other ≢ slice_index lasts (k - 1)
