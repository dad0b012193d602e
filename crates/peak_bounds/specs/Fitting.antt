-- No public clause names this.
-- Where the uses of each item stand, and whether lowered sizes that differ at few places from others count for more than an item is.
use Rattle.std.specs.Prelude.{◌≡◌, ℕ, ◌+◌, ◌-◌, ◌<◌, ◌≤◌, ◌↔◌, List, All, IsTrue, length, take, slice_range, slice_index_or, ℤ}
use Rattle.std.specs.List.{sum_by}
use Rattle.shared_systems.specs.Shared.{SharedItem, shared_item_at}
use Rattle.peak_bounds.specs.declared.evidence.Amount.{Amount}
use Rattle.peak_bounds.specs.declared.fitting.Fitting.{Fitting}
use Rattle.peak_bounds.specs.Moments.{uses_of, above_zero, FitSizes}
use Rattle.peak_bounds.specs.Evidence.{amount_or}
use Rattle.peak_bounds.specs.Judging.{size_at}

-- how many uses the items before the one at a place have: so its own begin there, where places are counted from 0
abbrev pub use_start : List SharedItem → ℕ → ℕ
use_start items i = length (uses_of (take i items))

-- the item at a place counts for at most what it is
abbrev pub FitsAt : List SharedItem → List ℤ → ℕ → Type 0
FitsAt items sizes i = sum_by above_zero (slice_range sizes (use_start items i) (use_start items (i + 1))) ≤ (shared_item_at items i).size

-- the uses of the first so many items begin at these places, and those of the last of them end at one more
pub record AreStarts (items : List SharedItem) (count : ℕ) (starts : List ℕ) : Type 0 where
  pub len : length starts ≡ count + 1
  pub each : (i : ℕ) → i ≤ count → slice_index_or starts i 0 ≡ use_start items i

-- these are the items of their uses
pub record AreItemsOfUses (items : List SharedItem) (count : ℕ) (of_uses : List ℕ) : Type 0 where
  pub len : length of_uses ≡ use_start items count
  pub within : All (λ i. i < length items) of_uses
  pub each : (i k : ℕ) → i < count → use_start items i ≤ k → k < use_start items (i + 1) → slice_index_or of_uses k 0 ≡ i

pub record ArePlaced (items : List SharedItem) (fitting : Fitting) : Type 0 where
  pub starts : AreStarts items (length items) fitting.starts.items
  pub of_uses : AreItemsOfUses items (length items) fitting.items.items

-- the item of the use that an amount is told of
abbrev pub item_told : Fitting → Amount → ℕ
item_told fitting told = slice_index_or fitting.items.items (told.place - 1) 0

-- and whether no item counts for more than it is in these sizes
pub record IsFitting (items : List SharedItem) (base : List ℤ) (fitting : Fitting) : Type 0 where
  pub placed : ArePlaced items fitting
  pub fits : IsTrue fitting.fits ↔ FitSizes items base

-- sizes differ from others where amounts are told of them
abbrev pub IsPut : List ℤ → List Amount → List ℤ → Type 0
IsPut base own sizes = (length sizes ≡ length base) × ((k : ℕ) → k < length sizes → size_at sizes k ≡ amount_or (size_at base k) own (k + 1))
