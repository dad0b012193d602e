-- No public clause names this.
-- What the code keeps beside the amounts: the items by falling end, where they start, and what is left of them.
use Rattle.std.specs.Prelude.{◌≡◌, ◌==◌, ℕ, ◌+◌, ◌-◌, ◌<◌, ◌≤◌, ◌&&◌, nat_lt, nat_le, if◌then◌else◌, true, false, List, length, slice_index}
use Rattle.min_tree.specs.Least.{greatest}
use Rattle.spill_plan.specs.declared.refusal.SpillRefusal.{SpillRefusal}
use Rattle.spill_plan.specs.declared.refusal.SpillRefusal.TheVariants as refusals
use Rattle.spill_plan.specs.declared.span.Span.{Span}
use Rattle.spill_plan.specs.declared.spilled.Spilled.{Spilled}
use Rattle.spill_plan.specs.SpillPlans.{sum_from}
use Rattle.spill_plan.specs.Spans.{span_at, is_across, spilled_at}

-- the items in an order of falling ends
pub record IsEndRanking (xs : List Span) (ranks : List ℕ) : Type 0 where
  pub len : length ranks ≡ length xs
  pub within : (r : ℕ) → r < length xs → slice_index ranks r < length xs
  pub onto : (i : ℕ) → i < length xs → (r : ℕ) × (r < length xs) × (slice_index ranks r ≡ i)
  pub one : (r s : ℕ) → r < length xs → s < length xs → slice_index ranks r ≡ slice_index ranks s → r ≡ s
  pub falling : (r s : ℕ) → r ≤ s → s < length xs → (span_at xs (slice_index ranks s)).end ≤ (span_at xs (slice_index ranks r)).end

-- at the rank of an item of which something is left stands its start
pub record AreStartsByRank (xs : List Span) (ranks amounts values : List ℕ) : Type 0 where
  pub len : length values ≡ length xs
  pub left : (r : ℕ) → r < length xs → slice_index amounts (slice_index ranks r) < (span_at xs (slice_index ranks r)).size →
      slice_index values r ≡ (span_at xs (slice_index ranks r)).start
  pub full : (r : ℕ) → r < length xs → (span_at xs (slice_index ranks r)).size ≤ slice_index amounts (slice_index ranks r) →
      slice_index values r ≡ greatest

-- what is left of the items that end at a place
abbrev pub left_at : ℕ → (ℕ → ℕ) → List Span → ℕ
left_at e amount xs = sum_from 0 (λ i x. if x.end == e then x.size - amount i else 0) xs

abbrev pub AreLeftAt : List Span → List ℕ → List ℕ → Type 0
AreLeftAt xs amounts leaving = (e : ℕ) → e < length leaving → slice_index leaving e ≡ left_at e (slice_index amounts) xs

-- what is kept of these spans in this ranking
pub record IsSpilledState (xs : List Span) (ranks : List ℕ) (s : Spilled) : Type 0 where
  pub len : length s.amounts.items ≡ length xs
  pub within : (i : ℕ) → i < length xs → slice_index s.amounts.items i ≤ (span_at xs i).size
  pub starts : AreStartsByRank xs ranks s.amounts.items s.starts
  pub left : AreLeftAt xs s.amounts.items s.leaving.items

-- amounts in the midst of one step: those that were, and more of what ends last
pub record IsRaising (xs : List Span) (k : ℕ) (was is : ℕ → ℕ) (spilled turn : ℕ) : Type 0 where
  pub within : (i : ℕ) → i < length xs → is i ≤ (span_at xs i).size
  pub more : (i : ℕ) → i < length xs → was i ≤ is i
  pub others : (i : ℕ) → i < length xs → is_across k (span_at xs i) ≡ false → is i ≡ was i
  pub sum_is : spilled_at k is xs ≡ spilled_at k was xs + spilled
  pub before : (i : ℕ) → i < length xs → (span_at xs i).end < turn → is i ≡ was i
  pub after : (i : ℕ) → i < length xs → is_across k (span_at xs i) ≡ true → turn < (span_at xs i).end → is i ≡ (span_at xs i).size

-- what is in memory between two steps, of the items that are held across the step before or consumed by the step after
abbrev pub between_at : ℕ → (ℕ → ℕ) → List Span → ℕ
between_at k amount xs = sum_from 0 (λ i x. if nat_lt x.start k && nat_le k x.end then x.size - amount i else 0) xs

abbrev pub AreZero : List ℕ → Type 0
AreZero amounts = (i : ℕ) → slice_index amounts i ≡ 0

-- the first step whose own need is past the bound
abbrev pub IsOverNeed : List ℕ → ℕ → SpillRefusal → Type 0
IsOverNeed needs bound (refusals.Order fault) = ⊥
IsOverNeed needs bound (refusals.WorkingSet step need stated) =
    (1 ≤ step) × (step ≤ length needs) × (need ≡ slice_index needs (step - 1)) × (bound < need)
    × ((j : ℕ) → j < step - 1 → slice_index needs j ≤ bound) × (stated ≡ bound)
IsOverNeed needs bound refusals.NoMemory = ⊥
