-- What goes to disk where an order runs with less memory than its peak and an item may have several readers: it is held across the gaps
-- between its uses, may be partly on disk during each of them, and is read back whole at the gap's end (after Jacquelin et al. 2011, On
-- optimal tree traversals for sparse matrix factorization, where an item has one use and so one gap).
use Rattle.std.specs.Prelude.{◌≡◌, ℕ, ◌+◌, ◌-◌, ◌<◌, ◌≤◌, ◌&&◌, ◌||◌, nat_lt, nat_le, Bool, true, false, if◌then◌else◌, Option, Some, None}
use Rattle.std.specs.Prelude.{List, [], ◌∷◌, length, map, sum, slice_index, slice_index_or}
use Rattle.std.specs.List.{flat_map, list_all}
use Rattle.shared_systems.specs.Shared.{SharedTaskSystem, SharedItem, shared_size_where, is_read_by, shared_need_of}
use Rattle.shared_systems.specs.SharedMemory.{is_made}
use Rattle.spill_plan.specs.Steps.{step_of}
use Rattle.spill_plan.specs.SpillPlans.{sum_from, most_among}

-- a gap: an item, and the task that reads it at the gap's end, if one does
pub record Gap : Type 0 where
  pub item : SharedItem
  pub reader : Option ℕ

abbrev pub gap_to : SharedItem → ℕ → Gap
gap_to x v = record { item = x; reader = Some v }

-- a gap for each of these readers, or one to the end
abbrev pub gaps_to : SharedItem → List ℕ → List Gap
gaps_to x [] = record { item = x; reader = None } ∷ []
gaps_to x (c ∷ cs) = map (gap_to x) (c ∷ cs)

abbrev pub gaps_of_item : SharedItem → List Gap
gaps_of_item x = gaps_to x x.readers

-- those of all items, one after the other
abbrev pub gaps_of : SharedTaskSystem → List Gap
gaps_of system = flat_map gaps_of_item system.items

-- the gap at a place, counted from 0
abbrev pub nth_gap : SharedTaskSystem → ℕ → Gap
nth_gap system i = slice_index_or (gaps_of system) i (record { item = record { size = 0; from = None; readers = [] }; reader = None })

-- the tasks that stand before a step
abbrev pub stands_before : List ℕ → ℕ → ℕ → Bool
stands_before order step u = nat_lt (step_of order u) step

-- after a step the item waits for the reader v: v stands after the step, and each reader of the item stands before the step, or not before v
abbrev pub waits_for : List ℕ → ℕ → List ℕ → Option ℕ → Bool
waits_for order step readers None = true
waits_for order step readers (Some v) =
    nat_lt step (step_of order v)
    && list_all (λ c. stands_before order step c || nat_le (step_of order v) (step_of order c)) readers

-- a gap is across a step, counted from 0, where the item is made before the step, and waits across it for the gap's reader; without one it
-- stays to the end
abbrev pub is_across_gap : List ℕ → ℕ → Gap → Bool
is_across_gap order step gap = is_made (stands_before order step) gap.item && waits_for order step gap.item.readers gap.reader

-- what a task reads
abbrev pub shared_inputs_of : SharedTaskSystem → ℕ → ℕ
shared_inputs_of system v = shared_size_where (is_read_by v) system.items

-- what the task of a step needs for itself: its inputs, and its need beside them
abbrev pub own_gap_need : SharedTaskSystem → List ℕ → ℕ → ℕ
own_gap_need system order step = shared_inputs_of system (slice_index order step) + shared_need_of system (slice_index order step)

-- what of the items that are held across the step and not read by its task stays in memory, where these amounts of the gaps are on disk
abbrev pub gap_kept : SharedTaskSystem → List ℕ → ℕ → (ℕ → ℕ) → ℕ
gap_kept system order step amount =
    sum_from 0 (λ i gap. if is_across_gap order step gap then gap.item.size - amount i else 0) (gaps_of system)

-- a spill plan says for each step and each gap, both counted from 0, how much of the gap's item is on disk
pub record IsGapPlan (system : SharedTaskSystem) (order : List ℕ) (bound : ℕ) (plan : ℕ → ℕ → ℕ) : Type 0 where
  -- at most all of it
  pub within : (step i : ℕ) → step < length order → i < length (gaps_of system) → plan step i ≤ (nth_gap system i).item.size
  -- nothing where the gap is not across the step: at its end the item is read back whole
  pub absent : (step i : ℕ) → step < length order → i < length (gaps_of system) →
      is_across_gap order step (nth_gap system i) ≡ false → plan step i ≡ 0
  -- so that what stays in memory fits beside what the step needs for itself
  pub fits : (step : ℕ) → step < length order → own_gap_need system order step + gap_kept system order step (plan step) ≤ bound

-- what is once on disk stays there until the gap's end: the volume is the sum over the gaps of the greatest amount at any step
abbrev pub gap_volume : SharedTaskSystem → List ℕ → (ℕ → ℕ → ℕ) → ℕ
gap_volume system order plan = sum_from 0 (λ i gap. most_among (length order) (λ step. plan step i)) (gaps_of system)

-- the plan in which each gap has its amount at every step that it is across
abbrev pub gap_plan_by_amounts : SharedTaskSystem → List ℕ → List ℕ → ℕ → ℕ → ℕ
gap_plan_by_amounts system order amounts step i =
    if is_across_gap order step (nth_gap system i) then slice_index amounts i else 0

-- an amount for each gap, of a spill plan of which none has a lower volume
pub record IsLeastGapSpill (system : SharedTaskSystem) (order : List ℕ) (bound : ℕ) (amounts : List ℕ) (volume : ℕ) : Type 0 where
  pub len : length amounts ≡ length (gaps_of system)
  pub plan : IsGapPlan system order bound (gap_plan_by_amounts system order amounts)
  pub volume_is : volume ≡ sum amounts
  -- a gap that is across no step stays off the disk
  pub idle : (i : ℕ) → i < length (gaps_of system) →
      ((step : ℕ) → step < length order → is_across_gap order step (nth_gap system i) ≡ false) → slice_index amounts i ≡ 0
  pub least : (other : ℕ → ℕ → ℕ) → IsGapPlan system order bound other → volume ≤ gap_volume system order other

-- the first step, counted from 1, that needs more for itself than the bound
pub record IsGapWorkingSet (system : SharedTaskSystem) (order : List ℕ) (bound step need : ℕ) : Type 0 where
  pub positive : 1 ≤ step
  pub within : step ≤ length order
  pub need_is : need ≡ own_gap_need system order (step - 1)
  pub passes : bound < need
  pub first : (earlier : ℕ) → earlier < step - 1 → own_gap_need system order earlier ≤ bound
