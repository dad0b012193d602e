-- What goes to disk where an order runs with less memory than its peak (Jacquelin et al. 2011, On optimal tree traversals for sparse matrix
-- factorization: the I/O volume of a traversal, here of items that are divisible into units).
use Rattle.std.specs.Prelude.{◌≡◌, ℕ, zero, suc, ◌+◌, ◌-◌, ◌<◌, ◌≤◌, ◌&&◌, max, not, Bool, false, if◌then◌else◌, None, List, [], ◌∷◌}
use Rattle.std.specs.Prelude.{length, take, sum, slice_index, slice_index_or}
use Rattle.mp_system.specs.declared.system.Item.{Item}
use Rattle.mp_system.specs.System.{TaskSystem, inputs_of, need_of}
use Rattle.mp_system.specs.Memory.{is_produced, is_consumed, stands_in}

-- an item is held across a step, counted from 0, where its producer is none or stands before that step, and its consumer is none or stands
-- after it
abbrev pub is_held : List ℕ → ℕ → Item → Bool
is_held order step item = is_produced (stands_in (take step order)) item && not (is_consumed (stands_in (take (suc step) order)) item)

-- what the task of a step needs for itself: its inputs, and its need beside them
abbrev pub own_need : TaskSystem → List ℕ → ℕ → ℕ
own_need system order step = inputs_of system (slice_index order step) + need_of system (slice_index order step)

-- the item at a place, counted from 0
abbrev pub nth_item : TaskSystem → ℕ → Item
nth_item system i = slice_index_or system.items i (record { size = 0; from = None; to = None })

-- the sum of what each element gives with its place; the first element has the place `first`
abbrev pub sum_from : {X : Type 0} → ℕ → (ℕ → X → ℕ) → List X → ℕ
sum_from first f [] = 0
sum_from first f (x ∷ xs) = f first x + sum_from (suc first) f xs

-- what of the items held across a step stays in memory, where these amounts of them are on disk
abbrev pub kept_across : TaskSystem → List ℕ → ℕ → (ℕ → ℕ) → ℕ
kept_across system order step amount = sum_from 0 (λ i item. if is_held order step item then item.size - amount i else 0) system.items

-- a spill plan says for each step and each item, both counted from 0, how much of the item is on disk
pub record IsSpillPlan (system : TaskSystem) (order : List ℕ) (bound : ℕ) (plan : ℕ → ℕ → ℕ) : Type 0 where
  -- at most all of it
  pub within : (step i : ℕ) → step < length order → i < length system.items → plan step i ≤ (nth_item system i).size
  -- nothing where it is not held across the step
  pub absent : (step i : ℕ) → step < length order → i < length system.items →
      is_held order step (nth_item system i) ≡ false → plan step i ≡ 0
  -- so that what stays in memory fits beside what the step needs for itself
  pub fits : (step : ℕ) → step < length order → own_need system order step + kept_across system order step (plan step) ≤ bound

-- the greatest of the first so many numbers of a row
abbrev pub most_among : ℕ → (ℕ → ℕ) → ℕ
most_among zero f = 0
most_among (suc n) f = max (f n) (most_among n f)

-- what is once on disk stays there: the volume is the sum over the items of the greatest amount at any step
abbrev pub plan_volume : TaskSystem → List ℕ → (ℕ → ℕ → ℕ) → ℕ
plan_volume system order plan = sum_from 0 (λ i item. most_among (length order) (λ step. plan step i)) system.items

-- the plan in which each item has its amount at every step across which it is held
abbrev pub plan_by_amounts : TaskSystem → List ℕ → List ℕ → ℕ → ℕ → ℕ
plan_by_amounts system order amounts step i = if is_held order step (nth_item system i) then slice_index amounts i else 0

-- an amount for each item, of a spill plan of which none has a lower volume
pub record IsLeastSpill (system : TaskSystem) (order : List ℕ) (bound : ℕ) (amounts : List ℕ) (volume : ℕ) : Type 0 where
  pub len : length amounts ≡ length system.items
  pub plan : IsSpillPlan system order bound (plan_by_amounts system order amounts)
  pub volume_is : volume ≡ sum amounts
  -- an item that is held across no step stays off the disk
  pub idle : (i : ℕ) → i < length system.items →
      ((step : ℕ) → step < length order → is_held order step (nth_item system i) ≡ false) → slice_index amounts i ≡ 0
  pub least : (other : ℕ → ℕ → ℕ) → IsSpillPlan system order bound other → volume ≤ plan_volume system order other

-- the first step, counted from 1, that needs more for itself than the bound
pub record IsWorkingSet (system : TaskSystem) (order : List ℕ) (bound step need : ℕ) : Type 0 where
  pub positive : 1 ≤ step
  pub within : step ≤ length order
  pub need_is : need ≡ own_need system order (step - 1)
  pub passes : bound < need
  pub first : (earlier : ℕ) → earlier < step - 1 → own_need system order earlier ≤ bound
