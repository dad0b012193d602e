-- No public clause names this.
-- Items as spans of steps along a traversal, and the amounts that are spilled of them.
use Rattle.std.specs.Prelude.{◌≡◌, ◌==◌, ℕ, suc, ◌+◌, ◌-◌, ◌*◌, ◌<◌, ◌≤◌, ◌&&◌, ◌⊎◌, nat_lt, nat_le, if◌then◌else◌, Bool}
use Rattle.std.specs.Prelude.{true, false, All, Option, count_by}
use Rattle.std.specs.Prelude.{Some, None, List, length, slice_index, slice_index_or}
use Rattle.std.specs.List.{sum_by}
use Rattle.limits.specs.Limits.{most_tasks, most_positions, most_size, most_total, most_uses}
use Rattle.mp_system.specs.declared.system.Item.{Item}
use Rattle.graphs.specs.Graph.{IsAmong}
use Rattle.spill_plan.specs.declared.span.Span.{Span}
use Rattle.spill_plan.specs.Steps.{step_of}
use Rattle.spill_plan.specs.SpillPlans.{sum_from, most_among}

-- each of so many tasks stands once, and nothing else
pub record IsEachOnce (count : ℕ) (order : List ℕ) : Type 0 where
  pub once : (task : ℕ) → IsAmong count task → count_by (λ u. u == task) order ≡ 1
  pub tasks : All (IsAmong count) order

-- the table of the steps of so many tasks
pub record IsStepTable (count : ℕ) (order steps : List ℕ) : Type 0 where
  pub few : length order ≤ most_tasks
  pub len : length steps ≡ count
  pub each : (task : ℕ) → IsAmong count task → slice_index steps (task - 1) ≡ step_of order task

-- a task whose step is at hand, and low
abbrev pub IsInTable : List ℕ → ℕ → Type 0
IsInTable steps task = (1 ≤ task) × (task ≤ length steps) × (slice_index steps (task - 1) < most_tasks)

-- the first step across which an item is held, and the first from there on across which it is not
abbrev pub start_of_item : List ℕ → Option ℕ → ℕ
start_of_item order None = 0
start_of_item order (Some u) = suc (step_of order u)

abbrev pub end_of_item : List ℕ → Option ℕ → ℕ
end_of_item order None = length order
end_of_item order (Some w) = step_of order w

abbrev pub span_of : List ℕ → Item → Span
span_of order item = record { size = item.size; start = start_of_item order item.from; end = end_of_item order item.to }

-- ---- spans

abbrev pub no_span : Span
no_span = record { size = 0; start = 0; end = 0 }

abbrev pub span_at : List Span → ℕ → Span
span_at xs i = slice_index_or xs i no_span

-- as many spans as items may have readers, and one for each item that has none; and what these come to
abbrev pub most_spans : ℕ
most_spans = most_uses + most_positions

abbrev pub most_span_total : ℕ
most_span_total = most_uses * most_size + most_total

pub record AreItemSpans (xs : List Span) (steps : ℕ) : Type 0 where
  pub few : length xs ≤ most_spans
  pub steps_few : steps ≤ most_tasks
  pub ordered : (i : ℕ) → i < length xs → (span_at xs i).start ≤ (span_at xs i).end
  pub ends : (i : ℕ) → i < length xs → (span_at xs i).end ≤ steps
  pub total : sum_by (λ x. x.size) xs ≤ most_span_total

abbrev pub is_across : ℕ → Span → Bool
is_across k x = nat_le x.start k && nat_lt k x.end

-- the sizes of what starts at a step, and of what ends there
abbrev pub start_sum : ℕ → List Span → ℕ
start_sum k xs = sum_by (λ x. if x.start == k then x.size else 0) xs

abbrev pub end_sum : ℕ → List Span → ℕ
end_sum k xs = sum_by (λ x. if x.end == k then x.size else 0) xs

-- ---- amounts

-- what is spilled of the items held across a step, and what of them stays in memory
abbrev pub spilled_at : ℕ → (ℕ → ℕ) → List Span → ℕ
spilled_at k amount xs = sum_from 0 (λ i x. if is_across k x then amount i else 0) xs

abbrev pub kept_at : ℕ → (ℕ → ℕ) → List Span → ℕ
kept_at k amount xs = sum_from 0 (λ i x. if is_across k x then x.size - amount i else 0) xs

-- all that is spilled
abbrev pub amount_sum : (ℕ → ℕ) → List Span → ℕ
amount_sum amount xs = sum_from 0 (λ i x. amount i) xs

-- a spill plan, where step k needs `need k` for itself
pub record IsSpanPlan (xs : List Span) (steps : ℕ) (need : ℕ → ℕ) (bound : ℕ) (plan : ℕ → ℕ → ℕ) : Type 0 where
  pub within : (k i : ℕ) → k < steps → i < length xs → plan k i ≤ (span_at xs i).size
  pub absent : (k i : ℕ) → k < steps → i < length xs → is_across k (span_at xs i) ≡ false → plan k i ≡ 0
  pub fits : (k : ℕ) → k < steps → need k + kept_at k (plan k) xs ≤ bound

-- its volume
abbrev pub span_volume : ℕ → (ℕ → ℕ → ℕ) → List Span → ℕ
span_volume steps plan xs = amount_sum (λ i. most_among steps (λ k. plan k i)) xs

-- the plan that has each item's amount wherever it is held
abbrev pub span_plan : List Span → (ℕ → ℕ) → ℕ → ℕ → ℕ
span_plan xs amount k i = if is_across k (span_at xs i) then amount i else 0

-- how much has to be spilled at a step
abbrev pub demand : List Span → (ℕ → ℕ) → ℕ → ℕ → ℕ
demand xs need bound k = need k + sum_from 0 (λ i x. if is_across k x then x.size else 0) xs - bound

-- ---- the greedy, against any amounts

-- just enough: of what ends before `turn` no more than before, of what ends after it all
pub record IsJustEnough (xs : List Span) (k least : ℕ) (was is : ℕ → ℕ) : Type 0 where
  pub exact : spilled_at k is xs ≡ least
  pub turn : ℕ
  pub before : (i : ℕ) → i < length xs → (span_at xs i).end < turn → is i ≡ was i
  pub after : (i : ℕ) → i < length xs → is_across k (span_at xs i) ≡ true → turn < (span_at xs i).end → is i ≡ (span_at xs i).size

-- what one step makes of the amounts: more of the items that end last
pub record IsRaised (xs : List Span) (k least : ℕ) (was is : ℕ → ℕ) : Type 0 where
  pub within : (i : ℕ) → i < length xs → is i ≤ (span_at xs i).size
  pub more : (i : ℕ) → i < length xs → was i ≤ is i
  pub others : (i : ℕ) → i < length xs → is_across k (span_at xs i) ≡ false → is i ≡ was i
  pub enough : least ≤ spilled_at k is xs
  pub last : ((i : ℕ) → i < length xs → is i ≡ was i) ⊎ IsJustEnough xs k least was is

-- amounts after k steps beside others: on what ends before any place no more
pub record IsLowestBefore (xs : List Span) (k : ℕ) (amount other : ℕ → ℕ) : Type 0 where
  pub low : (q : ℕ) →
      sum_from 0 (λ i x. if nat_lt x.end q then amount i else 0) xs ≤ sum_from 0 (λ i x. if nat_lt x.end q then other i else 0) xs
  pub fresh : (i : ℕ) → i < length xs → k ≤ (span_at xs i).start → amount i ≡ 0

-- amounts that suffice at each step
pub record IsRival (xs : List Span) (steps : ℕ) (need : ℕ → ℕ) (bound : ℕ) (other : ℕ → ℕ) : Type 0 where
  pub within : (i : ℕ) → i < length xs → other i ≤ (span_at xs i).size
  pub meets : (k : ℕ) → k < steps → demand xs need bound k ≤ spilled_at k other xs

-- what the amounts are after k steps
pub record IsSpilledAfter (xs : List Span) (steps : ℕ) (need : ℕ → ℕ) (bound k : ℕ) (amount : ℕ → ℕ) : Type 0 where
  pub within : (i : ℕ) → i < length xs → amount i ≤ (span_at xs i).size
  pub meets : (j : ℕ) → j < k → demand xs need bound j ≤ spilled_at j amount xs
  pub fresh : (i : ℕ) → i < length xs → k ≤ (span_at xs i).start → amount i ≡ 0
  pub idle : (i : ℕ) → i < length xs → (span_at xs i).end ≤ (span_at xs i).start → amount i ≡ 0
  pub best : (other : ℕ → ℕ) → IsRival xs steps need bound other → IsLowestBefore xs k amount other
