-- The columns of fronts in arrays of numbers, as a caller gives them: columns in the order in which they are eliminated, counted from a
-- base; the front of each column; and the fronts, numbered from 1, in an order.
use Rattle.std.specs.Prelude.{◌≡◌, ◌≢◌, ◌==◌, ℕ, ◌+◌, ◌-◌, ◌<◌, ◌≤◌, List, length, filter, slice_index}
use Rattle.std.specs.List.{flat_map}
use Rattle.lists.specs.Numbers.{Each, IsFirstWithout, number_at}
use Rattle.limits.specs.Limits.{most_order, most_tasks}
use Rattle.permutations.specs.Order.{IsNumbersRefusal, order_given}
use Rattle.permutations.specs.Perm.{IsPerm, IsVertex}
use Rattle.equivalent_orders.specs.declared.arrays.FrontsRefusal.{FrontsRefusal}
use Rattle.equivalent_orders.specs.declared.arrays.FrontsRefusal.TheVariants as refusals

-- a vertex, as the number of a column that counts from a base
abbrev pub number_from : ℕ → ℕ → ℕ
number_from base vertex = vertex - 1 + base

-- the front of a column
abbrev pub front_of_column : ℕ → List ℕ → ℕ → ℕ
front_of_column base front_of column = slice_index front_of (column - base)

-- the columns of each front in the order in which they stand, one front after another
abbrev pub columns_along : ℕ → List ℕ → List ℕ → List ℕ → List ℕ
columns_along base columns front_of fronts =
    flat_map (λ s. filter (λ column. front_of_column base front_of column == s) columns) fronts

-- how many columns and fronts there may be, and a front for each column
pub record AreCounted (columns front_of fronts : List ℕ) : Type 0 where
  pub few : length columns ≤ most_order
  pub one_each : length front_of ≡ length columns
  pub few_fronts : length fronts ≤ most_tasks

-- the front of column k is one of those in the order
abbrev pub FrontFits : List ℕ → List ℕ → ℕ → Type 0
FrontFits front_of fronts k = IsVertex (length fronts) (number_at front_of k)

-- each column once, with its front, and each front once
pub record AreFrontColumns (base : ℕ) (columns front_of fronts : List ℕ) : Type 0 where
  pub counted : AreCounted columns front_of fronts
  pub columns_once : IsPerm (length columns) (order_given base columns)
  pub fronts_once : IsPerm (length fronts) fronts
  pub fronts_fit : Each (length front_of) (FrontFits front_of fronts)

-- the first test that fails, with the first place that fails it; want of memory tells nothing
abbrev pub IsFrontsRefusal : ℕ → List ℕ → List ℕ → List ℕ → FrontsRefusal → Type 0
IsFrontsRefusal base columns front_of fronts refusals.ManyColumns = most_order < length columns
IsFrontsRefusal base columns front_of fronts refusals.Lengths = (length columns ≤ most_order) × (length front_of ≢ length columns)
IsFrontsRefusal base columns front_of fronts refusals.ManyFronts =
    (length columns ≤ most_order) × (length front_of ≡ length columns) × (most_tasks < length fronts)
IsFrontsRefusal base columns front_of fronts (refusals.Columns refusal) =
    AreCounted columns front_of fronts × IsNumbersRefusal base (length columns) columns refusal
IsFrontsRefusal base columns front_of fronts (refusals.Fronts refusal) =
    AreCounted columns front_of fronts × IsPerm (length columns) (order_given base columns)
    × IsNumbersRefusal 1 (length fronts) fronts refusal
IsFrontsRefusal base columns front_of fronts (refusals.Front k) =
    AreCounted columns front_of fronts × IsPerm (length columns) (order_given base columns) × IsPerm (length fronts) fronts
    × IsFirstWithout (length front_of) (FrontFits front_of fronts) k
IsFrontsRefusal base columns front_of fronts refusals.NoMemory = Unit {0}
