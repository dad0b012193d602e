-- No public clause names this.
-- What tells that a task needs a join, by the first task with the same readers as each.
use Rattle.std.specs.Prelude.{◌≡◌, ◌≢◌, ◌↔◌, ◌⊎◌, ℕ, ◌+◌, ◌<◌, ◌≤◌, Bool, true, false, List, length, map, take, slice_index}
use Rattle.std.specs.Prelude.{slice_index_or}
use Rattle.row_table.specs.Rows.{has, row_at, numbers_with}
use Rattle.shared_systems.specs.Shared.{SharedItem, shared_item_at}
use Rattle.joined_systems.specs.Joins.{join_count}

-- two numbers stand in a list, one less than the other
pub record HasTwo (xs : List ℕ) : Type 0 where
  pub first : ℕ
  pub second : ℕ
  pub order : first < second
  pub first_in : has xs first ≡ true
  pub second_in : has xs second ≡ true

-- one of the first items has several readers, which are just the tasks of this leader
pub record IsReadByAll (leaders : List ℕ) (items : List SharedItem) (most leader : ℕ) : Type 0 where
  pub place : ℕ
  pub inside : place < most
  pub several : 2 ≤ length (shared_item_at items place).readers
  pub just : (shared_item_at items place).readers ≡ numbers_with leaders 1 leader

-- a task has a number just where it needs a join, and two have the same just where they have the same leader; they count from 1
pub record AreNumbers (leaders : List ℕ) (needs : List Bool) (joins : List ℕ) : Type 0 where
  pub len : length joins ≡ length leaders
  pub needed : (i : ℕ) → i < length joins → ((slice_index joins i ≢ 0) ↔ (slice_index_or needs i false ≡ true))
  pub same : (i j : ℕ) → i < length joins → j < length joins → slice_index joins i ≢ 0 → slice_index joins j ≢ 0
      → ((slice_index joins i ≡ slice_index joins j) ↔ (slice_index leaders i ≡ slice_index leaders j))
  pub counted : (i : ℕ) → i < length joins → slice_index joins i ≤ join_count (take i joins) + 1

-- task v needs a join, as rows tell: those of the tasks of each leader, and those of the uses of what each task makes
abbrev pub TellsNeed : List (List ℕ) → List Bool → List (List ℕ) → List ℕ → ℕ → ℕ → Type 0
TellsNeed rows released uses takers leader v =
    ((slice_index_or released leader false ≡ true) × (1 ≤ length (row_at uses v)))
    ⊎ ((2 ≤ length (row_at rows leader)) × HasTwo (map (slice_index takers) (row_at uses v)))
