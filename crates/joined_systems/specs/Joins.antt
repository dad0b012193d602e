-- Which tasks of a shared system need a join after them. A task graph has a series-parallel term only where the tasks that supply several
-- others together hand all they make over at one place; and an item that several tasks read, no one of them last, is known to go only at
-- such a place.
use Rattle.std.specs.Prelude.{◌≡◌, ◌≢◌, ◌↔◌, ◌⊎◌, ℕ, ◌+◌, ◌-◌, ◌<◌, ◌≤◌, max, true, List, [], ◌∷◌, length, take, slice_index}
use Rattle.row_table.specs.Rows.{numbers_with}
use Rattle.shared_systems.specs.Shared.{SharedTaskSystem, HasTask, shared_item_at, is_read_by}
use Rattle.shared_systems.specs.Paths.{reads_from}

-- the tasks that read what u makes are those that read what v makes
abbrev pub HaveSameReaders : SharedTaskSystem → ℕ → ℕ → Type 0
HaveSameReaders system u v = (w : ℕ) → reads_from system u w ≡ reads_from system v w

-- another task has the same readers as v, and these are at least two
pub record SuppliesWithAnother (system : SharedTaskSystem) (v : ℕ) : Type 0 where
  pub other : ℕ
  pub task : HasTask system other
  pub apart : other ≢ v
  pub same : HaveSameReaders system v other
  pub first : ℕ
  pub second : ℕ
  pub order : first < second
  pub first_reads : reads_from system v first ≡ true
  pub second_reads : reads_from system v second ≡ true

-- v has a reader, and some item has at least two readers: just the tasks that have the same readers as v
pub record ReadsWithAll (system : SharedTaskSystem) (v : ℕ) : Type 0 where
  pub reader : ℕ
  pub reads : reads_from system v reader ≡ true
  pub place : ℕ
  pub inside : place < length system.items
  pub several : 2 ≤ length (shared_item_at system.items place).readers
  pub just : (u : ℕ) → HasTask system u → ((is_read_by u (shared_item_at system.items place) ≡ true) ↔ HaveSameReaders system v u)

-- v is one of at least two tasks with the same, not empty, set of readers, and that set has two members or they are the readers of an item
abbrev pub NeedsJoin : SharedTaskSystem → ℕ → Type 0
NeedsJoin system v = SuppliesWithAnother system v ⊎ ReadsWithAll system v

-- the number of the join that comes after a task; 0 for none
abbrev pub join_of : List ℕ → ℕ → ℕ
join_of joins v = slice_index joins (v - 1)

-- the tasks that join k comes after, in rising order
abbrev pub tasks_of : List ℕ → ℕ → List ℕ
tasks_of joins k = numbers_with joins 1 k

-- how many joins there are: the greatest of their numbers
abbrev pub join_count : List ℕ → ℕ
join_count [] = 0
join_count (j ∷ joins) = max j (join_count joins)

-- the numbers of the joins after the tasks: a task has one just where it needs one, two tasks have the same just where they have the same
-- readers, and the joins are numbered from 1 in the order of their first tasks. So there is one such list
pub record AreJoins (system : SharedTaskSystem) (joins : List ℕ) : Type 0 where
  pub len : length joins ≡ length system.tasks
  pub needed : (v : ℕ) → HasTask system v → ((join_of joins v ≢ 0) ↔ NeedsJoin system v)
  pub same : (u v : ℕ) → HasTask system u → HasTask system v → join_of joins u ≢ 0 → join_of joins v ≢ 0
      → ((join_of joins u ≡ join_of joins v) ↔ HaveSameReaders system u v)
  pub counted : (i : ℕ) → i < length joins → slice_index joins i ≤ join_count (take i joins) + 1

-- what the laws need of them: tasks with the same join have the same readers, and each join has a task
pub record AreSafeJoins (system : SharedTaskSystem) (joins : List ℕ) : Type 0 where
  pub len : length joins ≡ length system.tasks
  pub same : (u v : ℕ) → HasTask system u → HasTask system v → join_of joins u ≢ 0 → join_of joins u ≡ join_of joins v
      → HaveSameReaders system u v
  pub used : (k : ℕ) → 1 ≤ k → k ≤ join_count joins → (v : ℕ) × (HasTask system v × (join_of joins v ≡ k))
