-- No public clause names this.
-- Edges, and the rows of what they lead to: from a task to each reader of what it makes, and from a task to each shared item that it reads.
use Rattle.std.specs.Prelude.{◌≡◌, ◌==◌, ℕ, ◌+◌, ◌<◌, Option, None, Some, All, List, [], ◌∷◌, ◌++◌, length, map, count_by}
use Rattle.std.specs.List.{filter, flat_map}
use Rattle.row_table.specs.Rows.{row_at}
use Rattle.shared_systems.specs.Shared.{SharedTaskSystem, SharedItem, HasTask}
use Rattle.activation.specs.declared.edges.Edge.{Edge}
use Rattle.activation.specs.Schedule.{task_entry}
use Rattle.activation.specs.Tables.{is_edge, shared_items_of, numbers_read}

abbrev pub edge : ℕ → ℕ → Edge
edge from to = record { from = from; to = to }

-- both numbers are below the counts
pub record IsEdgeWithin (starts ends : ℕ) (e : Edge) : Type 0 where
  pub from : e.from < starts
  pub to : e.to < ends

-- where the edges from a number lead, in the order of the edges
abbrev pub ends_from : ℕ → List Edge → List ℕ
ends_from k edges = map (λ e. e.to) (filter (λ e. e.from == k) edges)

-- from the place of an item's producer, if it has one, to those of its readers
abbrev pub item_edges : (ℕ → ℕ) → Option ℕ → List ℕ → List Edge
item_edges place None readers = []
item_edges place (Some u) readers = map (λ c. edge (place u) (place c)) readers

abbrev pub consumer_edges : (ℕ → ℕ) → List SharedItem → List Edge
consumer_edges place items = flat_map (λ x. item_edges place x.from x.readers) items

-- from the places of an item's readers to its number
abbrev pub number_edges : (ℕ → ℕ) → ℕ → List ℕ → List Edge
number_edges place number readers = map (λ c. edge (place c) number) readers

-- of items that are numbered from `first` on
abbrev pub reading_edges : (ℕ → ℕ) → ℕ → List SharedItem → List Edge
reading_edges place first [] = []
reading_edges place first (x ∷ xs) = number_edges place first x.readers ++ reading_edges place (first + 1) xs

-- the row of a task's place has the place of each task that reads an output of it, once for each item between the two
pub record AreConsumersOf (system : SharedTaskSystem) (places : List ℕ) (rows : List (List ℕ)) : Type 0 where
  pub long : length rows ≡ length system.tasks
  pub within : (k : ℕ) → k < length rows → All (λ p. p < length system.tasks) (row_at rows k)
  pub counts : (t u : ℕ) → HasTask system t → HasTask system u →
      count_by (λ p. p == task_entry places u) (row_at rows (task_entry places t)) ≡ count_by (is_edge t u) system.items

-- the row of a task's place has the numbers of the shared items that it reads
pub record AreReadingsOf (system : SharedTaskSystem) (places : List ℕ) (rows : List (List ℕ)) : Type 0 where
  pub long : length rows ≡ length system.tasks
  pub rows_are : (t : ℕ) → HasTask system t → row_at rows (task_entry places t) ≡ numbers_read t 0 (shared_items_of system)
