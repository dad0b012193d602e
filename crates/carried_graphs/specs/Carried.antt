-- Shared systems in which one reader of each item comes after all its other readers, as task graphs: the item is held to the end of that
-- reader in every order, so it alone carries the item, and each other reader only waits for the producer.
use Rattle.std.specs.Prelude.{◌≡◌, ◌≢◌, ◌==◌, ℕ, ◌<◌, max, true, if◌then◌else◌, List, [], ◌∷◌, ◌++◌, length, map, unwrap_or}
use Rattle.std.specs.Prelude.{slice_index}
use Rattle.graphs.specs.declared.arc.Arc.{Arc}
use Rattle.graphs.specs.Graph.{TaskGraph}
use Rattle.shared_systems.specs.Shared.{SharedTaskSystem, SharedItem, is_read_by, shared_item_at}
use Rattle.shared_systems.specs.Paths.{ComesAfter}

-- z reads the item, and each other reader comes before it
pub record IsLastReader (system : SharedTaskSystem) (x : SharedItem) (z : ℕ) : Type 0 where
  pub reads : is_read_by z x ≡ true
  pub others : (r : ℕ) → is_read_by r x ≡ true → r ≢ z → ComesAfter system r z

-- the number of a last reader of the item, or 0 if it has no reader
pub record IsLastIfAny (system : SharedTaskSystem) (x : SharedItem) (z : ℕ) : Type 0 where
  pub some : 0 < length x.readers → IsLastReader system x z
  pub none : length x.readers ≡ 0 → z ≡ 0

-- such a number for each item
pub record AreLastReaders (system : SharedTaskSystem) (lasts : List ℕ) : Type 0 where
  pub len : length lasts ≡ length system.items
  pub each : (i : ℕ) → i < length system.items → IsLastIfAny system (shared_item_at system.items i) (slice_index lasts i)

-- the arc from the producer of an item, 0 for none, to reader c: the last reader z gets the item, and each other one an arc of size 0
abbrev pub reader_arc : SharedItem → ℕ → ℕ → Arc
reader_arc x z c = record { from = unwrap_or x.from 0; to = c; size = if c == z then x.size else 0 }

-- what nobody reads goes to none, and stays
abbrev pub arcs_to : SharedItem → ℕ → List ℕ → List Arc
arcs_to x z [] = record { from = unwrap_or x.from 0; to = 0; size = x.size } ∷ []
arcs_to x z (c ∷ cs) = map (reader_arc x z) (c ∷ cs)

-- the arcs of an item whose last reader is z
abbrev pub item_arcs : SharedItem → ℕ → List Arc
item_arcs x z = arcs_to x z x.readers

-- those of all items, one after the other
abbrev pub carried_arcs : List ℕ → List SharedItem → List Arc
carried_arcs [] items = []
carried_arcs (z ∷ lasts) [] = []
carried_arcs (z ∷ lasts) (x ∷ items) = item_arcs x z ++ carried_arcs lasts items

-- the graph of a system, where these are the last readers of its items
abbrev pub carried : List ℕ → SharedTaskSystem → TaskGraph
carried lasts system = record { tasks = system.tasks; arcs = carried_arcs lasts system.items }

-- how many arcs an item has
abbrev pub arc_count : SharedItem → ℕ
arc_count x = max 1 (length x.readers)
