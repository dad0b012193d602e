-- No public clause names this.
-- The arrow, whose vertex 1 is joined to 2, 3 and 4, in the order 2 3 1 4: its columns, the rows of its fronts, and the rounds in which two
-- workers make them within 4 rows.
use Rattle.std.specs.Prelude.{◌≡◌, ℕ, Bool, Option, Some, None, List, [], ◌∷◌, map, refl}
use Rattle.std.specs.List.{range_with_len}
use Rattle.mp_system.specs.declared.system.Task.{Task}
use Rattle.mp_system.specs.declared.system.Item.{Item}
use Rattle.patterns.specs.Pattern.{are_named}
use Rattle.ordering.specs.Fill.{eliminate, graph_at}
use Rattle.assembly_tree.specs.Assembly.{super_of, super_at, front_of}
use Rattle.assembly_tree.specs.Amalgamation.{amalgamated}
use Rattle.assembly_tree.specs.Samples.{turned_arrow}
use Rattle.symbolic.specs.FrontTree.{columns, relaxed}
use Rattle.activation.specs.declared.events.EventKind.{EventKind}
use Rattle.activation.specs.declared.events.EventKind.TheVariants.{Activate, Start, Finish}
use Rattle.activation.specs.declared.events.Event.{Event}
use Rattle.activation.specs.Machine.{phase_in, with_phase, start_state}
use Rattle.activation.specs.Schedule.{most_used}
use Rattle.rounds_run.specs.FrontRows.{rows_of_front, list_of_front}
use Rattle.rounds_run.specs.RowSystem.{row_system, row_order, row_peak, row_setting}
use Rattle.rounds_run.specs.Rounds.{round_count, started_at}

-- ---- columns

abbrev pub rows : List (List ℕ)
rows = (2 ∷ 3 ∷ 4 ∷ []) ∷ (1 ∷ []) ∷ (1 ∷ []) ∷ (1 ∷ []) ∷ []

abbrev pub order : List ℕ
order = 2 ∷ 3 ∷ 1 ∷ 4 ∷ []

-- which of 0 to 5 are joined, to each of them
abbrev pub table : (ℕ → ℕ → Bool) → List (List Bool)
table joined = map (λ a. map (joined a) (range_with_len 0 6)) (range_with_len 0 6)

-- the middle of the arrow is column 3
pub joined_columns : table (columns rows order) ≡ table (are_named ((1, 3) ∷ (2, 3) ∷ (3, 4) ∷ []))
joined_columns = refl

-- columns 3 and 4 are in the third supernode, and 0 and 5 in none; each front has two rows
pub supernodes_of_columns : map (super_of turned_arrow.nodes) (range_with_len 0 6) ≡ 0 ∷ 1 ∷ 2 ∷ 3 ∷ 3 ∷ 0 ∷ []
supernodes_of_columns = refl

pub orders_of_fronts : map (λ s. front_of (super_at turned_arrow.supers s)) (1 ∷ 2 ∷ 3 ∷ []) ≡ 2 ∷ 2 ∷ 2 ∷ []
orders_of_fronts = refl

-- nothing is merged where that is not asked; of one zero, the first supernode
pub merged_on_demand : relaxed None turned_arrow ∷ relaxed (Some 1) turned_arrow ∷ [] ≡ turned_arrow ∷ amalgamated 1 turned_arrow ∷ []
merged_on_demand = refl

-- ---- rows

-- of each column
pub rows_of_columns : map (rows_of_front (columns rows order) 4) (1 ∷ 2 ∷ 3 ∷ 4 ∷ []) ≡ (1 ∷ 3 ∷ []) ∷ (2 ∷ 3 ∷ []) ∷ (3 ∷ 4 ∷ []) ∷ (4 ∷ []) ∷ []
unfolding graph_at eliminate
rows_of_columns = refl

-- the third supernode has the columns 3 and 4; a fourth has no list
pub lists_of_supernodes : map (list_of_front ((1 ∷ 3 ∷ []) ∷ (2 ∷ 3 ∷ []) ∷ (3 ∷ 4 ∷ []) ∷ [])) (1 ∷ 3 ∷ 4 ∷ [])
    ≡ (1 ∷ 3 ∷ []) ∷ (3 ∷ 4 ∷ []) ∷ [] ∷ []
lists_of_supernodes = refl

-- ---- the making of rows, as a system

abbrev pub task : ℕ → Task
task columns = record { extra = columns; share = 0; time = 1 }

abbrev pub item : ℕ → ℕ → Option ℕ → Item
item size from to = record { size = size; from = Some from; to = to }

-- the first two fronts leave one row each to the third
pub row_tasks : row_system turned_arrow.supers
    ≡ record { tasks = task 1 ∷ task 1 ∷ task 2 ∷ []; items = item 1 1 (Some 3) ∷ item 1 2 (Some 3) ∷ item 0 3 None ∷ [] }
row_tasks = refl

-- 2 rows; 1 + 2; and 2 + 2 while the third front is made
pub peak_of_rows : row_peak turned_arrow.supers ≡ 4
peak_of_rows = refl

pub order_of_fronts : row_order turned_arrow.supers ≡ 1 ∷ 2 ∷ 3 ∷ []
order_of_fronts = refl

-- ---- rounds

abbrev pub event : ℕ → EventKind → ℕ → Event
event time kind task = record { time = time; kind = kind; task = task }

abbrev pub events : List Event
events =
    event 0 Activate 1 ∷ event 0 Activate 2 ∷ event 0 Start 1 ∷ event 0 Start 2 ∷ event 1 Finish 1 ∷ event 1 Finish 2 ∷ event 1 Activate 3
    ∷ event 1 Start 3 ∷ event 2 Finish 3 ∷ []

pub round_count_is : round_count events ≡ 2
round_count_is = refl

pub starts : map (λ k. started_at k events) (0 ∷ 1 ∷ 2 ∷ []) ≡ (1 ∷ 2 ∷ []) ∷ (3 ∷ []) ∷ [] ∷ []
starts = refl

pub used_rows : most_used (row_setting turned_arrow.supers 4 2) (start_state (row_setting turned_arrow.supers 4 2)) events ≡ 4
unfolding phase_in with_phase
used_rows = refl
