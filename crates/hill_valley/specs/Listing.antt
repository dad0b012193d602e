-- No public clause names this.
-- One step of listing a rope: a piece has a task of its own, or two lists that are still to be listed.
use Rattle.std.specs.Prelude.{ℕ, List, [], ◌∷◌, get_or}
use Rattle.hill_valley.specs.declared.ropes.Piece.{Piece}
use Rattle.hill_valley.specs.declared.ropes.Piece.TheVariants.{Empty, Task, Joined, Turned}
use Rattle.hill_valley.specs.declared.ropes.Join.{Join}

-- the same tasks backwards
abbrev pub turned : Piece → Piece
turned Empty = Empty
turned (Task task) = Task task
turned (Joined i) = Turned i
turned (Turned i) = Joined i

-- the join at a place
abbrev pub join_at : List Join → ℕ → Join
join_at js i = get_or js i (record { first = Empty; second = Empty })

-- the task of the piece itself
abbrev pub tasks_opened : Piece → List ℕ
tasks_opened Empty = []
tasks_opened (Task task) = task ∷ []
tasks_opened (Joined i) = []
tasks_opened (Turned i) = []

-- its two lists, the first to be listed last, as on a stack
abbrev pub parts_opened : (ℕ → Join) → Piece → List Piece
parts_opened at Empty = []
parts_opened at (Task task) = []
parts_opened at (Joined i) = (at i).second ∷ (at i).first ∷ []
parts_opened at (Turned i) = turned (at i).first ∷ turned (at i).second ∷ []
