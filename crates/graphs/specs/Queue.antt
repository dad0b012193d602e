-- No public clause names this.
-- The tasks that can be ordered, as the code finds them: a task joins the queue when it waits for no supplier any more, and each task
-- of the queue in turn is taken from the waits of those that it supplies (Kahn 1962).
use Rattle.std.specs.Prelude.{◌≡◌, ◌==◌, ℕ, ◌+◌, ◌<◌, ◌≤◌, Bool, true, false, not, ◌&&◌, All, List, ◌∷◌, ◌++◌, length, take, count_by}
use Rattle.std.specs.Prelude.{slice_index, slice_index_or}
use Rattle.mp_system.specs.Memory.{stands_in}
use Rattle.graphs.specs.declared.arc.Arc.{Arc}
use Rattle.graphs.specs.Graph.{IsAmong, IsSupplied, CanBeOrdered}

abbrev pub to_of : Arc → ℕ
to_of arc = arc.to

abbrev pub from_of : Arc → ℕ
from_of arc = arc.from

-- the arc at a place
abbrev pub arc_at : List Arc → ℕ → Arc
arc_at arcs k = slice_index_or arcs k (record { from = 0; to = 0; size = 0 })

-- whether task v waits for the supplier of an arc, when the tasks of `done` have run
abbrev pub is_wait : List ℕ → ℕ → Arc → Bool
is_wait done v arc = arc.to == v && (not (arc.from == 0) && not (stands_in done arc.from))

-- for how many arcs task v waits
abbrev pub waits_of : List Arc → List ℕ → ℕ → ℕ
waits_of arcs done v = count_by (is_wait done v) arcs

-- how many of the arcs at these places lead into task v
abbrev pub heads_among : List Arc → List ℕ → ℕ → ℕ
heads_among arcs places v = count_by (λ k. (arc_at arcs k).to == v) places

-- each task of the queue stands once, after its suppliers; a task of which no arc is waited for stands there, and no other
pub record IsQueue (n : ℕ) (arcs : List Arc) (waits queue : List ℕ) : Type 0 where
  pub long : length waits ≡ n + 1
  pub within : All (IsAmong n) queue
  pub each : (before rest : List ℕ) (v : ℕ) → queue ≡ before ++ v ∷ rest → IsSupplied arcs before v × (stands_in before v ≡ false)
  pub idle : (v : ℕ) → IsAmong n v → slice_index waits v ≡ 0 → stands_in queue v ≡ true
  pub listed : (v : ℕ) → stands_in queue v ≡ true → slice_index waits v ≡ 0

-- the first tasks of the queue are taken from the waits
pub record IsQueueTaken (n : ℕ) (arcs : List Arc) (waits queue : List ℕ) (at : ℕ) : Type 0 where
  pub queued : IsQueue n arcs waits queue
  pub short : at ≤ length queue
  pub waits_are : (v : ℕ) → v ≤ n → slice_index waits v ≡ waits_of arcs (take at queue) v

-- and of the next one, the first arcs of its row
pub record IsPartTaken (n : ℕ) (arcs : List Arc) (waits queue : List ℕ) (at : ℕ) (row : List ℕ) (j : ℕ) : Type 0 where
  pub queued : IsQueue n arcs waits queue
  pub short : at < length queue
  pub waits_are : (v : ℕ) → v ≤ n → slice_index waits v + heads_among arcs (take j row) v ≡ waits_of arcs (take at queue) v

-- the places of the arcs out of a task
pub record IsArcRow (arcs : List Arc) (row : List ℕ) (u : ℕ) : Type 0 where
  pub within : All (λ k. k < length arcs) row
  pub heads : (v : ℕ) → heads_among arcs row v ≡ count_by (λ arc. arc.to == v && arc.from == u) arcs

-- of each task, whether it waits says whether it can be ordered
pub record AreJudged (n : ℕ) (arcs : List Arc) (waits : List ℕ) : Type 0 where
  pub long : length waits ≡ n + 1
  pub idle : (v : ℕ) → IsAmong n v → slice_index waits v ≡ 0 → CanBeOrdered arcs v
  pub waiting : (v : ℕ) → IsAmong n v → 1 ≤ slice_index waits v → CanBeOrdered arcs v → ⊥
