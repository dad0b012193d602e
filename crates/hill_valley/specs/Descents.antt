-- No public clause names this.
-- What the ordered map of a side has at each `up`.
use Rattle.std.specs.Prelude.{ℕ, ◌+◌, Bool, if◌then◌else◌, List, [], ◌∷◌, ◌++◌, Option, Some, None, map}
use Rattle.hill_valley.specs.declared.side.Seg.{Seg}
use Rattle.hill_valley.specs.declared.tree.Descent.{Descent}
use Rattle.hill_valley.specs.Ropes.{list_of}

abbrev pub seg_of : ℕ × Descent → Seg
seg_of e = record { up = e.0; net = e.1.net; tasks = e.1.tasks }

-- the segments of the map's entries
abbrev pub segs_of : List (ℕ × Descent) → List Seg
segs_of es = map seg_of es

-- with the list that the rope stands for
abbrev pub list_seen : List (List ℕ) → Descent → ℕ × List ℕ
list_seen lists d = (d.net, list_of lists d.tasks)

-- a `net` and tasks, joined with those of a segment of the same `up`, if there is one
abbrev pub list_joined : Bool → ℕ × List ℕ → Option (ℕ × List ℕ) → ℕ × List ℕ
list_joined before v None = v
list_joined before v (Some w) = (w.0 + v.0, if before then v.1 ++ w.1 else w.1 ++ v.1)

-- the `up` of the first segment, if there is one
abbrev pub first_up : List Seg → Option ℕ
first_up [] = None
first_up (s ∷ ss) = Some s.up
