-- No public clause names this.
-- One step of merging: the lesser of the first segments of two sides.
use Rattle.std.specs.Prelude.{◌≡◌, ℕ, Bool, List, [], ◌∷◌, Option, MatchOption}
use Rattle.hill_valley.specs.declared.side.Seg.{Seg}
use Rattle.hill_valley.specs.Side.{run_of, runs_of, move_runs}

-- the first of what `other` moved into `own` comes to, if there is one. The lists of tasks were `old` and are `new`, and other' and own'
-- are left
abbrev pub IsNextMoved : Bool → List (List ℕ) → List (List ℕ) → List Seg → List Seg → List Seg → List Seg → Option Seg → Type 0
IsNextMoved before old new other own other' own' next = MatchOption next
    (move_runs before (runs_of old other) (runs_of old own) ≡ [])
    (λ s. move_runs before (runs_of old other) (runs_of old own) ≡ run_of new s ∷ move_runs before (runs_of new other') (runs_of new own'))
