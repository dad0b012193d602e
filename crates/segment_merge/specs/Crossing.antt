-- Runs put behind a side, and a side that goes on over a hill to another, with the tasks.
use Rattle.std.specs.Prelude.{ℕ, ◌+◌, ◌-◌, max, if◌then◌else◌, nat_le, List, [], ◌∷◌, ◌++◌}
use Rattle.std.specs.List.{fold}
use Rattle.hill_valley.specs.Side.{Run, append_run}

-- with the runs of `far` at the end of `near`, one after another
abbrev pub append_runs : List Run → List Run → List Run
append_runs far near = fold (λ rs s. append_run s rs) near far

-- the run over a hill, from the level `end` up to `hill` and down to `level`
abbrev pub hill_run : ℕ → ℕ → ℕ → List ℕ → Run
hill_run end hill level tasks = record { up = hill - end; net = end - level; tasks = tasks }

-- `near` ends at the level `end`. From there the tasks lead over a hill up to `hill` and down to `level`, from where `far` leads on.
-- As long as the level is above `end` the next run of `far` belongs to the hill
abbrev pub cross_hill_runs : ℕ → ℕ → ℕ → List ℕ → List Run → List Run → List Run
cross_hill_runs end hill level tasks [] near = append_run (hill_run end hill level tasks) near
cross_hill_runs end hill level tasks (s ∷ far) near =
    if nat_le level end
    then append_runs (s ∷ far) (append_run (hill_run end hill level tasks) near)
    else cross_hill_runs end (max hill (level + s.up)) (level - s.net) (tasks ++ s.tasks) far near
