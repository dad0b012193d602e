-- Several sides merged into one.
-- Source: Liu 1987: the segments of all subtrees by what they need above the level.
use Rattle.std.specs.Prelude.{◌≡◌, ℕ, ◌==◌, ◌↔◌, true, List, [], ◌∷◌, length, map, filter, sum_by}
use Rattle.std.specs.List.{AllByRecursion, flat_map}
use Rattle.side_laws.specs.Counting.{greatest_of}
use Rattle.side_laws.specs.Segments.{Segment, net_sum, IsRising}
use Rattle.hill_valley.specs.declared.side.Seg.{Seg}
pub use Rattle.hill_valley.specs.Side.{move_runs}
use Rattle.hill_valley.specs.Side.{profile, IsSide, HaveRopes, Run, runs_of, run_profile, tasks_of, insert_run}

-- ---- runs

-- the runs of the first put in among those of the second, before those of the same `up`
abbrev pub insert_runs : List Run → List Run → List Run
insert_runs [] rs = rs
insert_runs (s ∷ ss) rs = insert_run true s (insert_runs ss rs)

-- the runs of all sides in rising order of `up`, those of one `up` joined in the order of the sides
abbrev pub merge_runs : List (List Run) → List Run
merge_runs [] = []
merge_runs (side ∷ sides) = insert_runs side (merge_runs sides)

-- the runs that go up by this
abbrev pub runs_at : ℕ → List Run → List Run
runs_at up rs = filter (λ r. r.up == up) rs

-- merged runs go up by more and more, so that there is at most one for each `up`: there is one where some side has one, with the sum of the
-- `net` values of those that the sides have, and with their tasks in the order of the sides
pub record AreMerged (sides : List (List Run)) (merged : List Run) : Type 0 where
  pub rising : IsRising (run_profile merged)
  pub none : (up : ℕ) → (runs_at up merged ≡ []) ↔ (runs_at up (flat_map (λ side. side) sides) ≡ [])
  pub net : (up : ℕ) → sum_by (λ r. r.net) (runs_at up merged) ≡ sum_by (λ r. r.net) (runs_at up (flat_map (λ side. side) sides))
  pub tasks : (up : ℕ) → tasks_of (runs_at up merged) ≡ tasks_of (runs_at up (flat_map (λ side. side) sides))

abbrev pub run_profiles : List (List Run) → List (List Segment)
run_profiles sides = map run_profile sides

-- the tasks of each side
abbrev pub all_tasks_of : List (List Run) → List (List ℕ)
all_tasks_of sides = map tasks_of sides

-- ---- sides

-- each side with the lists that its ropes stand for
abbrev pub all_runs_of : List (List ℕ) → List (List Seg) → List (List Run)
all_runs_of lists sides = map (runs_of lists) sides

-- the numbers of each side
abbrev pub profiles : List (List Seg) → List (List Segment)
profiles sides = map profile sides

abbrev pub AllHaveRopes : List (List ℕ) → List (List Seg) → Type 0
AllHaveRopes lists sides = AllByRecursion (HaveRopes lists) sides

-- what holds of the numbers of each side
abbrev pub AllSides : List (List Seg) → Type 0
AllSides sides = AllByRecursion (λ side. IsSide (profile side)) sides

-- the sum of the `net` values of all sides
abbrev pub net_sum_all : List (List Seg) → ℕ
net_sum_all sides = sum_by (λ side. net_sum (profile side)) sides

-- how many segments all sides have
abbrev pub segment_count : List (List Seg) → ℕ
segment_count sides = sum_by length sides

-- how many the longest has
abbrev pub longest : List (List Seg) → ℕ
longest sides = greatest_of length sides
