-- A side as the list of its segments, in rising order of `up`.
-- Source: J. W. H. Liu, An application of generalized tree pebbling to sparse matrix factorization, 1987 (hill-valley segments).
use Rattle.std.specs.Prelude.{ℕ, ℤ, pos, negsuc, ◌+◌, ◌≤◌, Bool, false, if◌then◌else◌, nat_lt, List, [], ◌∷◌, ◌++◌, map}
use Rattle.std.specs.List.{AllByRecursion, fold, flat_map}
use Rattle.std.specs.Ordering.{nat_cmp, match_ordering}
use Rattle.limits.specs.Limits.{most_total}
use Rattle.side_laws.specs.Segments.{Segment, net_sum, IsRising}
use Rattle.hill_valley.specs.declared.side.Seg.{Seg}
use Rattle.hill_valley.specs.Ropes.{list_of, IsRope}

-- the least memory that is above the bound
abbrev pub limit_from : ℤ → ℕ
limit_from (pos bound) = bound + 1
limit_from (negsuc bound) = 0

-- ---- the numbers of a side

abbrev pub numbers : Seg → Segment
numbers s = record { up = s.up; net = s.net }

-- the numbers of all segments, without their tasks
abbrev pub profile : List Seg → List Segment
profile ss = map numbers ss

abbrev pub AllUpsWithin : List Segment → Type 0
AllUpsWithin ss = AllByRecursion (λ s. s.up ≤ most_total) ss

-- what holds of the numbers of every side
abbrev pub IsSide : List Segment → Type 0
IsSide ss = (net_sum ss ≤ most_total) × AllUpsWithin ss × IsRising ss

-- ---- the tasks of a side

-- the rope of each segment is one of these
abbrev pub HaveRopes : List (List ℕ) → List Seg → Type 0
HaveRopes lists ss = AllByRecursion (λ s. IsRope lists s.tasks) ss

-- a segment with the list of its tasks, in the order in which they run
pub record Run : Type 0 where
  pub up : ℕ
  pub net : ℕ
  pub tasks : List ℕ

abbrev pub run_of : List (List ℕ) → Seg → Run
run_of lists s = record { up = s.up; net = s.net; tasks = list_of lists s.tasks }

-- the segments with the lists that their ropes stand for
abbrev pub runs_of : List (List ℕ) → List Seg → List Run
runs_of lists ss = map (run_of lists) ss

abbrev pub run_numbers : Run → Segment
run_numbers r = record { up = r.up; net = r.net }

abbrev pub run_profile : List Run → List Segment
run_profile rs = map run_numbers rs

-- the tasks of all runs, in order
abbrev pub tasks_of : List Run → List ℕ
tasks_of rs = flat_map (λ r. r.tasks) rs

-- ---- one more segment

-- the runs r and s as one of the `up` of s, with the tasks of r before or after those of s
abbrev pub join_runs : Bool → Run → Run → Run
join_runs before r s = record { up = s.up; net = s.net + r.net; tasks = if before then r.tasks ++ s.tasks else s.tasks ++ r.tasks }

-- with one more at its place by `up`, joined with one of the same `up`
abbrev pub insert_run : Bool → Run → List Run → List Run
insert_run before r [] = r ∷ []
insert_run before r (s ∷ ss) = match_ordering (nat_cmp r.up s.up) (r ∷ s ∷ ss) (join_runs before r s ∷ ss) (s ∷ insert_run before r ss)

-- the runs of the first put in among those of the second, one after another
abbrev pub move_runs : Bool → List Run → List Run → List Run
move_runs before ss rs = fold (λ es s. insert_run before s es) rs ss

-- with one more at the end, joined with the last where that goes at least as high
abbrev pub append_run : Run → List Run → List Run
append_run r [] = r ∷ []
append_run r (s ∷ []) = if nat_lt s.up r.up then s ∷ r ∷ [] else join_runs false r s ∷ []
append_run r (s ∷ t ∷ ss) = s ∷ append_run r (t ∷ ss)
