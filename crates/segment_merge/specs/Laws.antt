-- The laws, as statements.
use Rattle.std.specs.Prelude.{◌≡◌, ℕ, ◌++◌, true, false, List}
use Rattle.side_laws.specs.Segments.{IsRising, StartsAbove, last_up}
use Rattle.side_laws.specs.Appending.{append_segments, cross_hill}
use Rattle.side_laws.specs.Laws.{LowestBetween, LowestMonotone, LowestAfterAll, LowestIsStuck, TopAboveLevel, TopPasses, StuckByLast}
use Rattle.side_laws.specs.Laws.{NetOfAppend, NetOfCrossing, CrossingRises, LowestOfCrossing, TopOfCrossing}
use Rattle.side_laws.specs.Laws.{NetOfInserts, MergeRises, LowestOfMerge, LevelsOfMerge, MovesOfSeries, MovesOfMoreTasks, MovesOfParallel}
use Rattle.side_laws.specs.Laws.{MovesBounded}
use Rattle.side_laws.specs.Merging.{insert_segments, merge_segments, AllRising, IsInterleaving}
use Rattle.hill_valley.specs.Laws.{RunLaws}
use Rattle.hill_valley.specs.declared.side.Seg.{Seg}
use Rattle.hill_valley.specs.Ropes.{Extends}
use Rattle.hill_valley.specs.Side.{Run, run_profile, tasks_of}
use Rattle.segment_merge.specs.Merging.{insert_runs, merge_runs, move_runs, AreMerged, run_profiles, all_tasks_of, all_runs_of}
use Rattle.segment_merge.specs.Merging.{AllHaveRopes}
use Rattle.segment_merge.specs.Crossing.{append_runs, cross_hill_runs}

-- ---- merging

-- the sides stay as they are, however many more ropes are made
abbrev pub AllSidesStay : Type 0
AllSidesStay = (old new : List (List ℕ)) (sides : List (List Seg)) → AllHaveRopes old sides → Extends old new
    → AllHaveRopes new sides × (all_runs_of new sides ≡ all_runs_of old sides)

abbrev pub ProfileOfInserts : Type 0
ProfileOfInserts = (ss rs : List Run) → run_profile (insert_runs ss rs) ≡ insert_segments (run_profile ss) (run_profile rs)

abbrev pub ProfileOfMerge : Type 0
ProfileOfMerge = (sides : List (List Run)) → run_profile (merge_runs sides) ≡ merge_segments (run_profiles sides)

-- what merging is, `up` by `up`
abbrev pub MergedAtEachUp : Type 0
MergedAtEachUp = (sides : List (List Run)) → AreMerged sides (merge_runs sides)

-- the merged list of tasks interleaves those of the sides
abbrev pub TasksOfMerge : Type 0
TasksOfMerge =
    (sides : List (List Run)) → AllRising (run_profiles sides) → IsInterleaving (all_tasks_of sides) (tasks_of (merge_runs sides))

abbrev pub InsertsAssociate : Type 0
InsertsAssociate = (a b c : List Run) → insert_runs (insert_runs a b) c ≡ insert_runs a (insert_runs b c)

-- the runs of one side moved into another, one after another, in front of those of the same `up` or behind them
abbrev pub MovedBefore : Type 0
MovedBefore = (ss rs : List Run) → IsRising (run_profile ss) → move_runs true ss rs ≡ insert_runs ss rs

abbrev pub MovedBehind : Type 0
MovedBehind = (ss rs : List Run) → IsRising (run_profile ss) → IsRising (run_profile rs) → move_runs false ss rs ≡ insert_runs rs ss

-- ---- a side behind a side

-- behind a side that is lower throughout, appending is merging, so that either side can be moved into the other
abbrev pub AppendsInsert : Type 0
AppendsInsert = (far near : List Run) → IsRising (run_profile near) → IsRising (run_profile far)
    → StartsAbove (last_up (run_profile near)) (run_profile far)
    → append_runs far near ≡ insert_runs near far

abbrev pub ProfileOfAppends : Type 0
ProfileOfAppends = (far near : List Run) → run_profile (append_runs far near) ≡ append_segments (run_profile far) (run_profile near)

abbrev pub TasksOfAppends : Type 0
TasksOfAppends = (far near : List Run) → tasks_of (append_runs far near) ≡ tasks_of near ++ tasks_of far

abbrev pub ProfileOfCrossing : Type 0
ProfileOfCrossing = (end hill level : ℕ) (tasks : List ℕ) (far near : List Run)
    → run_profile (cross_hill_runs end hill level tasks far near) ≡ cross_hill end hill level (run_profile far) (run_profile near)

abbrev pub TasksOfCrossing : Type 0
TasksOfCrossing = (end hill level : ℕ) (tasks : List ℕ) (far near : List Run)
    → tasks_of (cross_hill_runs end hill level tasks far near) ≡ tasks_of near ++ (tasks ++ tasks_of far)

-- ---- the laws of this layer and of those below, in one

pub record SideLaws : Type 0 where
  -- one side
  pub between : LowestBetween
  pub monotone : LowestMonotone
  pub after_all : LowestAfterAll
  pub stuck : LowestIsStuck
  pub above : TopAboveLevel
  pub passes : TopPasses
  pub by_last : StuckByLast
  -- sides that are made of others
  pub append_net : NetOfAppend
  pub crossing_net : NetOfCrossing
  pub crossing_rises : CrossingRises
  pub crossing_lowest : LowestOfCrossing
  pub crossing_top : TopOfCrossing
  pub inserts_net : NetOfInserts
  pub merge_rises : MergeRises
  pub merge_lowest : LowestOfMerge
  pub levels : LevelsOfMerge
  -- moved segments
  pub series : MovesOfSeries
  pub more_tasks : MovesOfMoreTasks
  pub parallel : MovesOfParallel
  pub bounded : MovesBounded
  -- the same with tasks
  pub runs : RunLaws
  pub all_stay : AllSidesStay
  pub profile_inserts : ProfileOfInserts
  pub profile_merge : ProfileOfMerge
  pub profile_crossing : ProfileOfCrossing
  pub before : MovedBefore
  pub behind : MovedBehind
  pub appends : AppendsInsert
