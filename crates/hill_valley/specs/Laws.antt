-- The laws, as statements.
use Rattle.std.specs.Prelude.{◌≡◌, ℕ, max, Bool, false, List, ◌++◌}
use Rattle.side_laws.specs.Segments.{Segment, IsRising, last_up}
use Rattle.side_laws.specs.Appending.{append_segment}
use Rattle.side_laws.specs.Merging.{insert_segment}
use Rattle.hill_valley.specs.declared.ropes.Rope.{Rope}
use Rattle.hill_valley.specs.declared.side.Seg.{Seg}
use Rattle.hill_valley.specs.declared.steps.Step.{Step}
use Rattle.hill_valley.specs.Ropes.{list_of, IsRope, Extends}
use Rattle.hill_valley.specs.Side.{profile, HaveRopes, Run, runs_of, run_numbers, run_profile, tasks_of, insert_run, append_run}
use Rattle.hill_valley.specs.Staircase.{AreSteps}

-- ---- ropes

-- a rope that was made before is still one, and stands for the same list
abbrev pub RopesStay : Type 0
RopesStay =
    (old new : List (List ℕ)) (rope : Rope) → IsRope old rope → Extends old new → IsRope new rope × (list_of new rope ≡ list_of old rope)

-- so do the ropes of a side
abbrev pub SidesStay : Type 0
SidesStay = (old new : List (List ℕ)) (side : List Seg) → HaveRopes old side → Extends old new
    → HaveRopes new side × (runs_of new side ≡ runs_of old side)

abbrev pub ExtendsItself : Type 0
ExtendsItself = (lists : List (List ℕ)) → Extends lists lists

abbrev pub ExtendsOn : Type 0
ExtendsOn = (a b c : List (List ℕ)) → Extends a b → Extends b c → Extends a c

-- ---- runs

abbrev pub ProfileOfRuns : Type 0
ProfileOfRuns = (lists : List (List ℕ)) (side : List Seg) → run_profile (runs_of lists side) ≡ profile side

abbrev pub ProfileOfInsert : Type 0
ProfileOfInsert =
    (before : Bool) (r : Run) (rs : List Run) → run_profile (insert_run before r rs) ≡ insert_segment (run_numbers r) (run_profile rs)

abbrev pub InsertedRises : Type 0
InsertedRises = (before : Bool) (r : Run) (rs : List Run) → IsRising (run_profile rs) → IsRising (run_profile (insert_run before r rs))

abbrev pub ProfileOfAppend : Type 0
ProfileOfAppend = (r : Run) (rs : List Run) → run_profile (append_run r rs) ≡ append_segment r.up r.net (run_profile rs)

abbrev pub TasksOfAppend : Type 0
TasksOfAppend = (r : Run) (rs : List Run) → tasks_of (append_run r rs) ≡ tasks_of rs ++ r.tasks

-- a run at the end is one put in at its `up`, or at that of the last where that is greater
abbrev pub AppendInserts : Type 0
AppendInserts = (r : Run) (rs : List Run) → IsRising (run_profile rs)
    → append_run r rs ≡ insert_run false (record { up = max (last_up (run_profile rs)) r.up; net = r.net; tasks = r.tasks }) rs

-- all of these
pub record RunLaws : Type 0 where
  pub rope : RopesStay
  pub stay : SidesStay
  pub itself : ExtendsItself
  pub on : ExtendsOn
  pub profile : ProfileOfRuns
  pub insert : ProfileOfInsert
  pub rises : InsertedRises
  pub append : ProfileOfAppend
  pub tasks : TasksOfAppend
  pub appended : AppendInserts

-- ---- staircases

-- a side has one list of steps from a level
abbrev pub StepsAreUnique : Type 0
StepsAreUnique = (level : ℕ) (side : List Segment) (a b : List Step) → AreSteps level side a → AreSteps level side b → a ≡ b
