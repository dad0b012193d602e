-- The laws of staircases, as statements.
use Rattle.std.specs.Prelude.{◌≡◌, ◌+◌, List, Contains}
use Rattle.hill_valley.specs.declared.steps.Step.{Step}
use Rattle.sp_terms.specs.declared.position.Position.{Position}
use Rattle.sp_terms.specs.Term.{Term, Direction, IsAllowed}
use Rattle.sp_terms.specs.Values.{IsTerms}
use Rattle.cut_laws.specs.Standing.{IsLowestReached}
use Rattle.sp_cuts.specs.Stairs.{IsStaircaseOf, BothSteps, AreStairs}

-- a term has one staircase in each direction
abbrev pub SomeStaircase : Type 0
SomeStaircase =
    (d : Direction) (t : Term) → IsAllowed t → (steps : List Step) × IsStaircaseOf d t steps

abbrev pub OneStaircase : Type 0
OneStaircase = (d : Direction) (t : Term) (a b : List Step)
    → IsStaircaseOf d t a → IsStaircaseOf d t b → a ≡ b

-- the level of each step is the least memory that is reached within its bound
abbrev pub EachStepIsReached : Type 0
EachStepIsReached = (d : Direction) (t : Term) (steps : List Step) → IsStaircaseOf d t steps
    → (s : Step) → Contains steps s → IsLowestReached d t (s.bound + 1) s.level

-- so there is one list of those of all positions
abbrev pub SomeStairs : Type 0
SomeStairs = (ps : List Position) → IsTerms ps → (all : List BothSteps) × AreStairs ps all

abbrev pub OneStairs : Type 0
OneStairs = (ps : List Position) (a b : List BothSteps) → AreStairs ps a → AreStairs ps b → a ≡ b
