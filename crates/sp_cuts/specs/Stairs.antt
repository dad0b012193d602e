-- Staircases: how low the memory of a term can come within each bound, from its first state on and
-- from its last one back.
use Rattle.std.specs.Prelude.{◌≡◌, ℕ, ◌+◌, ◌<◌, List, [], ◌∷◌, ⊤, length, map, sum_by}
use Rattle.limits.specs.Limits.{most_steps}
use Rattle.hill_valley.specs.declared.steps.Step.{Step}
use Rattle.hill_valley.specs.Staircase.{IsStaircase, level_at}
use Rattle.sp_terms.specs.declared.position.Position.{Position}
use Rattle.sp_terms.specs.Term.{Term, Direction, forward, backward, first_memory}
use Rattle.sp_terms.specs.Values.{term_at}
use Rattle.cut_laws.specs.Standing.{IsLowestReached}
use Rattle.sp_cuts.specs.declared.reaching.Stairs.{Stairs}

-- ---- of one term

-- the steps are the staircase of a term in a direction
pub record IsStaircaseOf (d : Direction) (t : Term) (steps : List Step) : Type 0 where
  -- from the memory of the first state in this direction on, the bounds rise strictly and the levels
  -- fall strictly
  pub falls : IsStaircase (first_memory d t) (first_memory d t) steps
  -- below each limit above that memory, the least memory that is reached is the level of the last step
  -- whose bound is below the limit, and the memory of the first state where there is none
  pub lowest : (limit : ℕ) → first_memory d t < limit
      → IsLowestReached d t limit (level_at limit (first_memory d t) steps)

-- the steps from the first state on, and those from the last state back
pub record BothSteps : Type 0 where
  pub front : List Step
  pub back : List Step

pub record AreStairsOf (t : Term) (s : BothSteps) : Type 0 where
  pub front : IsStaircaseOf forward t s.front
  pub back : IsStaircaseOf backward t s.back

-- ---- of the terms that end at the positions

-- one after the other, from the term behind the first k positions on
abbrev pub AreStairsFrom : List Position → ℕ → List BothSteps → Type 0
AreStairsFrom ps k [] = ⊤
AreStairsFrom ps k (s ∷ all) = AreStairsOf (term_at ps k) s × AreStairsFrom ps (k + 1) all

-- those of each position
pub record AreStairs (ps : List Position) (all : List BothSteps) : Type 0 where
  pub many : length all ≡ length ps
  pub each : AreStairsFrom ps 0 all

-- how many steps they have together
abbrev pub step_total : List BothSteps → ℕ
step_total all = sum_by (λ s. length s.front + length s.back) all

-- the staircases of all positions have more steps than the limit
pub record PassesLimit (ps : List Position) : Type 0 where
  pub all : List BothSteps
  pub are : AreStairs ps all
  pub many : most_steps < step_total all

-- ---- of values

abbrev pub both_of : Stairs → BothSteps
both_of s = record { front = s.front.items; back = s.back.items }

abbrev pub all_of : List Stairs → List BothSteps
all_of ss = map both_of ss
