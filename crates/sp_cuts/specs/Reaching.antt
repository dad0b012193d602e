-- No public clause names this.
-- The staircases of a part, read off its sides.
use Rattle.std.specs.Prelude.{◌≡◌, ◌≤◌, ◌-◌, List, length, Some, slice_get}
use Rattle.limits.specs.Limits.{most_total}
use Rattle.side_laws.specs.Segments.{net_sum}
use Rattle.hill_valley.specs.Side.{profile}
use Rattle.hill_valley.specs.Staircase.{AreSteps}
use Rattle.sp_cuts.specs.declared.parts.Part.{Part}
use Rattle.sp_cuts.specs.Stairs.{BothSteps}

-- both sides can be run from where they start
pub record CanBeRun (p : Part) : Type 0 where
  pub front : net_sum (profile p.front) ≤ p.initial
  pub back : net_sum (profile p.back) ≤ p.fin
  pub initial : p.initial ≤ most_total
  pub fin : p.fin ≤ most_total

-- the steps of both sides
pub record AreStepsOf (p : Part) (s : BothSteps) : Type 0 where
  pub front : AreSteps p.initial (profile p.front) s.front
  pub back : AreSteps p.fin (profile p.back) s.back

-- the part is the last one
abbrev pub IsLast : List Part → Part → Type 0
IsLast ps p = slice_get ps (length ps - 1) ≡ Some p
