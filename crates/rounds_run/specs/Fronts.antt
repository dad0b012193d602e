-- What contracts see of fronts, and what a refusal tells.
use Rattle.std.specs.Prelude.{◌≡◌, ℕ, ◌<◌, List}
use Rattle.assembly_tree.specs.declared.assembly.Super.{Super}
use Rattle.rounds_run.specs.declared.refusal.FrontsRefusal.{FrontsRefusal}
use Rattle.rounds_run.specs.declared.refusal.FrontsRefusal.TheVariants as refusals
use Rattle.rounds_run.specs.RowSystem.{row_peak}

-- the row lists by the number of their supernode, the supernodes of each round, and the greatest number of rows that was used
pub record FrontsValue : Type 0 where
  pub rows : List (List ℕ)
  pub rounds : List (List ℕ)
  pub used : ℕ

-- the bound is below the peak of the row system's order, and both are told; want of memory tells nothing
abbrev pub IsFrontsRefusal : List Super → ℕ → FrontsRefusal → Type 0
IsFrontsRefusal supers bound (refusals.BoundBelow stated peak) = (stated ≡ bound) × (peak ≡ row_peak supers) × (bound < peak)
IsFrontsRefusal supers bound refusals.NoMemory = Unit {0}
