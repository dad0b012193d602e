-- Levels and tops of a side, as the laws of sides give them.
use Rattle.std.proofs.Common.{◌≡◌, ℕ, ◌-◌, ◌<◌, ◌≤◌, refl, arith, List, [], ◌∷◌}
use Rattle.std.proofs.lemmas.Bool.Decides.{nat_tests}
use Rattle.side_laws.specs.Segments.{Segment, net_sum, lowest, top, Passes}
use Rattle.segment_merge.specs.Laws.{SideLaws}

-- at its start a side that the limit does not allow is stuck
pub lowest_stuck : (limit level : ℕ) (ss : List Segment) → limit ≤ level → lowest limit level ss ≡ level
lowest_stuck limit level [] h = refl
lowest_stuck limit level (s ∷ ss) h = grind (arith, nat_tests)

module _ (laws : SideLaws) where
  -- where all pass, the lowest level is the last one
  pub lowest_end : (limit level : ℕ) (ss : List Segment) → top level ss < limit → lowest limit level ss ≡ level - net_sum ss
  lowest_end limit level ss h = laws.after_all limit level ss (((laws.passes limit level ss).0 h).1)

  pub passes_from_top : (limit level : ℕ) (ss : List Segment) → top level ss < limit → Passes limit level ss
  passes_from_top limit level ss h = ((laws.passes limit level ss).0 h).1

  pub top_from_passes : (limit level : ℕ) (ss : List Segment) → level < limit → Passes limit level ss → top level ss < limit
  top_from_passes limit level ss lt h = (laws.passes limit level ss).1 (lt, h)
