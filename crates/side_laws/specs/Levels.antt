-- Where several sides that go down together are stuck, as each of them alone sees it.
use Rattle.std.specs.Prelude.{◌≡◌, ℕ, ◌+◌, ◌-◌, ◌≤◌, List, [], ◌∷◌, ⊤}
use Rattle.std.specs.List.{AllZip}
use Rattle.side_laws.specs.Segments.{Segment, net_sum, lowest, Passes}
use Rattle.side_laws.specs.Merging.{merge_segments}

abbrev pub level_sum : List ℕ → ℕ
level_sum [] = 0
level_sum (level ∷ levels) = level + level_sum levels

-- each side has a level to start from, of at least the sum of its `net` values
abbrev pub AllStart : List ℕ → List (List Segment) → Type 0
AllStart starts sides = AllZip (λ start side. net_sum side ≤ start) starts sides

-- each side alone, under the limit less the levels of all others, is stuck at its level. `others` is the sum of the levels of sides that
-- stand before these
abbrev pub EachStuck : ℕ → ℕ → List ℕ → List (List Segment) → List ℕ → Type 0
EachStuck limit others [] [] [] = ⊤
EachStuck limit others (start ∷ starts) (side ∷ sides) (level ∷ levels) =
    (lowest (limit - (others + level_sum levels)) start side ≡ level) × (level ≤ start)
    × EachStuck limit (others + level) starts sides levels
EachStuck limit others _ _ _ = ⊥

-- each side alone passes under the limit less the levels of all others
abbrev pub EachPasses : ℕ → ℕ → List ℕ → List (List Segment) → List ℕ → Type 0
EachPasses limit others [] [] [] = ⊤
EachPasses limit others (start ∷ starts) (side ∷ sides) (level ∷ levels) =
    Passes (limit - (others + level_sum levels)) start side × EachPasses limit (others + level) starts sides levels
EachPasses limit others _ _ _ = ⊥

-- the levels of the sides where all together are stuck
pub record AreLevels (limit others : ℕ) (starts : List ℕ) (sides : List (List Segment)) (levels : List ℕ) : Type 0 where
  -- they sum to the level of the merged side
  pub together : lowest (limit - others) (level_sum starts) (merge_segments sides) ≡ level_sum levels
  pub each : EachStuck limit others starts sides levels
  -- where each passes alone, all pass together
  pub pass : EachPasses limit others starts sides levels → Passes (limit - others) (level_sum starts) (merge_segments sides)
