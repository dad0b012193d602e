-- The staircase of a side: how low it leads within each bound.
use Rattle.std.specs.Prelude.{◌≡◌, ℕ, ◌+◌, ◌<◌, ◌≤◌, Bool, false, ◌==◌, if◌then◌else◌, nat_lt, List, [], ◌∷◌, ⊤}
use Rattle.side_laws.specs.Segments.{Segment, lowest}
use Rattle.hill_valley.specs.declared.steps.Step.{Step}

-- the bounds rise strictly and are at least `bound`, the levels fall strictly from `level` on
abbrev pub IsStaircase : ℕ → ℕ → List Step → Type 0
IsStaircase bound level [] = ⊤
IsStaircase bound level (s ∷ ss) = (bound ≤ s.bound) × (s.level < level) × IsStaircase (s.bound + 1) s.level ss

-- the level of the last step whose bound is below the limit, and `level` where there is none. The bounds rise
abbrev pub level_at : ℕ → ℕ → List Step → ℕ
level_at limit level [] = level
level_at limit level (s ∷ ss) = if nat_lt s.bound limit then level_at limit s.level ss else level

-- the steps of a side from this level
pub record AreSteps (level : ℕ) (ss : List Segment) (steps : List Step) : Type 0 where
  pub staircase : IsStaircase level level steps
  pub levels : (limit : ℕ) → level < limit → level_at limit level steps ≡ lowest limit level ss

-- ---- one more step

abbrev pub ends_at : ℕ → List Step → Bool
ends_at bound [] = false
ends_at bound (s ∷ []) = s.bound == bound
ends_at bound (s ∷ t ∷ ss) = ends_at bound (t ∷ ss)

-- at the end, in place of the last where that has the same bound
abbrev pub add_step : ℕ → ℕ → List Step → List Step
add_step bound level [] = record { bound = bound; level = level } ∷ []
add_step bound level (s ∷ []) =
    if s.bound == bound then record { bound = bound; level = level } ∷ [] else s ∷ record { bound = bound; level = level } ∷ []
add_step bound level (s ∷ t ∷ ss) = s ∷ add_step bound level (t ∷ ss)
