-- No public clause names this.
-- Staircases of worked examples: at the limits beside each of their bounds they say what the
-- cut of the term does, which stands for it.
use Rattle.std.specs.Prelude.{◌≡◌, ℕ, List, [], ◌∷◌, map, refl}
use Rattle.hill_valley.specs.declared.steps.Step.{Step}
use Rattle.hill_valley.specs.Staircase.{level_at}
use Rattle.mp_system.specs.declared.system.Task.{Task}
use Rattle.sp_terms.specs.Term.{Term, hold, series, par, no_parts, part, Direction, forward}
use Rattle.sp_terms.specs.Term.{backward}
use Rattle.cut_laws.specs.Cuts.{lowest_of}
use Rattle.cut_laws.specs.Names.{numbered}
use Rattle.cut_laws.specs.TermCuts.{cut_of_term}

abbrev task : ℕ → Task
task extra = record { extra = extra; share = 0; time = 1 }

abbrev step : ℕ → ℕ → Step
step bound level = record { bound = bound; level = level }

-- what can be reached below these limits
abbrev levels : Direction → Term → List ℕ → List ℕ
levels d t limits = map (λ limit. lowest_of d limit (cut_of_term t (numbered 1 t))) limits

-- what steps say of it
abbrev told : ℕ → List Step → List ℕ → List ℕ
told start steps limits = map (λ limit. level_at limit start steps) limits

-- ---- a node that needs 10 and leaves 1, below one that leaves 5

abbrev node : Term
node = series (hold 0) (task 9) (hold 1)

abbrev above : Term
above = series node (task 0) (hold 5)

abbrev around_ten : List ℕ
around_ten = 2 ∷ 10 ∷ 11 ∷ 100 ∷ []

node_is_stuck_below_ten : levels backward node around_ten ≡ told 1 (step 10 0 ∷ []) around_ten
node_is_stuck_below_ten = refl

abbrev around_six_and_ten : List ℕ
around_six_and_ten = 6 ∷ 7 ∷ 10 ∷ 11 ∷ 100 ∷ []

above_is_stuck_twice :
    levels backward above around_six_and_ten ≡ told 5 (step 6 1 ∷ step 10 0 ∷ []) around_six_and_ten
above_is_stuck_twice = refl

above_stays_forwards : levels forward above around_six_and_ten ≡ told 0 [] around_six_and_ten
above_stays_forwards = refl

-- ---- from 4 down to 1, and over 10 to 3; and two of these side by side

abbrev valley : Term
valley = series (series (hold 4) (task 0) (hold 1)) (task 6) (hold 3)

abbrev valleys : Term
valleys = par (part valley (part valley no_parts))

abbrev around_five : List ℕ
around_five = 5 ∷ 6 ∷ 10 ∷ 11 ∷ 100 ∷ []

valley_falls_forwards : levels forward valley around_five ≡ told 4 (step 5 1 ∷ []) around_five
valley_falls_forwards = refl

valley_falls_backwards : levels backward valley around_five ≡ told 3 (step 10 1 ∷ []) around_five
valley_falls_backwards = refl

abbrev around_nine : List ℕ
around_nine = 9 ∷ 10 ∷ 13 ∷ 14 ∷ 100 ∷ []

valleys_fall_forwards : levels forward valleys around_nine ≡ told 8 (step 9 2 ∷ []) around_nine
valleys_fall_forwards = refl

valleys_fall_backwards : levels backward valleys around_nine ≡ told 6 (step 13 2 ∷ []) around_nine
valleys_fall_backwards = refl

-- ---- a node of 6, and one above it that leaves 3 and takes 3 of it over

abbrev shared : Term
shared =
    series (series (hold 0) (task 0) (hold 6)) (record { extra = 0; share = 3; time = 1 }) (hold 3)

shared_falls_backwards : levels backward shared around_five ≡ told 3 (step 6 0 ∷ []) around_five
shared_falls_backwards = refl

-- ---- two roots: one of 3, and one of 4 that needs 5

abbrev root : ℕ → ℕ → Term
root extra out = series (hold 0) (task extra) (hold out)

abbrev roots : Term
roots = par (part (root 0 3) (part (root 1 4) no_parts))

abbrev around_seven : List ℕ
around_seven = 8 ∷ 9 ∷ 100 ∷ []

roots_fall_backwards : levels backward roots around_seven ≡ told 7 (step 7 0 ∷ []) around_seven
roots_fall_backwards = refl
