-- Worked examples of row peaks.
use Rattle.std.specs.Prelude.{◌≡◌, ℕ, [], ◌∷◌, refl}
use Rattle.postorder_best.specs.BestPostorder.{Child, children_peak}

abbrev pub child : ℕ → ℕ → Child
child peak out = record { peak = peak; out = out }

-- two branches with the peak 10 that leave 5 each, and a root that needs nothing: 5 of the first lie beside the second
pub two_branches : children_peak 0 (child 10 5 ∷ child 10 5 ∷ []) ≡ 15
two_branches = refl

-- a peak of 7 that leaves 4, and one of 3 that leaves 3: by falling difference 7, the other way round 10
pub better_first : children_peak 0 (child 7 4 ∷ child 3 3 ∷ []) ≡ 7
better_first = refl

pub worse_first : children_peak 0 (child 3 3 ∷ child 7 4 ∷ []) ≡ 10
worse_first = refl
