use Rattle.std.proofs.Common.{◌∙◌, ◌≡◌, ℕ, ◌+◌, ◌-◌, ◌≤◌, max, cond, ltb, List, [], ◌∷◌, arith}
use Rattle.std.proofs.lemmas.Bool.Decides.{nat_tests}
use Rattle.side_laws.specs.Segments.{Segment, net_sum, lowest, top}
use Rattle.side_laws.specs.Appending.{append_segment}

pub total_appended : (u d : ℕ) (ss : List Segment) → net_sum (append_segment u d ss) ≡ net_sum ss + d
total_appended u d [] = omega arith
total_appended u d (s ∷ []) = grind (arith, nat_tests)
total_appended u d (s ∷ t ∷ ss) = omega (arith, total_appended u d (t ∷ ss))

-- where all pass, and the new run too, it goes d lower; else nothing changes
pub lowest_appended : (limit level u d : ℕ) (ss : List Segment) → net_sum ss + d ≤ level
    → lowest limit level (append_segment u d ss) ≡ cond (ltb (top level ss) limit)
    (cond (ltb (lowest limit level ss + u) limit) (lowest limit level ss - d) (lowest limit level ss)) (lowest limit level ss)
lowest_appended limit level u d [] room = grind (arith, nat_tests)
lowest_appended limit level u d (s ∷ []) room = grind (arith, nat_tests)
lowest_appended limit level u d (s ∷ t ∷ ss) room =
    let ih = lowest_appended limit (level - s.net) u d (t ∷ ss) (omega arith) in
    grind (arith, nat_tests, ih)

one_test : (limit most low up d : ℕ)
    → cond (ltb most limit) (cond (ltb (low + up) limit) (low - d) low) low ≡ cond (ltb (max most (low + up)) limit) (low - d) low
one_test limit most low up d = grind (arith, nat_tests)

pub lowest_of_append : (limit level u d : ℕ) (ss : List Segment) → net_sum ss + d ≤ level
    → lowest limit level (append_segment u d ss)
    ≡ cond (ltb (max (top level ss) (lowest limit level ss + u)) limit) (lowest limit level ss - d) (lowest limit level ss)
lowest_of_append limit level u d ss room =
    lowest_appended limit level u d ss room ∙ one_test limit (top level ss) (lowest limit level ss) u d

pub top_appended : (level u d : ℕ) (ss : List Segment) → net_sum ss + d ≤ level
    → top level (append_segment u d ss) ≡ max (top level ss) (level - net_sum ss + u)
top_appended level u d [] room = grind (arith, nat_tests)
top_appended level u d (s ∷ []) room = grind (arith, nat_tests)
top_appended level u d (s ∷ t ∷ ss) room =
    let ih = top_appended (level - s.net) u d (t ∷ ss) (omega arith) in
    grind (arith, nat_tests, ih)
