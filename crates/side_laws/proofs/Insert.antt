use Rattle.std.proofs.Common.{◌≡◌, ℕ, ◌+◌, ◌-◌, ◌<◌, ◌≤◌, List, [], ◌∷◌, ap, arith}
use Rattle.std.proofs.lemmas.Bool.Decides.{nat_tests}
use Rattle.side_laws.specs.Segments.{Segment, net_sum, lowest}
use Rattle.side_laws.specs.Merging.{insert_segment}

-- one step of the law below, with what the induction gives
lowest_step : (limit level : ℕ) (s e : Segment) (es : List Segment) → level + s.up < limit → s.net ≤ level - e.net → e.net ≤ level
    → (e.up < s.up → lowest limit (level - e.net) (insert_segment s es) ≡ lowest limit (level - e.net - s.net) es)
    → lowest limit level (insert_segment s (e ∷ es)) ≡ lowest limit (level - s.net) (e ∷ es)
lowest_step limit level s e es pass room room' ih =
    let same : level - e.net - s.net ≡ level - s.net - e.net = omega arith in
    let joined : level - (e.net + s.net) ≡ level - s.net - e.net = omega arith in
    let carried = ap (λ n. lowest limit n es) same in
    let carried' = ap (λ n. lowest limit n es) joined in
    grind (arith, nat_tests, carried, carried')

-- a run that passes may be run before the others: they end at the same level
pub lowest_inserted : (limit level : ℕ) (s : Segment) (es : List Segment) → level + s.up < limit → s.net + net_sum es ≤ level
    → lowest limit level (insert_segment s es) ≡ lowest limit (level - s.net) es
lowest_inserted limit level s [] pass room = grind (arith, nat_tests)
lowest_inserted limit level s (e ∷ es) pass room =
    lowest_step limit level s e es pass (omega arith) (omega arith)
    (λ lt. lowest_inserted limit (level - e.net) s es (omega arith) (omega arith))
