-- The lowest level of one side.
use Rattle.std.proofs.Common.{◌≡◌, ℕ, ◌+◌, ◌-◌, ◌<◌, ◌≤◌, List, [], ◌∷◌, ◌++◌, ◌↔◌, refl, ap, ◌∙◌, arith, subst, inl, inr}
use Rattle.std.proofs.lemmas.Bool.Decides.{nat_tests}
use Rattle.side_laws.specs.Segments.{Segment, net_sum, lowest, top, Passes, last_up, IsRising, IsStuck}
use Rattle.side_laws.proofs.Passing.{passes_from_top}
use Rattle.lists.proofs.Orders.{lt_or_le}

go : (limit level : ℕ) (s : Segment) (ss : List Segment) → level + s.up < limit
    → lowest limit level (s ∷ ss) ≡ lowest limit (level - s.net) ss
go limit level s ss h = grind (arith, nat_tests)

stay : (limit level : ℕ) (s : Segment) (ss : List Segment) → limit ≤ level + s.up → lowest limit level (s ∷ ss) ≡ level
stay limit level s ss h = grind (arith, nat_tests)

-- where all pass, the lowest level is the last
pub lowest_passed : (limit level : ℕ) (ss : List Segment) → Passes limit level ss → lowest limit level ss ≡ level - net_sum ss
lowest_passed limit level [] p = omega arith
lowest_passed limit level (s ∷ ss) p = go limit level s ss p.0 ∙ lowest_passed limit (level - s.net) ss p.1 ∙ omega arith

pub lowest_end : (limit level : ℕ) (ss : List Segment) → top level ss < limit
    → net_sum ss ≤ level → lowest limit level ss ≡ level - net_sum ss
lowest_end limit level ss h room = lowest_passed limit level ss (passes_from_top limit level ss h)

le_step : (limit level : ℕ) (s : Segment) (ss : List Segment)
    → lowest limit (level - s.net) ss ≤ level - s.net → lowest limit level (s ∷ ss) ≤ level
le_step limit level s ss h = grind (arith, nat_tests)

pub lowest_le : (limit level : ℕ) (ss : List Segment) → lowest limit level ss ≤ level
lowest_le limit level [] = omega arith
lowest_le limit level (s ∷ ss) = le_step limit level s ss (lowest_le limit (level - s.net) ss)

ge_step : (limit level : ℕ) (s : Segment) (ss : List Segment)
    → level - s.net - net_sum ss ≤ lowest limit (level - s.net) ss → level - net_sum (s ∷ ss) ≤ lowest limit level (s ∷ ss)
ge_step limit level s ss h = grind (arith, nat_tests)

pub lowest_ge : (limit level : ℕ) (ss : List Segment) → level - net_sum ss ≤ lowest limit level ss
lowest_ge limit level [] = omega arith
lowest_ge limit level (s ∷ ss) = ge_step limit level s ss (lowest_ge limit (level - s.net) ss)

monotone_step : (less more level : ℕ) (s : Segment) (ss : List Segment) → less ≤ more
    → lowest more (level - s.net) ss ≤ lowest less (level - s.net) ss → lowest more (level - s.net) ss ≤ level - s.net
    → lowest more level (s ∷ ss) ≤ lowest less level (s ∷ ss)
monotone_step less more level s ss le ih low = grind (arith, nat_tests)

pub lowest_monotone : (less more level : ℕ) (ss : List Segment) → less ≤ more → lowest more level ss ≤ lowest less level ss
lowest_monotone less more level [] le = omega arith
lowest_monotone less more level (s ∷ ss) le =
    monotone_step less more level s ss le (lowest_monotone less more (level - s.net) ss le) (lowest_le more (level - s.net) ss)

-- the segments before the level at which the side is stuck, and those after it
pub lowest_splits : (limit level : ℕ) (ss : List Segment)
    → (before : List Segment) × (rest : List Segment) × (ss ≡ before ++ rest) × Passes limit level before
    × (lowest limit level ss ≡ level - net_sum before) × IsStuck limit (level - net_sum before) rest
lowest_splits limit level [] = ([], [], refl, tt, omega arith, tt)
lowest_splits limit level (s ∷ ss) = elim (lt_or_le (level + s.up) limit) [
  | inl h ↦
      let (before, rest, split, passes, low, stuck) = lowest_splits limit (level - s.net) ss in
      let same : level - s.net - net_sum before ≡ level - (s.net + net_sum before) = omega arith in (
        s ∷ before,
        rest,
        ap (λ (l : List Segment). s ∷ l) split,
        (h, passes),
        go limit level s ss h ∙ low ∙ same,
        subst (λ (n : ℕ). IsStuck limit n rest) same stuck,
      )
  | inr h ↦ ([], s ∷ ss, refl, tt, stay limit level s ss h ∙ omega arith, omega arith)
]

-- ---- the last segment decides

pub last_ge : (s : Segment) (ss : List Segment) → IsRising (s ∷ ss) → s.up ≤ last_up (s ∷ ss)
last_ge s [] h = omega arith
last_ge s (t ∷ ss) h = let above : s.up < t.up = h.0 in let rest = last_ge t ss h.1 in omega arith

pub stuck_by_last : (limit level : ℕ) (ss : List Segment) → IsRising ss
    → net_sum ss ≤ level → (limit ≤ top level ss) ↔ (limit - lowest limit level ss ≤ last_up ss)
stuck_by_last limit level [] rises room = (λ h. omega arith, λ h. omega arith)
stuck_by_last limit level (s ∷ []) rises room = elim (lt_or_le (level + s.up) limit) [
  | inl passes ↦ let low = go limit level s [] passes in (λ h. absurd (omega arith), λ h. absurd (omega arith))
  | inr stops ↦ let low = stay limit level s [] stops in (λ h. omega arith, λ h. omega arith)
]
stuck_by_last limit level (s ∷ t ∷ ss) rises room = elim (lt_or_le (level + s.up) limit) [
  | inl passes ↦
      let low = go limit level s (t ∷ ss) passes in
      let rest = stuck_by_last limit (level - s.net) (t ∷ ss) rises.1 (omega arith) in
      (λ h. let r = rest.0 (omega arith) in omega arith, λ h. let r = rest.1 (omega arith) in omega arith)
  | inr stops ↦
      let low = stay limit level s (t ∷ ss) stops in
      let last = last_ge s (t ∷ ss) rises in
      (λ h. omega arith, λ h. omega arith)
]
