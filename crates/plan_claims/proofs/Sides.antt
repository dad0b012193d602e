-- The lowest level of a side: from its first segments, and from how far the limit is above it.
use Rattle.std.proofs.Common.{◌≡◌, ℕ, suc, ◌+◌, ◌-◌, ◌<◌, ◌≤◌, inl, inr, refl, sym, ap, arith, ◌∙◌, List, [], ◌∷◌}
use Rattle.std.proofs.lemmas.Bool.Decides.{nat_tests}
use Rattle.side_laws.specs.Segments.{Segment, net_sum, lowest, top, IsRising, StartsAbove}
use Rattle.hill_valley.specs.Numbers.{first_down_to}
use Rattle.plan_claims.specs.Below.{LawsBelow}
use Rattle.plan_claims.specs.Levels.{kept_level}
use Rattle.lists.proofs.Orders.{lt_or_le}
use Rattle.hill_valley.proofs.Numbering.{first_goes}

go : (limit level : ℕ) (s : Segment) (ss : List Segment) → level + s.up < limit
    → lowest limit level (s ∷ ss) ≡ lowest limit (level - s.net) ss
go limit level s ss h = grind (arith, nat_tests)

stay : (limit level : ℕ) (s : Segment) (ss : List Segment) → limit ≤ level + s.up → lowest limit level (s ∷ ss) ≡ level
stay limit level s ss h = grind (arith, nat_tests)

pass : (over level : ℕ) (s : Segment) (ss : List Segment) → s.up < over → kept_level over level (s ∷ ss) ≡ kept_level over level ss
pass over level s ss h = grind (arith, nat_tests)

keep : (over level : ℕ) (s : Segment) (ss : List Segment) → over ≤ s.up
    → kept_level over level (s ∷ ss) ≡ kept_level over (level + s.net) ss
keep over level s ss h = grind (arith, nat_tests)

no_first : (stop level : ℕ) (s : Segment) (ss : List Segment) → level < stop → first_down_to stop level (s ∷ ss) ≡ []
no_first stop level s ss h = grind (arith, nat_tests)

-- where the first one goes up by `over` or more, all do
all_kept : (over up level : ℕ) (ss : List Segment) → over ≤ up
    → StartsAbove up ss → IsRising ss → kept_level over level ss ≡ level + net_sum ss
all_kept over up level [] le h r = omega arith
all_kept over up level (s ∷ ss) le h r =
    keep over level s ss (omega arith) ∙ all_kept over s.up (level + s.net) ss (omega arith) r.0 r.1 ∙ omega arith

module _ (laws : LawsBelow) where
  below_start : (limit level : ℕ) (ss : List Segment) → lowest limit level ss ≤ level
  below_start limit level ss = (laws.sides.between limit level ss).1

  -- a segment is taken exactly where it goes up by less than the limit is above the lowest level: the others are above the end
  pub kept_above : (limit level least : ℕ) (ss : List Segment) → IsRising ss → net_sum ss + least ≡ level
      → lowest limit level ss ≡ kept_level (limit - lowest limit level ss) least ss
  kept_above limit level least [] r e = omega arith
  kept_above limit level least (s ∷ ss) r e = elim (lt_or_le (level + s.up) limit) [
    | inl lt ↦
        let low : ℕ = lowest limit (level - s.net) ss in
        let b : low ≤ level - s.net = below_start limit (level - s.net) ss in
        let is : lowest limit level (s ∷ ss) ≡ low = go limit level s ss lt in
        is ∙ kept_above limit (level - s.net) least ss r.1 (omega arith)
        ∙ sym (pass (limit - low) least s ss (omega arith)) ∙ ap (λ (n : ℕ). kept_level (limit - n) least (s ∷ ss)) (sym is)
    | inr le ↦
        let is : lowest limit level (s ∷ ss) ≡ level = stay limit level s ss le in
        let all : kept_level (limit - level) least (s ∷ ss) ≡ level =
        keep (limit - level) least s ss (omega arith)
        ∙ all_kept (limit - level) s.up (least + s.net) ss (omega arith) r.0 r.1 ∙ omega arith in
        is ∙ sym all ∙ ap (λ (n : ℕ). kept_level (limit - n) least (s ∷ ss)) (sym is)
  ]

  -- the first segments decide, as long as the lowest level is not below where they end
  pub lowest_of_first : (limit stop level : ℕ) (ss : List Segment) → stop ≤ suc (lowest limit level ss)
      → lowest limit level (first_down_to stop level ss) ≡ lowest limit level ss
  lowest_of_first limit stop level [] h = refl
  lowest_of_first limit stop level (s ∷ ss) h = elim (lt_or_le level stop) [
    | inl low ↦ ap (lowest limit level) (no_first stop level s ss low) ∙ (let b = below_start limit level (s ∷ ss) in omega arith)
    | inr high ↦
        ap (lowest limit level) (first_goes stop level s ss high) ∙ elim (lt_or_le (level + s.up) limit) [
          | inl lt ↦
              let e = go limit level s ss lt in
              go limit level s (first_down_to stop (level - s.net) ss) lt
              ∙ lowest_of_first limit stop (level - s.net) ss (omega arith) ∙ sym e
          | inr le ↦ stay limit level s (first_down_to stop (level - s.net) ss) le ∙ sym (stay limit level s ss le)
        ]
  ]

  pub lowest_end : (limit level : ℕ) (ss : List Segment) → top level ss < limit → lowest limit level ss ≡ level - net_sum ss
  lowest_end limit level ss h = laws.sides.after_all limit level ss (((laws.sides.passes limit level ss).0 h).1)
