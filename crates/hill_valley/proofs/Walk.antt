-- One turn of a loop down a side.
use Rattle.std.proofs.Common.{◌≡◌, ℕ, ◌+◌, ◌-◌, ◌<◌, ◌≤◌, max, List, [], ◌∷◌, sym, arith, ap}
use Rattle.std.proofs.lemmas.Bool.Decides.{nat_tests}
use Rattle.limits.specs.Limits.{most_total}
use Rattle.side_laws.specs.Segments.{Segment, net_sum, lowest, top}
use Rattle.hill_valley.specs.declared.steps.Step.{Step}
use Rattle.hill_valley.specs.declared.side.Seg.{Seg}
use Rattle.hill_valley.specs.Side.{numbers, profile, AllUpsWithin, IsSide}
use Rattle.hill_valley.specs.Staircase.{add_step}
use Rattle.hill_valley.proofs.Staircases.{staircase, combine, falls, flat}

-- what holds at each turn, where ss are the segments that are left
pub record Walk (level : ℕ) (ss : List Segment) : Type 0 where
  pub room : net_sum ss ≤ level
  pub low : level ≤ most_total
  pub ups : AllUpsWithin ss

-- the numbers of the segments that are left, where this is the first
pub row_next : (ss rest : List Seg) (s : Seg) → ss ≡ s ∷ rest → profile ss ≡ numbers s ∷ profile rest
row_next ss rest s e = ap (λ (l : List Seg). profile l) e

pub walk_starts : (level : ℕ) (ss : List Segment) → IsSide ss → net_sum ss ≤ level → level ≤ most_total → Walk level ss
walk_starts level ss side room low = record { room = room; low = low; ups = side.1 }

pub walk_most : (level : ℕ) (ss : List Segment) → max level (top level ss) ≡ top level ss
walk_most level [] = omega arith
walk_most level (s ∷ ss) = omega arith

module _ (level : ℕ) (s : Segment) (ss rest : List Segment) (next : ss ≡ s ∷ rest) where
  pub walk_first : Walk level ss → (s.up ≤ most_total) × (s.net ≤ level)
  walk_first w =
      let u = rw next at w.ups in
      let r = rw next at w.room in
      (u.0, omega arith)

  pub walk_on : Walk level ss → Walk (level - s.net) rest
  walk_on w =
      let u = rw next at w.ups in
      let r = rw next at w.room in
      let l = w.low in
      record { room = omega arith; low = omega arith; ups = u.1 }

  go : (limit level : ℕ) (s : Segment) (ss : List Segment) → level + s.up < limit
      → lowest limit level (s ∷ ss) ≡ lowest limit (level - s.net) ss
  go limit level s ss h = grind (arith, nat_tests)

  stay : (limit level : ℕ) (s : Segment) (ss : List Segment) → limit ≤ level + s.up → lowest limit level (s ∷ ss) ≡ level
  stay limit level s ss h = grind (arith, nat_tests)

  pub walk_lowest : (limit : ℕ) → level + s.up < limit → lowest limit level ss ≡ lowest limit (level - s.net) rest
  walk_lowest limit h = rw next (go limit level s rest h)

  pub walk_stays : (limit : ℕ) → limit ≤ level + s.up → lowest limit level ss ≡ level
  walk_stays limit h = rw next (stay limit level s rest h)

  pub walk_top : (most : ℕ) → max (max most (level + s.up)) (top (level - s.net) rest) ≡ max most (top level ss)
  walk_top most = rw next (omega arith)

  pub walk_falls : (most : ℕ) (done : List Step) → 0 < s.net → Walk level ss
      → combine (add_step (max most (level + s.up)) (level - s.net) done) (staircase (max most (level + s.up)) (level - s.net) rest)
      ≡ combine done (staircase most level ss)
  walk_falls most done some w =
      let r = rw next at w.room in
      rw next (sym (falls most level s rest done some (omega arith)))

  pub walk_flat : (most : ℕ) (done : List Step) → s.net ≤ 0
      → combine done (staircase (max most (level + s.up)) (level - s.net) rest) ≡ combine done (staircase most level ss)
  walk_flat most done none = rw next (sym (flat most level s rest done (omega arith)))
