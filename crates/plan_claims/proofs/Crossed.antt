-- A series in numbers: one side is a part's, and the other goes over the near part and the hill.
use Rattle.std.proofs.Common.{◌≡◌, ℕ, ◌+◌, ◌-◌, ◌<◌, ◌≤◌, max, min, refl, subst, ap, arith, ◌∙◌, List}
use Rattle.std.specs.Prelude.{if◌then◌else◌, nat_lt}
use Rattle.side_laws.specs.Appending.{cross_hill}
use Rattle.side_laws.specs.Segments.{Segment, net_sum, lowest, top}
use Rattle.hill_valley.specs.Side.{run_profile}
use Rattle.sp_terms.specs.Term.{forward, backward}
use Rattle.cut_laws.specs.Cuts.{Cut, cut_first, cut_second, over_task, front_peak, back_peak}
use Rattle.cut_laws.specs.Tops.{MeetsAtLeast, BothRise}
use Rattle.plan_claims.specs.Below.{LawsBelow}
use Rattle.plan_claims.specs.Crossings.{LeadsOver}
use Rattle.plan_claims.proofs.Sides.{lowest_end}

module _ (laws : LawsBelow) (start mid hill next low : ℕ) (near between far : List Segment)
    (room : net_sum near + low ≡ start) (wide : low ≤ mid) (enough : next ≤ hill)
    (falls : next ≤ low + net_sum far) (room' : net_sum far ≤ next) where
  crossed_top : top start (cross_hill low (max (top mid between) hill) next far near)
      ≡ max (top start near) (max (max (top mid between) hill) (top next far))
  crossed_top =
      let peak : ℕ = max (top mid between) hill in
      let at : start - net_sum near ≡ low = omega arith in
      let high : low ≤ peak = omega (arith, laws.sides.above mid between) in
      subst (λ (n : ℕ). top start (cross_hill n peak next far near) ≡ max (top start near) (max peak (top next far))) at
      (laws.sides.crossing_top start peak next far near (omega arith) (omega arith) (omega arith) (omega arith) room')

  crossed_lowest : (limit : ℕ) → lowest limit start (cross_hill low (max (top mid between) hill) next far near)
      ≡ (if nat_lt (max (top start near) (max (top mid between) hill)) limit
      then min low (lowest limit next far) else lowest limit start near)
  crossed_lowest limit =
      let peak : ℕ = max (top mid between) hill in
      let at : start - net_sum near ≡ low = omega arith in
      let high : low ≤ peak = omega (arith, laws.sides.above mid between) in
      subst (λ (n : ℕ). lowest limit start (cross_hill n peak next far near)
      ≡ (if nat_lt (max (top start near) peak) limit then min n (lowest limit next far) else lowest limit start near)) at
      (laws.sides.crossing_lowest limit start peak next far near (omega arith) (omega arith) (omega arith) room')

  near_end : (limit : ℕ) → top start near < limit → lowest limit start near ≡ low
  near_end limit h = lowest_end laws limit start near h ∙ omega arith

module _ (laws : LawsBelow) (a b : Cut) (task hill : ℕ) (ma : MeetsAtLeast a)
    (mb : MeetsAtLeast b) (after : a.fin ≤ hill) (before : b.initial ≤ hill) where
  pub first_over : BothRise b → a.least ≤ b.least → LeadsOver backward b a (cut_first a task hill b) hill
  first_over rises le =
      let e = laws.sides.profile_crossing b.least (max (front_peak b) hill) a.fin (over_task b.front task) a.back b.back in
      let fa = ma.back in
      let fb = mb.front in
      record {
        far_top = refl;
        far_low = λ limit. refl;
        top_is = ap (top b.fin) e
            ∙ crossed_top laws b.fin b.initial hill a.fin b.least (run_profile b.back) (run_profile b.front)
            (run_profile a.back) mb.back (omega arith) after (omega arith) (omega arith);
        low_is = λ limit. ap (lowest limit b.fin) e
            ∙ crossed_lowest laws b.fin b.initial hill a.fin b.least (run_profile b.back) (run_profile b.front)
            (run_profile a.back) mb.back (omega arith) after (omega arith) (omega arith) limit;
        near_low = near_end laws b.fin b.initial hill a.fin b.least (run_profile b.back)
            (run_profile b.front) (run_profile a.back) mb.back (omega arith) after (omega arith) (omega arith);
        near_stuck = λ limit. laws.sides.by_last limit b.fin (run_profile b.back) rises.back (let m = mb.back in omega arith);
        turned_stuck = λ limit. laws.sides.by_last limit b.initial (run_profile b.front) rises.front (omega arith);
      }

  pub second_over : BothRise a → b.least < a.least → LeadsOver forward a b (cut_second a task hill b) hill
  second_over rises le =
      let e = laws.sides.profile_crossing a.least (max (back_peak a) hill) b.initial (over_task a.back task) b.front a.front in
      let fb = mb.front in
      let fa = ma.back in
      record {
        far_top = refl;
        far_low = λ limit. refl;
        top_is = ap (top a.initial) e
            ∙ crossed_top laws a.initial a.fin hill b.initial a.least (run_profile a.front) (run_profile a.back)
            (run_profile b.front) ma.front (omega arith) before (omega arith) (omega arith);
        low_is = λ limit. ap (lowest limit a.initial) e
            ∙ crossed_lowest laws a.initial a.fin hill b.initial a.least (run_profile a.front) (run_profile a.back)
            (run_profile b.front) ma.front (omega arith) before (omega arith) (omega arith) limit;
        near_low = near_end laws a.initial a.fin hill b.initial a.least (run_profile a.front)
            (run_profile a.back) (run_profile b.front) ma.front (omega arith) before (omega arith) (omega arith);
        near_stuck = λ limit. laws.sides.by_last limit a.initial (run_profile a.front) rises.front (let m = ma.front in omega arith);
        turned_stuck = λ limit. laws.sides.by_last limit a.fin (run_profile a.back) rises.back (omega arith);
      }
