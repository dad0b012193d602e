-- The peaks of a term's cut are within the sum of its sizes and extras.
use Rattle.std.proofs.Common.{◌+◌, ◌≤◌, inl, inr, ap, arith, List, map}
use Rattle.mp_system.specs.declared.system.Task.{Task}
use Rattle.sp_terms.specs.Places.{list_of_parts}
use Rattle.sp_terms.specs.Term.{Term, hold, series, par, Parts, no_parts, part, Direction}
use Rattle.sp_terms.specs.Term.{forward, backward, hill_of, IsAllowed, AreAllowed}
use Rattle.cut_laws.specs.Cuts.{Cut, par_cut, top_of, start_of}
use Rattle.cut_laws.specs.Tops.{tops}
use Rattle.plan_claims.specs.Below.{LawsBelow}
use Rattle.sp_cuts.specs.Notes.{cut_at, unnamed}
use Rattle.sp_cuts.specs.Stacks.{total_of, total_of_parts}
use Rattle.plan_claims.proofs.Crossed.{first_over, second_over}
use Rattle.cut_laws.proofs.Composed.{is_second}
use Rattle.cut_laws.proofs.Composed.{is_first}
use Rattle.plan_claims.proofs.Handed.{meets, rises}
use Rattle.plan_claims.proofs.Parted.{cuts_same, all_rise, all_start}
use Rattle.lists.proofs.Orders.{lt_or_le}

module _ (laws : LawsBelow) where
  pub start_below : (d : Direction) (c : Cut) → start_of d c ≤ top_of d c
  start_below forward c = laws.sides.above c.initial _
  start_below backward c = laws.sides.above c.fin _

  record Small (t : Term) : Type 0 where
    front : top_of forward (cut_at t) ≤ total_of t
    back : top_of backward (cut_at t) ≤ total_of t

  module _ (a : Term) (v : Task) (b : Term) (allowed : IsAllowed (series a v b)) (sa : Small a) (sb : Small b) where
    final_within : (cut_at a).fin ≤ total_of a
    final_within = let s = start_below backward (cut_at a) in let k = sa.back in omega arith

    initial_within : (cut_at b).initial ≤ total_of b
    initial_within = let s = start_below forward (cut_at b) in let k = sb.front in omega arith

    hill_within : hill_of a v b ≤ total_of a + v.extra + total_of b
    hill_within =
        let ea = (laws.stands a (unnamed a) allowed.2).final in
        let eb = (laws.stands b (unnamed b) allowed.3).initial in
        let x = final_within in let y = initial_within in
        omega arith

    after : (cut_at a).fin ≤ hill_of a v b
    after = let ea = (laws.stands a (unnamed a) allowed.2).final in omega arith

    before : (cut_at b).initial ≤ hill_of a v b
    before = let eb = (laws.stands b (unnamed b) allowed.3).initial in let h = allowed.0 in omega arith

    series_small : Small (series a v b)
    series_small = elim (lt_or_le (cut_at b).least (cut_at a).least) [
      | inl lt ↦
          let o = second_over laws (cut_at a) (cut_at b) 0 (hill_of a v b) (meets laws a allowed.2)
          (meets laws b allowed.3) after before (rises laws a allowed.2) lt in
          let e = is_second (cut_at a) 0 (hill_of a v b) (cut_at b) lt in
          let fa = sa.front in let ba = sa.back in let fb = sb.front in let bb = sb.back in
          let h = hill_within in let t = o.top_is in let u = o.far_top in
          record { front = omega (arith, ap (top_of forward) e); back = omega (arith, ap (top_of backward) e) }
      | inr le ↦
          let o = first_over laws (cut_at a) (cut_at b) 0 (hill_of a v b) (meets laws a allowed.2)
          (meets laws b allowed.3) after before (rises laws b allowed.3) le in
          let e = is_first (cut_at a) 0 (hill_of a v b) (cut_at b) le in
          let fa = sa.front in let ba = sa.back in let fb = sb.front in let bb = sb.back in
          let h = hill_within in let t = o.top_is in let u = o.far_top in
          record { front = omega (arith, ap (top_of forward) e); back = omega (arith, ap (top_of backward) e) }
    ]

  record AllSmall (ts : Parts) : Type 0 where
    fronts : tops forward (map cut_at (list_of_parts ts)) ≤ total_of_parts ts
    backs : tops backward (map cut_at (list_of_parts ts)) ≤ total_of_parts ts

  par_small : (ts : Parts) → AreAllowed ts → AllSmall ts → Small (par ts)
  par_small ts h s =
      let cs : List Cut = map cut_at (list_of_parts ts) in
      let f = laws.together forward cs (all_rise laws forward ts h) (all_start laws forward ts h) in
      let b = laws.together backward cs (all_rise laws backward ts h) (all_start laws backward ts h) in
      let sf = s.fronts in let sb = s.backs in
      let e = cuts_same ts in
      record {
        front = omega (arith, ap (λ (l : List Cut). top_of forward (par_cut l)) e);
        back = omega (arith, ap (λ (l : List Cut). top_of backward (par_cut l)) e);
      }

  mutual
    small : (t : Term) → IsAllowed t → Small t
    small (hold size) h = record { front = omega arith; back = omega arith }
    small (series a v b) h = series_small a v b h (small a h.2) (small b h.3)
    small (par ts) h = par_small ts h.1 (all_small ts h.1)

    all_small : (ts : Parts) → AreAllowed ts → AllSmall ts
    all_small no_parts h = record { fronts = omega arith; backs = omega arith }
    all_small (part t ts) h =
        let s = small t h.0 in
        let r = all_small ts h.1 in
        let f = s.front in let b = s.back in let fs = r.fronts in let bs = r.backs in
        record { fronts = omega arith; backs = omega arith }

  pub top_within : (d : Direction) (t : Term) → IsAllowed t → top_of d (cut_at t) ≤ total_of t
  top_within forward t h = (small t h).front
  top_within backward t h = (small t h).back
