-- The part that a series makes.
use Rattle.std.proofs.Common.{◌≡◌, ℕ, ◌+◌, ◌<◌, ◌≤◌, ◌⊎◌, inl, inr, max, leb, List, refl, ap, sym, ◌∙◌, arith, true, false}
use Rattle.std.proofs.lemmas.Bool.Decides.{nat_tests}
use Rattle.limits.specs.Limits.{most_total}
use Rattle.side_laws.specs.Segments.{Segment, net_sum, top}
use Rattle.hill_valley.specs.declared.ropes.Rope.{Rope}
use Rattle.hill_valley.specs.declared.side.Seg.{Seg}
use Rattle.hill_valley.specs.Ropes.{list_of, Extends}
use Rattle.hill_valley.specs.Side.{profile, HaveRopes, Run, runs_of, run_profile}
use Rattle.segment_merge.specs.Crossing.{cross_hill_runs}
use Rattle.segment_merge.specs.Laws.{SideLaws}
use Rattle.cut_laws.specs.Cuts.{Cut, cut_first, cut_second, series_cut, over_task}
use Rattle.sp_cuts.specs.declared.parts.Part.{Part}
use Rattle.cut_laws.specs.Tops.{LiesInFirst, LiesInSecond}
use Rattle.sp_cuts.specs.Parts.{cut_of, HasSides}
use Rattle.sp_cuts.specs.Splits.{IsRough}
use Rattle.sp_cuts.proofs.Kept.{same_cut, peak_of_cut, within}

is_first : (a : Cut) (name hill : ℕ) (b : Cut) → a.least ≤ b.least → series_cut a name hill b ≡ cut_first a name hill b
is_first a name hill b h = let e : leb a.least b.least ≡ true = grind (arith, nat_tests) in rw e refl

is_second : (a : Cut) (name hill : ℕ) (b : Cut) → b.least < a.least → series_cut a name hill b ≡ cut_second a name hill b
is_second a name hill b h = let e : leb a.least b.least ≡ false = grind (arith, nat_tests) in rw e refl

-- a side that leads over a hill, from the runs that its making says
module _ (laws : SideLaws) (r0 r1 r2 : List (List ℕ)) (k01 : Extends r0 r1)
    (start low next name hill high : ℕ) (tasks : Rope) (near between far made : List Seg)
    (high_is : high ≡ max (top start (profile between)) hill) (way : list_of r1 tasks ≡ over_task (runs_of r0 between) name)
    (near_ropes : HaveRopes r0 near) (far_ropes : HaveRopes r0 far)
    (is : runs_of r2 made ≡ cross_hill_runs low high next (list_of r1 tasks) (runs_of r1 far) (runs_of r1 near)) where
  over_is : runs_of r2 made ≡ cross_hill_runs low (max (top start (run_profile (runs_of r0 between))) hill) next
      (over_task (runs_of r0 between) name) (runs_of r0 far) (runs_of r0 near)
  over_is = is ∙ ap (λ (l : List ℕ). cross_hill_runs low high next l (runs_of r1 far) (runs_of r1 near)) way
      ∙ ap (λ (l : List Run). cross_hill_runs low high next (over_task (runs_of r0 between) name) l (runs_of r1 near))
      (laws.runs.stay r0 r1 far far_ropes k01).1
      ∙ ap (cross_hill_runs low high next (over_task (runs_of r0 between) name) (runs_of r0 far))
      (laws.runs.stay r0 r1 near near_ropes k01).1
      ∙ ap (λ (n : ℕ). cross_hill_runs low n next (over_task (runs_of r0 between) name) (runs_of r0 far) (runs_of r0 near))
      (high_is ∙ ap (λ (l : List Segment). max (top start l) hill) (sym (laws.runs.profile r0 between)))

module _ (laws : SideLaws) (r0 r1 r2 : List (List ℕ)) (a b : Part) (name hill high : ℕ) (tasks : Rope)
    (made : List Seg) (pa : HasSides r0 a) (pb : HasSides r0 b) (k01 : Extends r0 r1) (k12 : Extends r1 r2) where
  pub first_cut : a.least ≤ b.least → high ≡ max (top b.initial (profile b.front)) hill
      → list_of r1 tasks ≡ over_task (runs_of r0 b.front) name
      → runs_of r2 made ≡ cross_hill_runs b.least high a.fin (list_of r1 tasks) (runs_of r1 a.back) (runs_of r1 b.back)
      → ◌≡◌ {A = Cut} (record { front = runs_of r2 a.front; back = runs_of r2 made; initial = a.initial; fin = b.fin; least = a.least })
      (series_cut (cut_of r0 a) name hill (cut_of r0 b))
  first_cut le h way is =
      same_cut (runs_of r2 a.front) (runs_of r0 a.front) (runs_of r2 made)
      (cross_hill_runs b.least (max (top b.initial (run_profile (runs_of r0 b.front))) hill) a.fin
      (over_task (runs_of r0 b.front) name) (runs_of r0 a.back) (runs_of r0 b.back))
      a.initial b.fin a.least (laws.runs.stay r0 r2 a.front pa.front_ropes (laws.runs.on r0 r1 r2 k01 k12)).1
      (over_is laws r0 r1 r2 k01 b.initial b.least a.fin name hill high
      tasks b.back b.front a.back made h way pb.back_ropes pa.back_ropes is)
      ∙ sym (is_first (cut_of r0 a) name hill (cut_of r0 b) le)

  pub second_cut : b.least < a.least → high ≡ max (top a.fin (profile a.back)) hill → list_of r1 tasks ≡ over_task (runs_of r0 a.back) name
      → runs_of r2 made ≡ cross_hill_runs a.least high b.initial (list_of r1 tasks) (runs_of r1 b.front) (runs_of r1 a.front)
      → ◌≡◌ {A = Cut} (record { front = runs_of r2 made; back = runs_of r2 b.back; initial = a.initial; fin = b.fin; least = b.least })
      (series_cut (cut_of r0 a) name hill (cut_of r0 b))
  second_cut lt h way is =
      same_cut (runs_of r2 made)
      (cross_hill_runs a.least (max (top a.fin (run_profile (runs_of r0 a.back))) hill) b.initial
      (over_task (runs_of r0 a.back) name) (runs_of r0 b.front) (runs_of r0 a.front))
      (runs_of r2 b.back) (runs_of r0 b.back)
      a.initial b.fin b.least
      (over_is laws r0 r1 r2 k01 a.fin a.least b.initial name hill high tasks
      a.front a.back b.front made h way pa.front_ropes pb.front_ropes is)
      (laws.runs.stay r0 r2 b.back pb.back_ropes (laws.runs.on r0 r1 r2 k01 k12)).1
      ∙ sym (is_second (cut_of r0 a) name hill (cut_of r0 b) lt)

-- the peak of a series, whichever of its parts it is cut in
pub peak_is : (a b c : Cut) (hill : ℕ) → LiesInFirst a b hill c ⊎ LiesInSecond a b hill c
    → peak_of_cut c ≡ max (peak_of_cut a) (max hill (peak_of_cut b))
peak_is a b c hill (inl h) = omega (arith, h.front, h.back)
peak_is a b c hill (inr h) = omega (arith, h.front, h.back)

-- so the part that it makes is rough
pub series_rough : (r0 r2 : List (List ℕ)) (a b p : Part) (hill : ℕ) → IsRough r0 a → IsRough r0 b → hill ≤ most_total → HasSides r2 p
    → LiesInFirst (cut_of r0 a) (cut_of r0 b) hill (cut_of r2 p) ⊎ LiesInSecond (cut_of r0 a) (cut_of r0 b) hill (cut_of r2 p)
    → p.peak ≡ max a.peak (max hill b.peak) → IsRough r2 p
series_rough r0 r2 a b p hill ra rb room sides kinds peak =
    let ba = ra.bound in let bb = rb.bound in let wa = ra.within in let wb = rb.within in
    record { both = sides; bound = omega (arith, peak_is (cut_of r0 a) (cut_of r0 b) (cut_of r2 p) hill kinds); within = omega arith }

-- what leading over a hill asks, where the side over the hill is the `far` one of a part whose least memory is not greater
pub record Leads (near far : List Seg) (end level high : ℕ) : Type 0 where
  pub net : net_sum (profile near) + end ≤ most_total
  pub room : net_sum (profile far) ≤ level
  pub falls : level ≤ end + net_sum (profile far)
  pub rises : end ≤ high
  pub top : top level (profile far) ≤ most_total
  pub hill : high ≤ most_total

module _ (laws : SideLaws) (lists : List (List ℕ)) (a b : Part) (hill high : ℕ) (ra : IsRough lists a)
    (rb : IsRough lists b) (after : a.fin ≤ hill) (before : b.initial ≤ hill) (room : hill ≤ most_total) where
  pub first_leads : a.least ≤ b.least → high ≡ max (top b.initial (profile b.front)) hill → Leads b.back a.back b.least a.fin high
  first_leads le h =
      let wa = within laws lists a ra.both in
      let wb = within laws lists b rb.both in
      let an = wa.back_net in let at = wa.back_top in let ab = ra.bound in let aw = ra.within in
      let bn = wb.back_net in
      let bf = wb.front_net in
      let bt = wb.front_top in
      let bb = rb.bound in
      let bw = rb.within in
      let be = wb.end in
      record { net = omega arith; room = omega arith; falls = omega arith; rises = omega arith; top = omega arith; hill = omega arith }

  pub second_leads : b.least < a.least → high ≡ max (top a.fin (profile a.back)) hill → Leads a.front b.front a.least b.initial high
  second_leads lt h =
      let wa = within laws lists a ra.both in
      let wb = within laws lists b rb.both in
      let an = wa.back_net in
      let at = wa.back_top in
      let af = wa.front_net in
      let ab = ra.bound in
      let aw = ra.within in
      let ai = wa.start in
      let bn = wb.front_net in let bt = wb.front_top in let bb = rb.bound in let bw = rb.within in
      record { net = omega arith; room = omega arith; falls = omega arith; rises = omega arith; top = omega arith; hill = omega arith }
