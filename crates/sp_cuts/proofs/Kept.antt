-- Parts, however many more ropes are made, and their numbers.
use Rattle.std.proofs.Common.{◌≡◌, ℕ, ◌+◌, ◌≤◌, max, List, [], ◌∷◌, refl, ap, sym, ◌∙◌, subst, arith}
use Rattle.side_laws.specs.Segments.{net_sum, top}
use Rattle.hill_valley.specs.Ropes.{Extends}
use Rattle.hill_valley.specs.Side.{profile, HaveRopes, Run, runs_of, run_profile}
use Rattle.segment_merge.specs.Laws.{SideLaws}
use Rattle.cut_laws.specs.Cuts.{Cut, front_peak, back_peak}
use Rattle.cut_laws.specs.Tops.{MeetsAtLeast, BothRise}
use Rattle.sp_cuts.specs.declared.parts.Part.{Part}
use Rattle.sp_cuts.specs.Parts.{cut_of, cuts_of, HasSides, IsPart, AreParts}
use Rattle.sp_cuts.specs.Splits.{IsRough, AreRough}

pub same_cut : (f f' b b' : List Run) (i e l : ℕ) → f ≡ f' → b ≡ b'
    → ◌≡◌ {A = Cut} (record { front = f; back = b; initial = i; fin = e; least = l })
    (record { front = f'; back = b'; initial = i; fin = e; least = l })
same_cut f f' b b' i e l p q = rw (p, q) refl

-- the greater of the peaks of both sides
abbrev pub peak_of_cut : Cut → ℕ
peak_of_cut c = max (front_peak c) (back_peak c)

-- sides that make a cut with what its cut says
pub sides_of : (lists : List (List ℕ)) (p : Part) (c : Cut) → cut_of lists p ≡ c
    → HaveRopes lists p.front → HaveRopes lists p.back → MeetsAtLeast c → BothRise c → HasSides lists p
sides_of lists p c e f b m r =
    record { front_ropes = f; back_ropes = b; meets = subst MeetsAtLeast (sym e) m; rising = subst BothRise (sym e) r }

module _ (laws : SideLaws) where
  pub cut_kept : (old new : List (List ℕ)) (p : Part) → HasSides old p → Extends old new → cut_of new p ≡ cut_of old p
  cut_kept old new p h k =
      same_cut (runs_of new p.front) (runs_of old p.front) (runs_of new p.back) (runs_of old p.back) p.initial p.fin p.least
      (laws.runs.stay old new p.front h.front_ropes k).1 (laws.runs.stay old new p.back h.back_ropes k).1

  pub sides_kept : (old new : List (List ℕ)) (p : Part) → HasSides old p → Extends old new → HasSides new p
  sides_kept old new p h k =
      sides_of new p (cut_of old p) (cut_kept old new p h k) (laws.runs.stay old new p.front h.front_ropes k).0
      (laws.runs.stay old new p.back h.back_ropes k).0 h.meets h.rising

  pub rough_kept : (old new : List (List ℕ)) (p : Part) → IsRough old p → Extends old new → IsRough new p
  rough_kept old new p h k = record {
    both = sides_kept old new p h.both k;
    bound = let b = h.bound in omega (arith, ap peak_of_cut (cut_kept old new p h.both k));
    within = h.within;
  }

  pub parts_stay : (old new : List (List ℕ)) (p : Part) → IsPart old p → Extends old new → IsPart new p × (cut_of new p ≡ cut_of old p)
  parts_stay old new p h k = (
    record {
      both = sides_kept old new p h.both k;
      peak = h.peak ∙ sym (ap peak_of_cut (cut_kept old new p h.both k));
      within = h.within;
    },
    cut_kept old new p h.both k,
  )

  pub all_parts_stay : (old new : List (List ℕ)) (ps : List Part) → AreParts old ps
      → Extends old new → AreParts new ps × (cuts_of new ps ≡ cuts_of old ps)
  all_parts_stay old new [] h k = (tt, refl)
  all_parts_stay old new (p ∷ ps) h k =
      let one = parts_stay old new p h.0 k in
      let r = all_parts_stay old new ps h.1 k in
      ((one.0, r.0), rw (one.1, r.1) refl)

  pub all_rough_stay : (old new : List (List ℕ)) (ps : List Part) → AreRough old ps → Extends old new
      → AreRough new ps × (cuts_of new ps ≡ cuts_of old ps)
  all_rough_stay old new [] h k = (tt, refl)
  all_rough_stay old new (p ∷ ps) h k =
      let r = all_rough_stay old new ps h.1 k in
      ((rough_kept old new p h.0 k, r.0), rw (cut_kept old new p h.0.both k, r.1) refl)

  -- the numbers of the sides, and each number within the peak
  pub record Within (lists : List (List ℕ)) (p : Part) : Type 0 where
    pub front_net : net_sum (profile p.front) + p.least ≡ p.initial
    pub back_net : net_sum (profile p.back) + p.least ≡ p.fin
    pub front_top : front_peak (cut_of lists p) ≡ top p.initial (profile p.front)
    pub back_top : back_peak (cut_of lists p) ≡ top p.fin (profile p.back)
    pub start : p.initial ≤ peak_of_cut (cut_of lists p)
    pub end : p.fin ≤ peak_of_cut (cut_of lists p)

  pub within : (lists : List (List ℕ)) (p : Part) → HasSides lists p → Within lists p
  within lists p h =
      let f = laws.runs.profile lists p.front in
      let b = laws.runs.profile lists p.back in
      record {
        front_net = sym (ap (λ l. net_sum l + p.least) f) ∙ h.meets.front;
        back_net = sym (ap (λ l. net_sum l + p.least) b) ∙ h.meets.back;
        front_top = ap (top p.initial) f;
        back_top = ap (top p.fin) b;
        start = omega (arith, laws.above p.initial (run_profile (runs_of lists p.front)));
        end = omega (arith, laws.above p.fin (run_profile (runs_of lists p.back)));
      }

  pub within_peak : (lists : List (List ℕ)) (p : Part) → IsPart lists p
      → (p.least ≤ p.initial) × (p.least ≤ p.fin) × (p.initial ≤ p.peak) × (p.fin ≤ p.peak)
  within_peak lists p h =
      let w = within lists p h.both in
      let s = w.start in let e = w.end in let f = w.front_net in let b = w.back_net in
      (omega arith, omega arith, omega (arith, h.peak), omega (arith, h.peak))

pub rough : (lists : List (List ℕ)) (p : Part) → IsPart lists p → IsRough lists p
rough lists p h = let e = h.peak in record { both = h.both; bound = omega arith; within = h.within }
