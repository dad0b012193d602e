-- What holds while the segments of a side are put behind another.
use Rattle.std.proofs.Common.{◌≡◌, ℕ, ◌+◌, ◌<◌, ◌≤◌, ◌-◌, max, min, Bool, List, [], ◌∷◌, ◌++◌}
use Rattle.std.proofs.Common.{refl, ap, sym, subst, ◌∙◌, arith, length, true, false}
use Rattle.std.specs.Prelude.{nat_le, Result, Ok, Err, IfOk, OnOk}
use Rattle.std.specs.Bool.{MatchBool}
use Rattle.std.proofs.lemmas.Bool.Decides.{nat_tests}
use Rattle.std.proofs.lemmas.List.{length-map}
use Rattle.limits.specs.Limits.{most_total}
use Rattle.side_laws.specs.Segments.{Segment, net_sum, IsRising, StartsAbove, last_up}
use Rattle.hill_valley.specs.declared.ropes.Rope.{Rope}
use Rattle.hill_valley.specs.declared.side.Seg.{Seg}
use Rattle.hill_valley.specs.Ropes.{list_of, IsRope, Extends}
use Rattle.hill_valley.specs.Side.{profile, HaveRopes, Run, run_of, runs_of, run_numbers, run_profile, append_run, insert_run}
use Rattle.segment_merge.specs.Crossing.{append_runs}
use Rattle.segment_merge.specs.Laws.{SideLaws}
use Rattle.segment_merge.specs.Merging.{move_runs}
use Rattle.sp_cuts.specs.Parts.{CountsFewer}

pub length_runs : (lists : List (List ℕ)) (side : List Seg) → length (runs_of lists side) ≡ length side
length_runs lists side = length-map side (run_of lists)

-- a run that goes no higher than the last is joined to it
joined_one : (r s : Run) → r.up ≤ s.up → length (append_run r (s ∷ [])) ≡ 1
joined_one r s h = grind (arith, nat_tests)

joined_length : (r : Run) (rs : List Run) → r.up ≤ last_up (run_profile rs) → length (append_run r rs) ≤ max 1 (length rs)
joined_length r [] h = omega arith
joined_length r (s ∷ []) h = omega (arith, joined_one r s h)
joined_length r (s ∷ t ∷ rs) h = omega (arith, joined_length r (t ∷ rs) h)

joined_longer : (r : Run) (rs : List Run) → (length rs ≤ length (append_run r rs)) × (1 ≤ length (append_run r rs))
joined_longer r [] = (omega arith, omega arith)
joined_longer r (s ∷ []) = let h = one r s in (omega arith, omega arith)
  where
    one : (r s : Run) → 1 ≤ length (append_run r (s ∷ []))
    one r s = grind (arith, nat_tests)
joined_longer r (s ∷ t ∷ rs) = let h = joined_longer r (t ∷ rs) in (omega (arith, h.0), omega arith)

pub longer : (r : Run) (rs rs' : List Run) → rs' ≡ append_run r rs → (length rs ≤ length rs') × (1 ≤ length rs')
longer r rs rs' e = let x = joined_longer r rs in (omega (arith, ap (length {A = Run}) e, x.0), omega (arith, ap (length {A = Run}) e, x.1))

-- one that goes higher than the last stands behind it
later_last : (s : Segment) (ss : List Segment) → 0 < length ss → last_up (s ∷ ss) ≡ last_up ss
later_last s [] h = absurd (omega arith)
later_last s (t ∷ ss) h = refl

higher_one : (r : Run) (rs : List Run) → last_up (run_profile rs) < r.up
    → (length (append_run r rs) ≡ length rs + 1) × (last_up (run_profile (append_run r rs)) ≡ r.up)
higher_one r [] h = (refl, refl)
higher_one r (s ∷ []) h = (two r s h, last r s h)
  where
    two : (r s : Run) → s.up < r.up → length (append_run r (s ∷ [])) ≡ 2
    two r s h = grind (arith, nat_tests)

    last : (r s : Run) → s.up < r.up → last_up (run_profile (append_run r (s ∷ []))) ≡ r.up
    last r s h = grind (arith, nat_tests)
higher_one r (s ∷ t ∷ rs) h =
    let x = higher_one r (t ∷ rs) h in (
      omega (arith, x.0),
      later_last (run_numbers s) (run_profile (append_run r (t ∷ rs))) (omega (arith, length-map (append_run r (t ∷ rs)) run_numbers, x.0))
          ∙ x.1,
    )

higher_all : (far near : List Run) → StartsAbove (last_up (run_profile near)) (run_profile far)
    → IsRising (run_profile far) → length (append_runs far near) ≡ length near + length far
higher_all [] near h r = omega arith
higher_all (s ∷ far) near h r =
    let x = higher_one s near h in
    higher_all far (append_run s near) (subst (λ (n : ℕ). StartsAbove n (run_profile far)) (sym x.1) r.0) r.1 ∙ omega (arith, x.0)

-- `far` is left of far0, and `near` is near0 with the others joined to it
pub record Appending (ropes0 ropes : List (List ℕ)) (far0 near0 far near : List Seg) : Type 0 where
  pub told : append_runs (runs_of ropes far) (runs_of ropes near) ≡ append_runs (runs_of ropes0 far0) (runs_of ropes0 near0)
  pub far_ropes : HaveRopes ropes far
  pub near_ropes : HaveRopes ropes near
  pub kept : Extends ropes0 ropes
  pub within : net_sum (profile far) + net_sum (profile near) ≤ most_total
  pub fewer : length far ≤ length far0
  pub short : length near ≤ max 1 (length near0)
  pub long : length near0 ≤ length near

module _ (laws : SideLaws) where
  pub appending_starts : (ropes : List (List ℕ)) (far near : List Seg) → HaveRopes ropes far → HaveRopes ropes near
      → net_sum (profile far) + net_sum (profile near) ≤ most_total → Appending ropes ropes far near far near
  appending_starts ropes far near f n w = record {
    told = refl;
    far_ropes = f;
    near_ropes = n;
    kept = laws.runs.itself ropes;
    within = w;
    fewer = omega arith;
    short = omega arith;
    long = omega arith;
  }

  module _ (ropes0 ropes : List (List ℕ)) (far0 near0 far near rest : List Seg) (s : Seg)
      (m : Appending ropes0 ropes far0 near0 far near) (first : far ≡ s ∷ rest) where
    pub appending_first : IsRope ropes s.tasks × (net_sum (profile near) + s.net ≤ most_total)
    appending_first = let r = rw first at m.far_ropes in let n = rw first at m.within in (r.0, omega arith)

    pub appending_on : (ropes' : List (List ℕ)) (near' : List Seg) → s.up ≤ last_up (profile near) → Extends ropes ropes'
        → HaveRopes ropes' near' → runs_of ropes' near' ≡ append_run (run_of ropes s) (runs_of ropes near)
        → net_sum (profile near') ≡ net_sum (profile near) + s.net → Appending ropes0 ropes' far0 near0 rest near'
    appending_on ropes' near' low kept ropes_near put net =
        let r = rw first at m.far_ropes in
        let w = rw first at m.within in
        let stay = laws.runs.stay ropes ropes' rest r.1 kept in
        record {
          told = ap (λ (l : List Run). append_runs l (runs_of ropes' near')) stay.1 ∙ ap (append_runs (runs_of ropes rest)) put
              ∙ ap (λ (l : List Seg). append_runs (runs_of ropes l) (runs_of ropes near)) (sym first) ∙ m.told;
          far_ropes = stay.0;
          near_ropes = ropes_near;
          kept = laws.runs.on ropes0 ropes ropes' m.kept kept;
          within = omega (arith, w, net);
          fewer = let n = ap (length {A = Seg}) first in let f = m.fewer in omega arith;
          short =
              let j = joined_length (run_of ropes s) (runs_of ropes near) (rw (laws.runs.profile ropes near) low) in
              let f = m.short in
              omega (arith, length_runs ropes' near', length_runs ropes near, ap (length {A = Run}) put);
          long =
              let j = (joined_longer (run_of ropes s) (runs_of ropes near)).0 in
              let f = m.long in
              omega (arith, length_runs ropes' near', length_runs ropes near, ap (length {A = Run}) put);
        }

-- one run takes in a lower one behind it
joined_to_one : (r s : Run) → s.up ≤ r.up
    → append_run s (r ∷ []) ≡ record { up = r.up; net = r.net + s.net; tasks = r.tasks ++ s.tasks } ∷ []
joined_to_one r s h = grind (arith, nat_tests)

-- `far` is left of far0, and `first` is first0 with the others joined to it
module _ (laws : SideLaws) (ropes0 ropes : List (List ℕ)) (far0 far rest : List Seg) (first0 first s : Seg)
    (m : Appending ropes0 ropes far0 (first0 ∷ []) far (first ∷ [])) (next : far ≡ s ∷ rest) where
  pub before_first : IsRope ropes first.tasks × IsRope ropes s.tasks × (first.net + s.net ≤ most_total)
  before_first = let a = appending_first laws ropes0 ropes far0 (first0 ∷ []) far (first ∷ []) rest s m next in
      let n = m.near_ropes in
      (n.0, a.0, let w = a.1 in omega arith)

  pub before_on : (ropes' : List (List ℕ)) (tasks : Rope) → s.up ≤ first.up → Extends ropes ropes'
      → IsRope ropes' tasks → list_of ropes' tasks ≡ list_of ropes first.tasks ++ list_of ropes s.tasks
      → Appending ropes0 ropes' far0 (first0 ∷ []) rest (record { up = first.up; net = first.net + s.net; tasks = tasks } ∷ [])
  before_on ropes' tasks low kept rope put =
      appending_on laws ropes0 ropes far0 (first0 ∷ []) far (first ∷ []) rest s m next ropes'
      (record { up = first.up; net = first.net + s.net; tasks = tasks } ∷ []) low kept (rope, tt)
      (ap (λ (l : List ℕ). record { up = first.up; net = first.net + s.net; tasks = l } ∷ []) put
      ∙ sym (joined_to_one (run_of ropes first) (run_of ropes s) low))
      (omega arith)

-- a side that is higher throughout is behind the other, whichever of the two is moved into the other
module _ (laws : SideLaws) (old new : List (List ℕ)) (far near all : List Seg) (near_rises : IsRising (profile near))
    (far_rises : IsRising (profile far)) (higher : StartsAbove (last_up (profile near)) (profile far)) where
  near_runs : IsRising (run_profile (runs_of old near))
  near_runs = rw (laws.runs.profile old near) near_rises

  far_runs : IsRising (run_profile (runs_of old far))
  far_runs = rw (laws.runs.profile old far) far_rises

  higher_runs : StartsAbove (last_up (run_profile (runs_of old near))) (run_profile (runs_of old far))
  higher_runs = rw (laws.runs.profile old near, laws.runs.profile old far) higher

  pub joined_all : runs_of new all ≡ append_runs (runs_of old far) (runs_of old near) → length all ≡ length near + length far
  joined_all e = omega (
    arith,
    length_runs new all,
    length_runs old near,
    length_runs old far,
    ap (length {A = Run}) e,
    higher_all (runs_of old far) (runs_of old near) higher_runs far_runs,
  )

  pub near_moved : runs_of new all ≡ move_runs true (runs_of old near) (runs_of old far)
      → runs_of new all ≡ append_runs (runs_of old far) (runs_of old near)
  near_moved e = e ∙ laws.before (runs_of old near) (runs_of old far) near_runs
      ∙ sym (laws.appends (runs_of old far) (runs_of old near) near_runs far_runs higher_runs)

  pub far_moved : runs_of new all ≡ move_runs false (runs_of old far) (runs_of old near)
      → runs_of new all ≡ append_runs (runs_of old far) (runs_of old near)
  far_moved e = e ∙ laws.behind (runs_of old far) (runs_of old near) far_runs near_runs
      ∙ sym (laws.appends (runs_of old far) (runs_of old near) near_runs far_runs higher_runs)

-- what is put in front of the others at last
pub before_put : SideLaws
    → (ropes0 ropes new : List (List ℕ)) (far0 far left all : List Seg) (first0 first : Seg)
    → Appending ropes0 ropes far0 (first0 ∷ []) far (first ∷ []) → left ≡ far → StartsAbove first.up (profile far)
    → IsRising (profile left) → runs_of new all ≡ insert_run true (run_of ropes first) (runs_of ropes left)
    → (runs_of new all ≡ append_runs (runs_of ropes0 far0) (run_of ropes0 first0 ∷ [])) × (length all ≡ 1 + length left)
before_put laws ropes0 ropes new far0 far left all first0 first m same higher rises put =
    let up = subst (λ (l : List Seg). StartsAbove first.up (profile l)) (sym same) higher in
    let e : runs_of new all ≡ append_runs (runs_of ropes left) (runs_of ropes (first ∷ [])) =
    near_moved laws ropes new left (first ∷ []) all (tt, tt) rises up put in (
      e ∙ ap (λ (l : List Seg). append_runs (runs_of ropes l) (runs_of ropes (first ∷ []))) same ∙ m.told,
      joined_all laws ropes new left (first ∷ []) all (tt, tt) rises up e,
    )

-- ---- what is counted

pub both_ok : {T E : Type 0} (r : Result T E) (P : T → Type 0) (Q : Type 0) (R : T → Type 0)
    → ((x : T) → P x → Q → R x) → IfOk r P → OnOk r Q → IfOk r R
both_ok (Ok x) P Q R f p q = f x p q
both_ok (Err e) P Q R f p q = tt

-- the segments of a side that low ones were joined to
pub counted_joined : (near0 near far whole old new : ℕ) → near0 ≤ near → near ≤ max 1 near0
    → whole ≡ near + far → new ≡ old + min near far → CountsFewer near0 (max 1 near0) whole old new
counted_joined near0 near far whole old new long short e f = record {
  own = near;
  at_least = long;
  at_most = short;
  within = omega arith;
  counted = let g : whole - near ≡ far = omega arith in f ∙ ap (λ (k : ℕ). old + min near k) (sym g);
}

-- one segment in front of others
pub counted_first : (others whole old new : ℕ) → whole ≡ 1 + others → new ≡ old + min others 1 → CountsFewer 0 1 whole old new
counted_first others whole old new w e =
    record { own = 1; at_least = omega arith; at_most = omega arith; within = omega arith; counted = omega arith }

-- with one more of the hill
pub counted_over : (near near1 whole old new : ℕ) → near ≤ near1 → near1 ≤ near + 1 → 1 ≤ near1
    → CountsFewer near1 (max 1 near1) whole old new → CountsFewer near (near + 1) whole old new
counted_over near near1 whole old new long short some x =
    let l = x.at_least in
    let m = x.at_most in
    record { own = x.own; at_least = omega arith; at_most = omega arith; within = x.within; counted = x.counted }

pub if_first : (x y : ℕ) (P Q : Type 0) → x ≤ y → P → MatchBool (nat_le x y) P Q
if_first x y P Q h p = let e : nat_le x y ≡ true = grind (arith, nat_tests) in subst (λ (b : Bool). MatchBool b P Q) (sym e) p

pub if_second : (x y : ℕ) (P Q : Type 0) → y < x → Q → MatchBool (nat_le x y) P Q
if_second x y P Q h q = let e : nat_le x y ≡ false = grind (arith, nat_tests) in subst (λ (b : Bool). MatchBool b P Q) (sym e) q
