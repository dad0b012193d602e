-- What holds on the way along a side, over a hill.
use Rattle.std.proofs.Common.{◌≡◌, ℕ, ◌+◌, ◌-◌, ◌<◌, ◌≤◌, max, List, [], ◌∷◌, ◌++◌, refl, ap, sym, ◌∙◌, arith, length}
use Rattle.std.proofs.lemmas.Bool.Decides.{nat_tests}
use Rattle.limits.specs.Limits.{most_total}
use Rattle.side_laws.specs.Segments.{net_sum, top}
use Rattle.hill_valley.specs.declared.ropes.Rope.{Rope}
use Rattle.hill_valley.specs.declared.side.Seg.{Seg}
use Rattle.hill_valley.specs.Ropes.{list_of, IsRope, Extends}
use Rattle.hill_valley.specs.Side.{profile, HaveRopes, Run, run_of, runs_of, append_run}
use Rattle.segment_merge.specs.Crossing.{append_runs, hill_run, cross_hill_runs}
use Rattle.segment_merge.specs.Laws.{SideLaws}

-- `far` is left of far0, and the others belong to the hill
pub record Going (end : ℕ) (ropes0 ropes : List (List ℕ)) (far0 far : List Seg)
    (hill0 level0 : ℕ) (tasks0 : Rope) (hill level : ℕ) (tasks : Rope) : Type 0 where
  pub told : (near : List Run)
      → cross_hill_runs end hill level (list_of ropes tasks) (runs_of ropes far) near
      ≡ cross_hill_runs end hill0 level0 (list_of ropes0 tasks0) (runs_of ropes0 far0) near
  pub far_ropes : HaveRopes ropes far
  pub rope : IsRope ropes tasks
  pub kept : Extends ropes0 ropes
  pub room : net_sum (profile far) ≤ level
  pub falls : level ≤ end + net_sum (profile far)
  pub rises : end ≤ hill
  pub high : top level (profile far) ≤ most_total
  pub within : hill ≤ most_total
  pub fewer : length far ≤ length far0

-- the next run belongs to the hill
on_is : (end hill level : ℕ) (ts : List ℕ) (s : Run) (far near : List Run) → end < level
    → cross_hill_runs end hill level ts (s ∷ far) near
    ≡ cross_hill_runs end (max hill (level + s.up)) (level - s.net) (ts ++ s.tasks) far near
on_is end hill level ts s far near h = grind (arith, nat_tests)

-- the way is down
stop_is : (end hill level : ℕ) (ts : List ℕ) (far near : List Run) → level ≤ end
    → cross_hill_runs end hill level ts far near ≡ append_runs far (append_run (hill_run end hill level ts) near)
stop_is end hill level ts [] near h = refl
stop_is end hill level ts (s ∷ far) near h = grind (arith, nat_tests)

module _ (laws : SideLaws) (end : ℕ) where
  pub going_starts : (ropes : List (List ℕ)) (far : List Seg) (hill level : ℕ) (tasks : Rope) → HaveRopes ropes far
      → IsRope ropes tasks → net_sum (profile far) ≤ level → level ≤ end + net_sum (profile far) → end ≤ hill
      → top level (profile far) ≤ most_total → hill ≤ most_total → Going end ropes ropes far far hill level tasks hill level tasks
  going_starts ropes far hill level tasks f r a b c d e = record {
    told = λ near. refl;
    far_ropes = f;
    rope = r;
    kept = laws.runs.itself ropes;
    room = a;
    falls = b;
    rises = c;
    high = d;
    within = e;
    fewer = omega arith;
  }

  module _ (ropes0 ropes : List (List ℕ)) (far0 far rest : List Seg)
      (hill0 level0 : ℕ) (tasks0 : Rope) (hill level : ℕ) (tasks : Rope) (s : Seg)
      (m : Going end ropes0 ropes far0 far hill0 level0 tasks0 hill level tasks) (first : far ≡ s ∷ rest) where
    pub going_first : IsRope ropes s.tasks × (s.net ≤ level) × (level + s.up ≤ most_total)
    going_first = let r = rw first at m.far_ropes in
        let n = rw first at m.room in
        let h = rw first at m.high in
        (r.0, omega arith, omega arith)

    pub going_on : (ropes' : List (List ℕ)) (hill' : ℕ) (tasks' : Rope) → end < level → hill' ≡ max hill (level + s.up)
        → Extends ropes ropes' → IsRope ropes' tasks' → list_of ropes' tasks' ≡ list_of ropes tasks ++ list_of ropes s.tasks
        → Going end ropes0 ropes' far0 rest hill0 level0 tasks0 hill' (level - s.net) tasks'
    going_on ropes' hill' tasks' above hill_is kept rope put =
        let r = rw first at m.far_ropes in
        let n = rw first at m.room in
        let f = rw first at m.falls in
        let h = rw first at m.high in
        let ri = m.rises in
        let wi = m.within in
        let stay = laws.runs.stay ropes ropes' rest r.1 kept in
        record {
          told = λ near.
              ap (λ (k : ℕ). cross_hill_runs end k (level - s.net) (list_of ropes' tasks') (runs_of ropes' rest) near) hill_is
              ∙ ap (λ (l : List ℕ). cross_hill_runs end (max hill (level + s.up)) (level - s.net) l (runs_of ropes' rest) near) put
              ∙ ap (λ (l : List Run). cross_hill_runs end (max hill (level + s.up))
              (level - s.net) (list_of ropes tasks ++ list_of ropes s.tasks) l near) stay.1
              ∙ sym (on_is end hill level (list_of ropes tasks) (run_of ropes s) (runs_of ropes rest) near above)
              ∙ ap (λ (l : List Seg). cross_hill_runs end hill level (list_of ropes tasks) (runs_of ropes l) near) (sym first)
              ∙ m.told near;
          far_ropes = stay.0;
          rope = rope;
          kept = laws.runs.on ropes0 ropes ropes' m.kept kept;
          room = omega arith;
          falls = omega arith;
          rises = omega arith;
          high = omega arith;
          within = omega arith;
          fewer = let l = ap (length {A = Seg}) first in let q = m.fewer in omega arith;
        }

  module _ (ropes0 ropes : List (List ℕ)) (far0 far : List Seg) (hill0 level0 : ℕ) (tasks0 : Rope)
      (hill level : ℕ) (tasks : Rope) (m : Going end ropes0 ropes far0 far hill0 level0 tasks0 hill level tasks) where
    pub going_ends : level ≤ end → (near : List Run)
        → cross_hill_runs end hill0 level0 (list_of ropes0 tasks0) (runs_of ropes0 far0) near
        ≡ append_runs (runs_of ropes far) (append_run (hill_run end hill level (list_of ropes tasks)) near)
    going_ends le near = sym (m.told near) ∙ stop_is end hill level (list_of ropes tasks) (runs_of ropes far) near le

    pub going_low : far ≡ [] → level ≤ end
    going_low e = let t = ap (λ (l : List Seg). net_sum (profile l)) e in let f = m.falls in omega arith

-- ---- the last step

pub over_told : SideLaws
    → (old ropes new : List (List ℕ)) (end hill0 level0 : ℕ) (ts0 : List ℕ) (far0 far near near' : List Seg) (hill level : ℕ) (ts : List ℕ)
    → HaveRopes old near → Extends old ropes → HaveRopes ropes far → Extends ropes new
    → ((n : List Run)
    → cross_hill_runs end hill0 level0 ts0 (runs_of old far0) n
    ≡ append_runs (runs_of ropes far) (append_run (hill_run end hill level ts) n))
    → runs_of new near' ≡ append_run (hill_run end hill level ts) (runs_of ropes near)
    → append_runs (runs_of new far) (runs_of new near') ≡ cross_hill_runs end hill0 level0 ts0 (runs_of old far0) (runs_of old near)
over_told laws old ropes new end hill0 level0 ts0 far0 far near near' hill level ts rn k rf k' told put =
    ap (λ (l : List Run). append_runs l (runs_of new near')) (laws.runs.stay ropes new far rf k').1
    ∙ ap (append_runs (runs_of ropes far)) put
    ∙ ap (λ (l : List Run). append_runs (runs_of ropes far) (append_run (hill_run end hill level ts) l))
    (laws.runs.stay old ropes near rn k).1
    ∙ sym (told (runs_of old near))
