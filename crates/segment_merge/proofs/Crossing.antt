-- The numbers and the tasks of a side behind a side, also over a hill.
use Rattle.std.proofs.Common.{◌≡◌, ℕ, ◌+◌, ◌-◌, max, leb, cond, List, [], ◌∷◌, ◌++◌, refl, ap, ◌∙◌, arith, Bool, true, false, append_assoc}
use Rattle.std.proofs.lemmas.Grind.{common_steps}
use Rattle.side_laws.specs.Segments.{Segment}
use Rattle.side_laws.specs.Appending.{append_segment, append_segments, cross_hill}
use Rattle.hill_valley.specs.Side.{Run, run_profile, tasks_of, append_run}
use Rattle.segment_merge.specs.Crossing.{append_runs, hill_run, cross_hill_runs}
use Rattle.hill_valley.specs.Laws.{RunLaws}

choice : (b : Bool) (x y : List Run) (x' y' : List Segment) → run_profile x ≡ x'
    → run_profile y ≡ y' → run_profile (cond b x y) ≡ cond b x' y'
choice true x y x' y' p q = p
choice false x y x' y' p q = q

pick : (b : Bool) (x y : List Run) (z : List ℕ) → tasks_of x ≡ z → tasks_of y ≡ z → tasks_of (cond b x y) ≡ z
pick true x y z p q = p
pick false x y z p q = q

module _ (laws : RunLaws) where
  pub profile_appends : (far near : List Run) → run_profile (append_runs far near) ≡ append_segments (run_profile far) (run_profile near)
  profile_appends [] near = refl
  profile_appends (s ∷ far) near = profile_appends far (append_run s near) ∙ ap (append_segments (run_profile far)) (laws.append s near)

  pub profile_crossing : (end hill level : ℕ) (ts : List ℕ) (far near : List Run)
      → run_profile (cross_hill_runs end hill level ts far near) ≡ cross_hill end hill level (run_profile far) (run_profile near)
  profile_crossing end hill level ts [] near = laws.append (hill_run end hill level ts) near
  profile_crossing end hill level ts (s ∷ far) near =
      choice (leb level end) (append_runs (s ∷ far) (append_run (hill_run end hill level ts) near))
      (cross_hill_runs end (max hill (level + s.up)) (level - s.net) (ts ++ s.tasks) far near)
      (append_segments (run_profile (s ∷ far)) (append_segment (hill - end) (end - level) (run_profile near)))
      (cross_hill end (max hill (level + s.up)) (level - s.net) (run_profile far) (run_profile near))
      (profile_appends (s ∷ far) (append_run (hill_run end hill level ts) near)
      ∙ ap (append_segments (run_profile (s ∷ far))) (laws.append (hill_run end hill level ts) near))
      (profile_crossing end (max hill (level + s.up)) (level - s.net) (ts ++ s.tasks) far near)

  pub tasks_appends : (far near : List Run) → tasks_of (append_runs far near) ≡ tasks_of near ++ tasks_of far
  tasks_appends [] near = grind (arith, common_steps)
  tasks_appends (s ∷ far) near = tasks_appends far (append_run s near)
      ∙ ap (λ (l : List ℕ). l ++ tasks_of far) (laws.tasks s near) ∙ append_assoc (tasks_of near) s.tasks (tasks_of far)

  pub tasks_crossing : (end hill level : ℕ) (ts : List ℕ) (far near : List Run)
      → tasks_of (cross_hill_runs end hill level ts far near) ≡ tasks_of near ++ (ts ++ tasks_of far)
  tasks_crossing end hill level ts [] near = laws.tasks (hill_run end hill level ts) near
      ∙ ap (λ (l : List ℕ). tasks_of near ++ l) (let e : ts ≡ ts ++ [] = grind (arith, common_steps) in e)
  tasks_crossing end hill level ts (s ∷ far) near =
      pick (leb level end) (append_runs (s ∷ far) (append_run (hill_run end hill level ts) near))
      (cross_hill_runs end (max hill (level + s.up)) (level - s.net) (ts ++ s.tasks) far near)
      (tasks_of near ++ (ts ++ tasks_of (s ∷ far)))
      (tasks_appends (s ∷ far) (append_run (hill_run end hill level ts) near)
      ∙ ap (λ (l : List ℕ). l ++ tasks_of (s ∷ far)) (laws.tasks (hill_run end hill level ts) near)
      ∙ append_assoc (tasks_of near) ts (tasks_of (s ∷ far)))
      (tasks_crossing end (max hill (level + s.up)) (level - s.net) (ts ++ s.tasks) far near
      ∙ ap (λ (l : List ℕ). tasks_of near ++ l) (append_assoc ts s.tasks (tasks_of far)))
