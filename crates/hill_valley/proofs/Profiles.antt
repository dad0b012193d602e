-- The numbers of runs, and of runs with one more.
use Rattle.std.proofs.Common.{◌≡◌, ℕ, List, [], ◌∷◌, ◌++◌, refl, ap, sym, ◌∙◌, arith, Bool, append_assoc}
use Rattle.std.proofs.lemmas.Bool.Decides.{nat_tests}
use Rattle.std.proofs.lemmas.Grind.{common_steps}
use Rattle.side_laws.specs.Segments.{Segment}
use Rattle.side_laws.specs.Appending.{append_segment}
use Rattle.side_laws.specs.Merging.{insert_segment}
use Rattle.hill_valley.specs.declared.side.Seg.{Seg}
use Rattle.hill_valley.specs.Side.{profile, Run, runs_of, run_numbers, run_profile, tasks_of, insert_run, append_run}

pub profile_runs : (lists : List (List ℕ)) (ss : List Seg) → run_profile (runs_of lists ss) ≡ profile ss
profile_runs lists [] = refl
profile_runs lists (s ∷ ss) = rw (profile_runs lists ss) refl

insert_step : (before : Bool) (r s : Run) (ss : List Run)
    → run_profile (insert_run before r ss) ≡ insert_segment (run_numbers r) (run_profile ss)
    → run_profile (insert_run before r (s ∷ ss)) ≡ insert_segment (run_numbers r) (run_profile (s ∷ ss))
insert_step before r s ss ih = grind (arith, nat_tests)

pub profile_insert : (before : Bool) (r : Run) (ss : List Run)
    → run_profile (insert_run before r ss) ≡ insert_segment (run_numbers r) (run_profile ss)
profile_insert before r [] = refl
profile_insert before r (s ∷ ss) = insert_step before r s ss (profile_insert before r ss)

append_step : (r s : Run) → run_profile (append_run r (s ∷ [])) ≡ append_segment r.up r.net (run_profile (s ∷ []))
append_step r s = grind (arith, nat_tests)

pub profile_append : (r : Run) (ss : List Run) → run_profile (append_run r ss) ≡ append_segment r.up r.net (run_profile ss)
profile_append r [] = refl
profile_append r (s ∷ []) = append_step r s
profile_append r (s ∷ t ∷ ss) = ap (λ (l : List Segment). run_numbers s ∷ l) (profile_append r (t ∷ ss))

tasks_step : (r s : Run) → tasks_of (append_run r (s ∷ [])) ≡ tasks_of (s ∷ []) ++ r.tasks
tasks_step r s = grind (arith, nat_tests, common_steps)

-- the lists are only put behind one another
pub tasks_append : (r : Run) (ss : List Run) → tasks_of (append_run r ss) ≡ tasks_of ss ++ r.tasks
tasks_append r [] = grind (arith, common_steps)
tasks_append r (s ∷ []) = tasks_step r s
tasks_append r (s ∷ t ∷ ss) =
    ap (λ (l : List ℕ). s.tasks ++ l) (tasks_append r (t ∷ ss)) ∙ sym (append_assoc s.tasks (tasks_of (t ∷ ss)) r.tasks)
