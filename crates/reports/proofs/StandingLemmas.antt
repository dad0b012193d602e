-- What a bound of tasks as they stand promises of their runs.
use Rattle.std.proofs.Common.{◌≡◌, ◌∙◌, ℕ, List, [], ◌∷◌, ◌++◌, Option, IfSome, refl, sym, ap, subst, inl, inr}
use Rattle.shared_systems.specs.Shared.{SharedTaskSystem}
use Rattle.shared_systems.specs.Bounds.{IsSharedSystem}
use Rattle.fences.specs.declared.fenced.Fence.{Fence}
use Rattle.fences.specs.Moments.{Moment}
use Rattle.fences.specs.Runs.Change.{starts, ends}
use Rattle.fences.specs.Runs.{Change, first_moment, moment_after}
use Rattle.fences.specs.SharedRuns.{CanStartFenced, GoesOn, IsFencedRunFrom, KeepsBound}
use Rattle.fences.specs.Implied.{AreImplied}
use Rattle.fences.specs.Certificates.{Certificate, Certifies}
use Rattle.fence_files.specs.FenceFile.{ReadsFences}
use Rattle.fence_files.specs.Printed.{AreCounted, IsPrintable, IsWord, fences_text}
use Rattle.fencing.specs.Standing.{IsStanding}
use Rattle.requests.specs.Request.{AreWorkers, TaskSource}
use Rattle.judging.specs.Files.{Answer, IsTaskSystemOf}
use Rattle.judging.specs.declared.status.Status.TheVariants.{Done}
use Rattle.reports.specs.Fence.{fences_answer}
use Rattle.reports.specs.Standing.{IsBoundedAsItStands, IsStandingAnswer, IsStandingAnswerOf}
use Rattle.reports.proofs.FenceLemmas.{counted}

-- ---- what is printed

pub standing_told :
    ((system : SharedTaskSystem) (c : Certificate) → IsSharedSystem system → Certifies system c → IsWord c.bound → AreCounted c.workers
    → IsPrintable c)
    → ((c : Certificate) → IsPrintable c → ReadsFences (fences_text c) c)
    → (system : SharedTaskSystem) (asked : Option ℕ) (c : Certificate) (answer : Answer)
    → IsSharedSystem system → IsWord c.bound → IfSome asked AreWorkers → IsStanding system asked c → answer ≡ fences_answer c
    → IsStandingAnswer system asked answer
standing_told printable reads system asked c answer within word range is e =
    let fits = printable system c within is.certifies word (counted asked c.workers range is.is_for) in
    inr (c, is, reads c fits, e)

-- ---- what is promised

-- a run that keeps to fences is one of the system as it stands
unfenced : (system : SharedTaskSystem) (fences : List Fence) (moment : Moment) (changes : List Change)
    → IsFencedRunFrom system fences moment changes → IsFencedRunFrom system [] moment changes
unfenced system fences moment [] is = tt
unfenced system fences moment (starts v ∷ rest) (can, is) =
    let start : CanStartFenced system [] moment v = record {
      task = can.task;
      not_done = can.not_done;
      not_running = can.not_running;
      ready = can.ready;
      passed = refl;
    } in
    (start, unfenced system fences (moment_after moment (starts v)) rest is)
unfenced system fences moment (ends v ∷ rest) (can, is) = (can, unfenced system fences (moment_after moment (ends v)) rest is)

-- where the fences forbid no run, what they promise holds of all runs
kept_as_it_stands : (system : SharedTaskSystem) (c : Certificate) → AreImplied system c.fences
    → KeepsBound system c.fences c.workers c.bound → KeepsBound system [] c.workers c.bound
kept_as_it_stands system c implied kept before rest run served = kept before rest (implied (before ++ rest) run) served

goes_on_as_it_stands : (system : SharedTaskSystem) (fences : List Fence) → AreImplied system fences → GoesOn system fences → GoesOn system []
goes_on_as_it_stands system fences implied goes changes v run task open_yet =
    let next = goes changes v (implied changes run) task open_yet in
    (next.0, next.1, unfenced system fences first_moment (changes ++ next.0 ∷ []) next.2)

module _
    (shared : (tasks : TaskSource) (texts : List (List ℕ)) (system : SharedTaskSystem) → IsTaskSystemOf tasks texts system → IsSharedSystem system)
    (keeps : (system : SharedTaskSystem) (c : Certificate) → IsSharedSystem system → Certifies system c
    → KeepsBound system c.fences c.workers c.bound)
    (goes : (system : SharedTaskSystem) (c : Certificate) → IsSharedSystem system → Certifies system c → GoesOn system c.fences) where
  pub bounded_as_it_stands : (tasks : TaskSource) (workers : Option ℕ) (texts : List (List ℕ)) (answer : Answer)
      → IsStandingAnswerOf tasks workers texts answer → answer.status ≡ Done → IsBoundedAsItStands tasks workers texts answer.text
  bounded_as_it_stands tasks workers texts answer (system, is, inl (crowded, e)) done =
      absurd (cc (sym (ap (λ (a : Answer). a.status) e) ∙ done))
  bounded_as_it_stands tasks workers texts answer (system, is, inr (c, stands, reads, e)) done =
      let within = shared tasks texts system is in
      record {
        system = system;
        is_system = is;
        certificate = c;
        certifies = stands.certifies;
        is_for = stands.is_for;
        keeps_bound = kept_as_it_stands system c stands.implied (keeps system c within stands.certifies);
        goes_on = goes_on_as_it_stands system c.fences stands.implied (goes system c within stands.certifies);
        reads = subst (λ (printed : List ℕ). ReadsFences printed c) (sym (ap (λ (a : Answer). a.text) e)) reads;
      }
