-- What fences along an order that was planned promise of the runs that keep to them.
use Rattle.std.proofs.Common.{◌≡◌, ◌∙◌, ℕ, List, sym, ap, subst, inl, inr}
use Rattle.shared_systems.specs.Shared.{SharedTaskSystem}
use Rattle.shared_systems.specs.Bounds.{IsSharedSystem}
use Rattle.fences.specs.SharedRuns.{GoesOn, KeepsBound}
use Rattle.fences.specs.Certificates.{Certificate, Certifies}
use Rattle.fence_files.specs.FenceFile.{ReadsFences}
use Rattle.requests.specs.Request.{TaskSource, Fencing}
use Rattle.judging.specs.Files.{Answer, IsTaskSystemOf}
use Rattle.judging.specs.declared.status.Status.TheVariants.{Done}
use Rattle.reports.specs.PlannedFence.{IsFencedWithin, IsPlannedFenceAnswerOf}

module _
    (shared : (tasks : TaskSource) (texts : List (List ℕ)) (system : SharedTaskSystem) → IsTaskSystemOf tasks texts system → IsSharedSystem system)
    (keeps : (system : SharedTaskSystem) (c : Certificate) → IsSharedSystem system → Certifies system c
    → KeepsBound system c.fences c.workers c.bound)
    (goes : (system : SharedTaskSystem) (c : Certificate) → IsSharedSystem system → Certifies system c → GoesOn system c.fences) where
  pub fenced_within : (tasks : TaskSource) (f : Fencing) (texts : List (List ℕ)) (answer : Answer)
      → IsPlannedFenceAnswerOf tasks f texts answer → answer.status ≡ Done → IsFencedWithin tasks f texts answer.text
  fenced_within tasks f texts answer (system, is, (plan, planned, inl (place, kind, fault, e))) done =
      absurd (cc (sym (ap (λ (a : Answer). a.status) e) ∙ done))
  fenced_within tasks f texts answer (system, is, (plan, planned, inr (inl (traversal, below, e)))) done =
      absurd (cc (sym (ap (λ (a : Answer). a.status) e) ∙ done))
  fenced_within tasks f texts answer (system, is, (plan, planned, inr (inr (inl (traversal, within, crowded, e))))) done =
      absurd (cc (sym (ap (λ (a : Answer). a.status) e) ∙ done))
  fenced_within tasks f texts answer
      (system, is, (plan, planned, inr (inr (inr (c, traversal, within, certifies, asked, reads, e))))) done =
      let kept = keeps system c (shared tasks texts system is) certifies in
      record {
        system = system;
        is_system = is;
        order = plan.order;
        traversal = traversal;
        peak_within = within;
        certificate = c;
        asked = asked;
        certifies = certifies;
        keeps_bound = subst (KeepsBound system c.fences c.workers) asked.bound kept;
        goes_on = goes system c (shared tasks texts system is) certifies;
        reads = subst (λ (printed : List ℕ). ReadsFences printed c) (sym (ap (λ (a : Answer). a.text) e)) reads;
      }
