-- What an answer says of a plan of a task graph: `check` says yes to its file, and no traversal has a peak below its bound.
use Rattle.std.proofs.Common.{◌≡◌, ◌∙◌, ◌<◌, ◌≤◌, ◌⊎◌, ℕ, List, [], ◌∷◌, length, Option, Some, None, refl, sym, ap, inl, inr, arith}
use Rattle.std.proofs.lemmas.Bool.{cases_lt}
use Rattle.limits.specs.Limits.{most_bytes}
use Rattle.shared_systems.specs.Shared.{SharedTaskSystem}
use Rattle.shared_systems.specs.SharedMemory.{shared_peak_of}
use Rattle.shared_systems.specs.SharedTraversal.{IsSharedTraversal}
use Rattle.shared_systems.specs.Bounds.{IsSharedSystem}
use Rattle.shared_graph_files.specs.EitherVersion.{ReadsSharedGraph}
use Rattle.bounded_plans.specs.BoundedPlan.{BoundedPlanValue, IsBoundedPlan}
use Rattle.bounded_plan_files.specs.BoundedPlanFile.{ReadsBoundedPlan}
use Rattle.bounded_plan_files.specs.Printed.{bounded_plan_text}
use Rattle.bound_check.specs.Accepted.{IsBoundAccepted}
use Rattle.bound_check.specs.declared.verdict.BoundVerdict.TheVariants.{Least, Above}
use Rattle.judging.specs.Files.{Answer, IsSharedGraphFile, IsBoundedPlanFile}
use Rattle.judging.specs.declared.status.Status.TheVariants.{Done}
use Rattle.requests.specs.Request.{PlanFormat, as_file, as_json}
use Rattle.reports.specs.PlanGraph.{IsGraphPlanOf, IsGraphPlanned, IsFaultTold, IsBoundedPrint, IsCheckedPlan, bounded_answer}

-- a fault that is told is not done
no_fault_done : (system : SharedTaskSystem) (order : Option (List ℕ)) (answer : Answer)
    → IsFaultTold system order answer → answer.status ≡ Done → ⊥
no_fault_done system None answer told done = told
no_fault_done system (Some order) answer (place, kind, fault, e) done = cc (sym (ap (λ (a : Answer). a.status) e) ∙ done)

printed_as : (format : PlanFormat) (plan : BoundedPlanValue) (answer : Answer)
    → answer ≡ bounded_answer format plan → IsBoundedPrint format plan (bounded_plan_text plan) answer.text
printed_as as_file plan answer e = ap (λ (a : Answer). a.text) e
printed_as as_json plan answer e = ap (λ (a : Answer). a.text) e

module _
    (read : (bytes : List ℕ) (system : SharedTaskSystem) → ReadsSharedGraph bytes system → IsSharedSystem system)
    (below : (system : SharedTaskSystem) (plan : BoundedPlanValue) (order : List ℕ)
    → IsSharedSystem system → IsBoundAccepted system plan → IsSharedTraversal system order → plan.bound ≤ shared_peak_of system order)
    (reads : (plan : BoundedPlanValue) → IsBoundedPlan plan → ReadsBoundedPlan (bounded_plan_text plan) plan)
    (short : (plan : BoundedPlanValue) → IsBoundedPlan plan → length (bounded_plan_text plan) ≤ most_bytes) where
  checked : (text file : List ℕ) (system : SharedTaskSystem) (plan : BoundedPlanValue) → IsSharedGraphFile text system
      → IsBoundedPlanFile file plan → IsBoundAccepted system plan → IsCheckedPlan text file plan
  checked text file system plan is is_plan accepted =
      let le : plan.bound ≤ plan.peak =
      omega (arith, below system plan plan.order (read text system is.1) accepted accepted.traversal, accepted.peak) in
      elim (cases_lt plan.bound plan.peak) [
        | inl lt ↦ inr (
          lt,
          (text, file, system, plan, refl, is, is_plan, (Above plan.peak plan.bound, (accepted, refl, refl, lt), refl)),
        )
        | inr ge ↦ (let met : plan.bound ≡ plan.peak = omega (arith, le, ge) in
            inl (met, (text, file, system, plan, refl, is, is_plan, (Least plan.peak, (accepted, refl, met), refl))))
      ]

  pub graph_planned : (name : Option (List ℕ)) (format : PlanFormat) (texts : List (List ℕ)) (answer : Answer)
      → IsGraphPlanOf name format texts answer → answer.status ≡ Done → IsGraphPlanned name format texts answer.text
  graph_planned name format texts answer
      (text, rest, system, order, split, is, given, inl (plan, within, planned, from, e)) done = record {
        text = text;
        rest = rest;
        texts_are = split;
        system = system;
        is_system = is;
        order = order;
        is_order = given;
        plan = plan;
        file = bounded_plan_text plan;
        is_plan = (short plan within, reads plan within);
        printed_is = printed_as format plan answer e;
        traversal = planned.accepted.traversal;
        peak = planned.accepted.peak;
        below_none = λ other traversal. below system plan other (read text system is.1) planned.accepted traversal;
        least_or_not = planned.least_or_not;
        planned_from = from;
        checked = checked text (bounded_plan_text plan) system plan is (short plan within, reads plan within) planned.accepted;
      }
  graph_planned name format texts answer (text, rest, system, order, split, is, given, inr told) done =
      absurd (no_fault_done system order answer told done)
