-- What an answer says of a bound: no traversal of the task graph has a peak below it.
use Rattle.std.proofs.Common.{◌≡◌, ◌∙◌, ◌≤◌, ℕ, List, [], ◌∷◌, Option, Some, None, refl, sym, ap, inl, inr, arith}
use Rattle.mp_text.specs.Report.{line_text}
use Rattle.shared_systems.specs.Shared.{SharedTaskSystem}
use Rattle.shared_systems.specs.SharedMemory.{shared_peak_of}
use Rattle.shared_systems.specs.SharedTraversal.{IsSharedTraversal, IsLeastShared}
use Rattle.shared_systems.specs.Bounds.{IsSharedSystem}
use Rattle.shared_graph_files.specs.EitherVersion.{ReadsSharedGraph}
use Rattle.peak_bounds.specs.declared.evidence.Evidence.{Evidence}
use Rattle.peak_bounds.specs.Evidence.{IsEvidence}
use Rattle.bounded_plans.specs.BoundedPlan.{BoundedPlanValue}
use Rattle.bound_check.specs.Accepted.{IsBoundAccepted}
use Rattle.bound_check.specs.declared.verdict.BoundVerdict.TheVariants as verdicts
use Rattle.judging.specs.Files.{Answer, IsSharedGraphFile, IsBoundedPlanFile, AreAccepted}
use Rattle.judging.specs.declared.status.Status.TheVariants.{Done}
use Rattle.requests.specs.Request.{order_files}
use Rattle.reports.specs.Bound.{IsBoundBy, IsGivenOrder, IsBoundOf, IsBounded}
use Rattle.reports.specs.CheckGraph.{IsBoundCheckOf, IsBoundCertified, IsYes, least_line, above_line}

-- the order that is given has a value
pub given_accepted : (name : Option (List ℕ)) (earlier texts : List (List ℕ)) (order : Option (List ℕ))
    → IsGivenOrder name texts order → AreAccepted (order_files name) earlier texts
given_accepted None earlier [] None is = tt
given_accepted None earlier [] (Some order) is = absurd is
given_accepted None earlier (text ∷ texts) order is = absurd is
given_accepted (Some name) earlier [] order is = absurd is
given_accepted (Some name) earlier (text ∷ []) None is = absurd is
given_accepted (Some name) earlier (text ∷ []) (Some order) is = ((order, is), tt)
given_accepted (Some name) earlier (text ∷ more ∷ texts) order is = absurd is

module _
    (read : (bytes : List ℕ) (system : SharedTaskSystem) → ReadsSharedGraph bytes system → IsSharedSystem system)
    (below : (system : SharedTaskSystem) (evidence : Evidence) (bound : ℕ) (order : List ℕ) → IsSharedSystem system
    → IsEvidence system evidence bound → IsSharedTraversal system order → bound ≤ shared_peak_of system order) where
  below_none : (text : List ℕ) (system : SharedTaskSystem) (evidence : Evidence) (bound : ℕ) → IsSharedGraphFile text system
      → IsBoundBy system evidence bound → (order : List ℕ) → IsSharedTraversal system order → bound ≤ shared_peak_of system order
  below_none text system evidence bound is by order traversal =
      below system evidence bound order (read text system is.1) by.shown traversal

  pub bounded : (name : Option (List ℕ)) (texts : List (List ℕ)) (answer : Answer)
      → IsBoundOf name texts answer → answer.status ≡ Done → IsBounded name texts answer.text
  bounded name texts answer (text, rest, system, None, split, is, given, (bound, evidence, by, e)) done = record {
    text = text;
    rest = rest;
    texts_are = split;
    system = system;
    is_system = is;
    order = None;
    is_order = given;
    peak = None;
    is_peak = tt;
    bound = bound;
    evidence = evidence;
    is_bound = by;
    below_none = below_none text system evidence bound is by;
    printed_is = ap (λ (a : Answer). a.text) e;
  }
  bounded name texts answer (text, rest, system, Some order, split, is, given, inl (traversal, (bound, evidence, by, e))) done = record {
    text = text;
    rest = rest;
    texts_are = split;
    system = system;
    is_system = is;
    order = Some order;
    is_order = given;
    peak = Some (shared_peak_of system order);
    is_peak = (traversal, refl);
    bound = bound;
    evidence = evidence;
    is_bound = by;
    below_none = below_none text system evidence bound is by;
    printed_is = ap (λ (a : Answer). a.text) e;
  }
  bounded name texts answer (text, rest, system, Some order, split, is, given, inr (place, kind, fault, e)) done =
      absurd (cc (sym (ap (λ (a : Answer). a.status) e) ∙ done))

module _
    (read : (bytes : List ℕ) (system : SharedTaskSystem) → ReadsSharedGraph bytes system → IsSharedSystem system)
    (below : (system : SharedTaskSystem) (plan : BoundedPlanValue) (order : List ℕ)
    → IsSharedSystem system → IsBoundAccepted system plan → IsSharedTraversal system order → plan.bound ≤ shared_peak_of system order)
    (least : (system : SharedTaskSystem) (plan : BoundedPlanValue)
    → IsSharedSystem system → IsBoundAccepted system plan → plan.bound ≡ plan.peak → IsLeastShared system plan.peak) where
  -- what an accepted plan certifies, by what was printed of it
  certifies : (graph file : List ℕ) (texts : List (List ℕ)) (system : SharedTaskSystem) (plan : BoundedPlanValue) (printed : List ℕ)
      → texts ≡ graph ∷ file ∷ [] → IsSharedGraphFile graph system → IsBoundedPlanFile file plan → IsBoundAccepted system plan
      → IsYes system plan.peak plan.bound printed → IsBoundCertified texts printed
  certifies graph file texts system plan printed split is is_plan accepted is_yes = record {
    graph = graph;
    file = file;
    texts_are = split;
    system = system;
    is_system = is;
    plan = plan;
    is_plan = is_plan;
    traversal = accepted.traversal;
    peak = accepted.peak;
    below_none = λ order traversal. below system plan order (read graph system is.1) accepted traversal;
    yes = is_yes;
  }

  pub bound_certified : (texts : List (List ℕ)) (answer : Answer)
      → IsBoundCheckOf texts answer → answer.status ≡ Done → IsBoundCertified texts answer.text
  bound_certified texts answer (graph, file, system, plan, split, is, is_plan, (verdicts.Least peak, (accepted, same, bound), e)) done =
      certifies graph file texts system plan answer.text split is is_plan accepted
      (inl (
        least system plan (read graph system is.1) accepted (bound ∙ sym same),
        ap (λ (a : Answer). a.text) e ∙ ap (λ (n : ℕ). line_text (least_line n)) (sym same),
      ))
  bound_certified texts answer (graph, file, system, plan, split, is, is_plan, (verdicts.Above peak bound, (accepted, same, is_bound, lt), e)) done =
      certifies graph file texts system plan answer.text split is is_plan accepted
      (inr (
        omega (arith, lt, same, is_bound),
        ap (λ (a : Answer). a.text) e ∙ ap (λ (n : ℕ). line_text (above_line n bound)) (sym same)
            ∙ ap (λ (n : ℕ). line_text (above_line plan.peak n)) (sym is_bound),
      ))
  bound_certified texts answer (graph, file, system, plan, split, is, is_plan, (verdicts.No objection, against, e)) done =
      absurd (cc (sym (ap (λ (a : Answer). a.status) e) ∙ done))
