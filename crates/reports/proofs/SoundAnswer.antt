-- What an answer says beside being one: a yes certifies, a plan is best, and a trace is of a run.
use Rattle.std.proofs.Common.{◌≡◌, ◌∙◌, ◌≤◌, ℕ, List, [], ◌∷◌, ◌++◌, length, refl, sym, ap, subst, inl, inr}
use Rattle.activation.specs.declared.events.Event.{Event}
use Rattle.activation.specs.Machine.{Setting, IsSetting, start_state}
use Rattle.activation.specs.Runs.{AreLegal, state_after_all, IsWithinBound, EachOnce}
use Rattle.activation.specs.Schedule.{IsSchedule, first_moment}
use Rattle.claim_check.specs.Accepted.{IsAccepted}
use Rattle.claim_check.specs.declared.verdict.Verdict.TheVariants.{Yes, No}
use Rattle.limits.specs.Limits.{most_bytes}
use Rattle.mp_system.specs.Renaming.{IsRenamed}
use Rattle.mp_system.specs.System.{TaskSystem}
use Rattle.mp_system.specs.Traversal.{IsLeast}
use Rattle.plans.specs.Plan.{PlanValue, IsPlan}
use Rattle.plan_files.specs.PlanFile.{ReadsPlan}
use Rattle.plan_files.specs.Printed.{plan_text}
use Rattle.sp_terms.specs.declared.position.Position.{Position}
use Rattle.sp_terms.specs.Postfix.{Denotes}
use Rattle.sp_terms.specs.SystemOfTerm.{system_of_term}
use Rattle.sp_terms.specs.Values.{IsTerms, term_of}
use Rattle.workflow_files.specs.WorkflowFile.{ReadsWorkflow}
use Rattle.trees.specs.declared.node.Node.{Node}
use Rattle.trees.specs.Forest.{Forest, IsForestOf, all_numbers}
use Rattle.trees.specs.Tree.{IsTree, system_of_nodes}
use Rattle.trees.specs.TreeTerm.{forest_positions}
use Rattle.reports.specs.Check.{IsCheckOf, IsCertified, yes_line}
use Rattle.judging.specs.Files.{Answer, IsPlanFile, IsTreeOf, IsSystemWithTerm}
use Rattle.reports.specs.Plan.{IsPlanOf, IsBestPlan, IsPrintedAs, plan_printed}
use Rattle.requests.specs.Request.{TreeInput, Input, TaskSource, tree_input, workflow_named, OrderSource, PlanFormat, as_file, as_json, Simulation}
use Rattle.reports.specs.Simulate.{IsSimulation, IsSimulationOf, IsSimulated, IsPrintedRun}
use Rattle.judging.specs.declared.status.Status.TheVariants.{Done}
use Rattle.judging.proofs.InputLemmas.{work_has_system}
use Rattle.reports.proofs.OneInput.{IsRunnable, TaskSystems, one_term}

-- ---- plans

module _
    (tree : (input : TreeInput) (texts : List (List ℕ)) (nodes : List Node) → IsTreeOf input texts nodes → IsTree nodes)
    (forest_terms : (nodes : List Node) (f : Forest) → IsTree nodes → IsForestOf nodes f → IsTerms (forest_positions nodes f))
    (forest_system : (nodes : List Node) (f : Forest) → IsTree nodes → IsForestOf nodes f
    → IsRenamed (all_numbers f) (system_of_term (term_of (forest_positions nodes f))) (system_of_nodes nodes))
    (workflow_terms : (bytes : List ℕ) (ps : List Position) → ReadsWorkflow bytes ps → IsTerms ps)
    (denotes : (ps : List Position) → IsTerms ps → Denotes ps (term_of ps))
    (own : (ps : List Position) (plan : PlanValue) → IsTerms ps
    → IsAccepted (system_of_term (term_of ps)) ps plan → IsLeast (system_of_term (term_of ps)) plan.peak)
    (renamed : (names : List ℕ) (system : TaskSystem) (ps : List Position) (plan : PlanValue) → IsTerms ps
    → IsRenamed names (system_of_term (term_of ps)) system → IsAccepted system ps plan → IsLeast system plan.peak) where
  -- an accepted plan of an input is of least peak
  is_least : (input : Input) (texts : List (List ℕ)) (s : TaskSystem) (ps : List Position) (plan : PlanValue)
      → IsSystemWithTerm input texts s ps → IsAccepted s ps plan → IsLeast s plan.peak
  is_least (tree_input input) texts s ps plan (nodes, f, is, e, forest, at) accepted =
      let of_tree = tree input texts nodes is in
      renamed (all_numbers f) s ps plan (subst IsTerms (sym at) (forest_terms nodes f of_tree forest))
      (coe 1 0 (i. IsRenamed (all_numbers f) (system_of_term (term_of (at i))) (e i)) (forest_system nodes f of_tree forest)) accepted
  is_least (workflow_named name) [] s ps plan is accepted = absurd is
  is_least (workflow_named name) (text ∷ []) s ps plan (u, is, d, e) accepted =
      let terms = workflow_terms text ps is.1 in
      let same = e ∙ ap system_of_term (one_term ps u (term_of ps) d (denotes ps terms)) in
      subst (λ (x : TaskSystem). IsLeast x plan.peak) (sym same)
      (own ps plan terms (subst (λ (x : TaskSystem). IsAccepted x ps plan) same accepted))
  is_least (workflow_named name) (text ∷ more ∷ texts) s ps plan is accepted = absurd is

  pub certified : (input : Input) (texts : List (List ℕ)) (answer : Answer)
      → IsCheckOf input texts answer → answer.status ≡ Done → IsCertified input texts answer.text
  certified input texts answer (mine, text, s, ps, plan, split, with_term, is_plan, (No objection, is, e)) done =
      absurd (cc (sym (ap (λ (a : Answer). a.status) e) ∙ done))
  certified input texts answer (mine, text, s, ps, plan, split, with_term, is_plan, (Yes peak, (accepted, is_peak), e)) done = record {
    mine = mine;
    text = text;
    texts_are = split;
    system = s;
    is_system = work_has_system input mine s ps with_term;
    plan = plan;
    is_plan = is_plan;
    traversal = accepted.traversal;
    peak = accepted.peak;
    least = is_least input mine s ps plan with_term accepted;
    printed_is = ap (λ (a : Answer). a.text) e ∙ ap yes_line (sym is_peak);
  }

  printed_as : (format : PlanFormat) (plan : PlanValue) → IsPrintedAs format plan (plan_text plan) (plan_printed format plan)
  printed_as as_file plan = refl
  printed_as as_json plan = refl

  pub best : ((plan : PlanValue) → IsPlan plan → ReadsPlan (plan_text plan) plan)
      → ((plan : PlanValue) → IsPlan plan → length (plan_text plan) ≤ most_bytes)
      → (input : Input) (format : PlanFormat) (texts : List (List ℕ)) (answer : Answer)
      → IsPlanOf input format texts answer → IsBestPlan input format texts answer.text
  best reads short input format texts answer is =
      let is_plan : IsPlanFile (plan_text is.plan) is.plan = (short is.plan is.within, reads is.plan is.within) in
      subst (λ (a : Answer). IsBestPlan input format texts a.text) (sym is.answer_is) (record {
        system = is.system;
        is_system = work_has_system input texts is.system is.positions is.with_term;
        plan = is.plan;
        file = plan_text is.plan;
        is_plan = is_plan;
        printed_is = printed_as format is.plan;
        traversal = is.accepted.traversal;
        peak = is.accepted.peak;
        least = is_least input texts is.system is.positions is.plan is.with_term is.accepted;
        checked = (
          texts,
          plan_text is.plan,
          is.system,
          is.positions,
          is.plan,
          refl,
          is.with_term,
          is_plan,
          (Yes is.plan.peak, (is.accepted, refl), refl),
        );
      })

-- ---- runs

module _
    (systems : TaskSystems)
    (legal : (c : Setting) (priority : List ℕ) (events : List Event)
    → IsSchedule c priority (first_moment c) events → AreLegal c (start_state c) events)
    (each_once : (c : Setting) → IsSetting c → (priority : List ℕ) (events : List Event)
    → IsSchedule c priority (first_moment c) events → EachOnce c events)
    (within : (c : Setting) → IsSetting c → (priority : List ℕ) (before rest : List Event)
    → IsSchedule c priority (first_moment c) (before ++ rest)
    → IsWithinBound c (state_after_all (start_state c) before)) where
  is_run : (c : Setting) (priority : List ℕ) (answer : Answer) → IsRunnable c.system → 1 ≤ c.workers
      → IsSimulation c priority answer → answer.status ≡ Done → IsPrintedRun c answer.text
  is_run c priority answer system workers (inl (place, kind, fault, e)) done = absurd (cc (sym (ap (λ (a : Answer). a.status) e) ∙ done))
  is_run c priority answer system workers (inr (inl (traversal, less, e))) done = absurd (cc (sym (ap (λ (a : Answer). a.status) e) ∙ done))
  is_run c priority answer system workers (inr (inr (events, traversal, bound, scheduled, e))) done =
      let setting : IsSetting c = record { system = system c.order traversal; traversal = traversal; bound = bound; workers = workers } in
      record {
        traversal = traversal;
        peak_within = bound;
        events = events;
        legal = legal c priority events scheduled;
        each_once = each_once c setting priority events scheduled;
        within =
            λ before rest split. within c setting priority before rest (subst (IsSchedule c priority (first_moment c)) split scheduled);
        printed_is = ap (λ (a : Answer). a.text) e;
      }

  pub simulated : (tasks : TaskSource) (source : OrderSource) (s : Simulation) (texts : List (List ℕ)) (answer : Answer)
      → 1 ≤ s.workers → IsSimulationOf tasks source s texts answer
      → answer.status ≡ Done → IsSimulated tasks source s texts answer.text
  simulated tasks source s texts answer workers
      (mine, text, rest, system, order, priority, split, is_system, is_order, is_priority, is) done = record {
        mine = mine;
        text = text;
        rest = rest;
        texts_are = split;
        system = system;
        is_system = is_system;
        order = order;
        is_order = is_order;
        run = is_run (record { system = system; order = order; bound = s.bound; workers = s.workers }) priority answer
            (systems tasks mine system system is_system is_system).1 workers is done;
      }
