-- A request but `plan` has one report, and a request with a report has no refusal.
use Rattle.std.proofs.Common.{◌≡◌, ◌∙◌, ◌↔◌, ◌≤◌, ℕ, List, [], ◌∷◌, ◌++◌, Option, Some, None}
use Rattle.std.proofs.Common.{length, refl, sym, ap, subst, inl, inr, arith}
use Rattle.activation.specs.declared.events.Event.{Event}
use Rattle.activation.specs.Machine.{Setting, IsSetting}
use Rattle.activation.specs.Schedule.{HoldsEach, IsSchedule, first_moment}
use Rattle.claim_check.specs.Verdicts.{IsVerdict}
use Rattle.claim_check.specs.declared.verdict.Verdict.{Verdict}
use Rattle.mp_system.specs.declared.system.OrderKind.{OrderKind}
use Rattle.mp_system.specs.Memory.{peak_of}
use Rattle.mp_system.specs.System.{TaskSystem}
use Rattle.permutations.specs.Perm.{IsPerm}
use Rattle.matrix_files.specs.PermFile.{ReadsPerm}
use Rattle.plans.specs.Plan.{PlanValue, IsPriority}
use Rattle.plan_files.specs.PlanFile.{ReadsPlan}
use Rattle.plan_orders.specs.OrderOf.{PlannedOrderValue}
use Rattle.plan_orders.specs.PlanOrder.{ReadsPlanOrder}
use Rattle.postorder_best.specs.BestPostorder.{IsBestPostorder}
use Rattle.sp_terms.specs.declared.position.Position.{Position}
use Rattle.shared_systems.specs.Shared.{SharedTaskSystem}
use Rattle.shared_systems.specs.SharedTraversal.{IsSharedTraversal, first_shared_fault}
use Rattle.shared_graph_files.specs.EitherVersion.{is_second, system_of_either}
use Rattle.shared_graph_files.proofs.EitherLemmas.{stated_is_read}
use Rattle.sp_cuts.specs.StairLaws.{OneStairs}
use Rattle.trees.specs.declared.node.Node.{Node}
use Rattle.trees.specs.Tree.{IsTree, system_of_nodes}
use Rattle.reports.specs.Reports.{IsReport, IsDecided}
use Rattle.reports.specs.Check.{IsCheckOf, verdict_answer}
use Rattle.judging.specs.Files.{Answer, AreAccepted, HasValue, IsRefusedInRole, IsFirstRefusal, IsOrderFrom}
use Rattle.judging.specs.Files.{IsTreeOf, IsSystemOf, IsTaskSystemOf, IsSystemWithTerm}
use Rattle.reports.specs.Columns.{IsColumnsOf}
use Rattle.reports.specs.Demo.{IsDemoOf}
use Rattle.reports.specs.Fronts.{IsFrontsOf}
use Rattle.reports.specs.Post.{IsPost, post_answer}
use Rattle.reports.specs.Replay.{IsReplayAnswer, IsReplayOf}
use Rattle.requests.specs.Request.{Request, replay, tree, post, check, planning, simulate, demo, upgrade, spill, segments}
use Rattle.requests.specs.Request.{check_fences, check_graph, plan_graph, bounding, fencing, planned_fencing, standing, reduce, Upgrade, IsInRange}
use Rattle.requests.specs.Request.{columns, carrying, ColumnsFormat, Matrix}
use Rattle.requests.specs.Request.{IsMakeable, TreeInput, matrix_named, Input, OrderSource}
use Rattle.requests.specs.Request.{TaskSource, input_tasks, graph_tasks, task_files}
use Rattle.requests.specs.Request.{order_named, plan_named, Simulation, FileRole, NamedFile, plan_file, tree_input_files, input_files}
use Rattle.requests.specs.Request.{fence_file, source_file, priority_file, priority_files, files_of, fronts, OrderedMatrix}
use Rattle.reports.specs.Simulate.{IsPriorityFrom, IsSimulation, IsSimulationOf, setting_of, simulation_answer}
use Rattle.judging.specs.Priorities.{IsOwnPriority, priority_or}
use Rattle.reports.specs.Tree.{tree_answer}
use Rattle.judging.specs.Judged.{AreWithin}
use Rattle.judging.specs.Numbered.{IsNumberedTerm}
use Rattle.reports.specs.Upgrade.{Versioned, IsUpgradedFrom}
use Rattle.requests.specs.declared.commands.demo.Demo.{Demo}
use Rattle.judging.proofs.InputLemmas.{ordered_accepted, matrix_accepted, tree_accepted, input_accepted, source_accepted, work_has_system}
use Rattle.judging.proofs.InputLemmas.{system_accepted}
use Rattle.reports.proofs.BoundLemmas.{given_accepted}
use Rattle.reports.proofs.CarryLemmas.{carry_accepted}
use Rattle.reports.proofs.ColumnLemmas.{columns_accepted}
use Rattle.reports.proofs.OneOrder.{OrderFiles, one_order, same_fault, both_accepted}
use Rattle.reports.proofs.OneInput.{IsRunnable, Systems, TaskSystems, same_texts, same_task_texts}
use Rattle.reports.proofs.UpgradeLemmas.{upgrade_accepted, one_upgrade_answer}
use Rattle.reports.proofs.StairsLemmas.{one_segments, numbered_accepted}
use Rattle.judging.proofs.HeldTasks.{of_traversal, of_perm, of_own}

-- what is known of the parts of a report
pub record Reports : Type 0 where
  pub trees : (input : TreeInput) (texts : List (List ℕ)) (a b : List Node) → IsTreeOf input texts a → IsTreeOf input texts b
      → (a ≡ b) × IsTree a × (length texts ≡ length (tree_input_files input))
  pub systems : Systems
  pub task_systems : TaskSystems
  pub terms : (input : Input) (texts : List (List ℕ)) (s t : TaskSystem) (ps qs : List Position)
      → IsSystemWithTerm input texts s ps → IsSystemWithTerm input texts t qs → ps ≡ qs
  pub files : OrderFiles
  pub ranked : (bytes : List ℕ) (a : PlannedOrderValue) → ReadsPlanOrder bytes a → IsPriority (length a.order) a.priority
  pub perms : (n : ℕ) (bytes a b : List ℕ) → ReadsPerm n bytes a → ReadsPerm n bytes b → a ≡ b
  pub perm : (n : ℕ) (bytes a : List ℕ) → ReadsPerm n bytes a → IsPerm n a
  pub plans : (bytes : List ℕ) (a b : PlanValue) → ReadsPlan bytes a → ReadsPlan bytes b → a ≡ b
  pub shared_fault : (system : SharedTaskSystem) (order : List ℕ) → (first_shared_fault system order ≡ None) ↔ IsSharedTraversal system order
  pub long : (system : SharedTaskSystem) (order : List ℕ) → IsSharedTraversal system order → length order ≡ length system.tasks
  pub best : (nodes : List Node) (a b : List ℕ) → IsTree nodes → IsBestPostorder nodes a → IsBestPostorder nodes b → a ≡ b
  pub verdict : (system : TaskSystem) (ps : List Position) (plan : PlanValue) (a b : Verdict)
      → IsVerdict system ps plan a → IsVerdict system ps plan b → a ≡ b
  pub schedule : (c : Setting) → IsSetting c → (priority : List ℕ) → HoldsEach c.system priority
      → (a b : List Event) → IsSchedule c priority (first_moment c) a → IsSchedule c priority (first_moment c) b → a ≡ b
  pub demos : (made : Demo) (a b : Answer) → IsMakeable made → IsDemoOf made a → IsDemoOf made b → a ≡ b
  pub fronts : (m : OrderedMatrix) (bound workers : ℕ) (texts : List (List ℕ)) (a b : Answer)
      → 1 ≤ workers → IsFrontsOf m bound workers texts a
      → IsFrontsOf m bound workers texts b → a ≡ b
  pub columns : (m : Matrix) (source : Option OrderSource) (format : ColumnsFormat) (texts : List (List ℕ)) (a b : Answer)
      → IsColumnsOf m source format texts a → IsColumnsOf m source format texts b → a ≡ b
  pub upgrades : (u : Upgrade) (texts : List (List ℕ)) (a b : Versioned) → IsUpgradedFrom u texts a → IsUpgradedFrom u texts b → a ≡ b
  pub numbered : (input : Input) (texts : List (List ℕ)) (ps qs : List Position) (ks ls : List ℕ)
      → IsNumberedTerm input texts ps ks → IsNumberedTerm input texts qs ls → (ps ≡ qs) × (ks ≡ ls) × AreWithin (length ps) ks
  pub stairs : OneStairs

module _ (r : Reports) where
  -- ---- the parts

  no_shared_fault : (system : SharedTaskSystem) (order : List ℕ) (place : ℕ) (kind : OrderKind)
      → IsSharedTraversal system order → first_shared_fault system order ≡ Some (place, kind) → ⊥
  no_shared_fault system order place kind traversal fault = let none = (r.shared_fault system order).1 traversal in cc

  one_replay : (system : SharedTaskSystem) (order : List ℕ) (a b : Answer)
      → IsReplayAnswer system order a → IsReplayAnswer system order b → a ≡ b
  one_replay system order a b (inl is) (inl is') = is.1 ∙ sym is'.1
  one_replay system order a b (inl is) (inr (place, kind, fault, e)) = absurd (no_shared_fault system order place kind is.0 fault)
  one_replay system order a b (inr (place, kind, fault, e)) (inl is) = absurd (no_shared_fault system order place kind is.0 fault)
  one_replay system order a b (inr is) (inr is') = same_fault (first_shared_fault system order) a b is is'

  one_simulation : (c : Setting) (priority : List ℕ) (a b : Answer) → IsRunnable c.system
      → 1 ≤ c.workers → (IsSharedTraversal c.system c.order → HoldsEach c.system priority)
      → IsSimulation c priority a → IsSimulation c priority b → a ≡ b
  one_simulation c priority a b system workers holds (inl is) (inl is') = same_fault (first_shared_fault c.system c.order) a b is is'
  one_simulation c priority a b system workers holds (inl (place, kind, fault, e)) (inr (inl is)) =
      absurd (no_shared_fault c.system c.order place kind is.0 fault)
  one_simulation c priority a b system workers holds (inl (place, kind, fault, e)) (inr (inr (es, is, within, scheduled, e'))) =
      absurd (no_shared_fault c.system c.order place kind is fault)
  one_simulation c priority a b system workers holds (inr (inl is)) (inl (place, kind, fault, e)) =
      absurd (no_shared_fault c.system c.order place kind is.0 fault)
  one_simulation c priority a b system workers holds (inr (inl is)) (inr (inl is')) = is.2 ∙ sym is'.2
  one_simulation c priority a b system workers holds (inr (inl is)) (inr (inr (es, is', within, scheduled, e'))) =
      absurd (omega (arith, is.1, within))
  one_simulation c priority a b system workers holds (inr (inr (es, is, within, scheduled, e'))) (inl (place, kind, fault, e)) =
      absurd (no_shared_fault c.system c.order place kind is fault)
  one_simulation c priority a b system workers holds (inr (inr (es, is, within, scheduled, e'))) (inr (inl is')) =
      absurd (omega (arith, is'.1, within))
  one_simulation c priority a b system workers holds
      (inr (inr (es, is, within, scheduled, e))) (inr (inr (fs, is', within', scheduled', e'))) =
      let setting : IsSetting c = record { system = system c.order is; traversal = is; bound = within; workers = workers } in
      e ∙ ap (simulation_answer c) (r.schedule c setting priority (holds is) es fs scheduled scheduled') ∙ sym e'

  -- the priority, which holds each task once where the order is a traversal
  own_priority : (source : OrderSource) (system : SharedTaskSystem) (text order a b : List ℕ)
      → IsOrderFrom source text order → IsOwnPriority source text order a → IsOwnPriority source text order b
      → (a ≡ b) × (IsSharedTraversal system order → HoldsEach system a)
  own_priority (order_named name) system text order a b is_order is is' =
      (is ∙ sym is', λ traversal. subst (HoldsEach system) (sym is) (of_traversal system order traversal))
  own_priority (plan_named name) system text order a b (plan, is_plan, same) (own, is, e) (other, is', e') = (
    e ∙ ap (λ (p : PlannedOrderValue). priority_or order p.priority) (r.files.plans text own other is.1 is'.1) ∙ sym e',
    λ traversal.
        let orders : own.order ≡ order = ap (λ (p : PlannedOrderValue). p.order) (r.files.plans text own plan is.1 is_plan.1) ∙ sym same in
        let ranks = subst (λ (o : List ℕ). IsPriority (length o) own.priority) orders (r.ranked text own is.1) in
        subst (HoldsEach system) (sym e) (of_own system order own.priority traversal (r.long system order traversal) ranks),
  )

  one_priority :
      (source : OrderSource) (name : Option (List ℕ)) (system : SharedTaskSystem) (text : List ℕ) (rest : List (List ℕ)) (order a b : List ℕ)
      → IsOrderFrom source text order
      → IsPriorityFrom source name (length system.tasks) text rest order a
      → IsPriorityFrom source name (length system.tasks) text rest order b
      → (a ≡ b) × (IsSharedTraversal system order → HoldsEach system a)
  one_priority source None system text [] order a b is_order is is' = own_priority source system text order a b is_order is is'
  one_priority source None system text (f ∷ fs) order a b is_order is is' = absurd is
  one_priority source (Some name) system text [] order a b is_order is is' = absurd is
  one_priority source (Some name) system text (f ∷ []) order a b is_order is is' =
      let n = length system.tasks in
      (r.perms n f a b is.1 is'.1, λ traversal. of_perm system a (r.perm n f a is.1))
  one_priority source (Some name) system text (f ∷ g ∷ fs) order a b is_order is is' = absurd is

  -- ---- the reports

  replayed_once : (tasks : TaskSource) (source : OrderSource) (texts : List (List ℕ)) (a b : Answer)
      → IsReplayOf tasks source texts a → IsReplayOf tasks source texts b → a ≡ b
  replayed_once tasks source texts a b (mine, text, s, order, split, is_system, is_order, is)
      (mine', text', t, order', split', is_system', is_order', is') =
      let same = same_task_texts r.task_systems tasks mine mine' text text' [] [] s t (sym split ∙ split') is_system is_system' in
      let orders =
      one_order r.files source text order order' is_order (subst (λ (x : List ℕ). IsOrderFrom source x order') (sym same.1) is_order') in
      one_replay s order a b is (coe 1 0 (i. IsReplayAnswer (same.3 i) (orders i) b) is')

  checked_once : (input : Input) (texts : List (List ℕ)) (a b : Answer) → IsCheckOf input texts a → IsCheckOf input texts b → a ≡ b
  checked_once input texts a b (mine, text, s, ps, plan, split, with_term, is_plan, (v, is, e))
      (mine', text', t, qs, plan', split', with_term', is_plan', (w, is', e')) =
      let same = same_texts r.systems input mine mine' text text' [] [] s t (sym split ∙ split')
      (work_has_system input mine s ps with_term) (work_has_system input mine' t qs with_term') in
      let terms = r.terms input mine s t ps qs with_term
      (subst (λ (ts : List (List ℕ)). IsSystemWithTerm input ts t qs) (sym same.0) with_term') in
      let plans = r.plans text plan plan' is_plan.1 (subst (λ (x : List ℕ). ReadsPlan x plan') (sym same.1) is_plan'.1) in
      e ∙ ap verdict_answer (r.verdict s ps plan v w is (coe 1 0 (i. IsVerdict (same.3 i) (terms i) (plans i) w) is')) ∙ sym e'

  posted_once : (nodes : List Node) (a b : Answer) → IsTree nodes → IsPost nodes a → IsPost nodes b → a ≡ b
  posted_once nodes a b is (order, best, e) (order', best', e') =
      e ∙ ap (λ (o : List ℕ). post_answer (peak_of (system_of_nodes nodes) o) o) (r.best nodes order order' is best best') ∙ sym e'

  simulated_once : (tasks : TaskSource) (source : OrderSource) (s : Simulation) (texts : List (List ℕ)) (a b : Answer) → 1 ≤ s.workers
      → IsSimulationOf tasks source s texts a → IsSimulationOf tasks source s texts b → a ≡ b
  simulated_once tasks source s texts a b workers
      (mine, text, rest, system, order, priority, split, is_system, is_order, is_priority, is)
      (mine', text', rest', system', order', priority', split', is_system', is_order', is_priority', is') =
      let same = same_task_texts r.task_systems tasks mine mine' text text' rest rest' system system' (sym split ∙ split')
      is_system is_system' in
      let orders =
      one_order r.files source text order order' is_order (subst (λ (x : List ℕ). IsOrderFrom source x order') (sym same.1) is_order') in
      let moved = coe 1 0
      (i. IsPriorityFrom source s.priority (length (same.3 i).tasks) (same.1 i) (same.2 i) (orders i) priority') is_priority' in
      let one = one_priority source s.priority system text rest order priority priority' is_order is_priority moved in
      one_simulation (setting_of system order s) priority a b (r.task_systems tasks mine system system is_system is_system).1 workers one.1 is
      (coe 1 0 (i. IsSimulation (setting_of (same.3 i) (orders i) s) (one.0 i) b) is')

  pub one_report : (request : Request) (texts : List (List ℕ)) (a b : Answer) → IsInRange request → IsDecided request
      → IsReport request texts a → IsReport request texts b → a ≡ b
  one_report (replay tasks source) texts a b workers decided is is' = replayed_once tasks source texts a b is is'
  one_report (tree m) texts a b workers decided (nodes, is, e) (nodes', is', e') =
      e ∙ ap tree_answer (r.trees (matrix_named m) texts nodes nodes' is is').0 ∙ sym e'
  one_report (columns m source format) texts a b within decided is is' = r.columns m source format texts a b is is'
  one_report (post input) texts a b workers decided (nodes, is, best) (nodes', is', best') =
      let one = r.trees input texts nodes nodes' is is' in
      posted_once nodes a b one.1 best (subst (λ (ns : List Node). IsPost ns b) (sym one.0) best')
  one_report (check input plan workers) texts a b has decided is is' = checked_once input texts a b is is'
  one_report (check_graph graph name workers) texts a b has decided is is' = absurd decided
  one_report (check_fences tasks fences) texts a b has decided is is' = absurd decided
  one_report (planning input format) texts a b workers decided is is' = absurd decided
  one_report (plan_graph graph order effort format) texts a b workers decided is is' = absurd decided
  one_report (simulate tasks source s) texts a b workers decided is is' = simulated_once tasks source s texts a b workers.0 is is'
  one_report (fencing tasks source f) texts a b within decided is is' = absurd decided
  one_report (planned_fencing tasks f) texts a b within decided is is' = absurd decided
  one_report (standing tasks workers) texts a b within decided is is' = absurd decided
  one_report (demo made) texts a b within decided is is' = r.demos made a b within is is'
  one_report (upgrade u) texts a b within decided is is' = one_upgrade_answer r.upgrades u texts a b is is'
  one_report (spill tasks source bound) texts a b within decided is is' = absurd decided
  one_report (segments input) texts a b within decided is is' = one_segments r.numbered r.stairs input texts a b is is'
  one_report (fronts m bound workers) texts a b within decided is is' = r.fronts m bound workers texts a b within.0 is is'
  one_report (reduce name) texts a b within decided is is' = absurd decided
  one_report (carrying graph source) texts a b within decided is is' = absurd decided
  one_report (bounding graph order effort) texts a b within decided is is' = absurd decided

  -- ---- files that have values

  with_files : (xs ys : List NamedFile) (texts mine two : List (List ℕ)) → texts ≡ mine ++ two → length mine ≡ length xs
      → AreAccepted xs [] mine → AreAccepted ys mine two → AreAccepted (xs ++ ys) [] texts
  with_files xs ys texts mine two split len accepted more =
      subst (AreAccepted (xs ++ ys) []) (sym split) (both_accepted xs ys [] mine two len accepted more)

  -- those of an input, and more
  with_input : (input : Input) (ys : List NamedFile) (texts mine two : List (List ℕ)) (s : TaskSystem)
      → texts ≡ mine ++ two → IsSystemOf input mine s → AreAccepted ys mine two
      → AreAccepted (input_files input ++ ys) [] texts
  with_input input ys texts mine two s split is more =
      with_files (input_files input) ys texts mine two split (r.systems input mine s s is is).2 (input_accepted input mine s is) more

  -- those of tasks, and more
  with_tasks : (tasks : TaskSource) (ys : List NamedFile) (texts mine two : List (List ℕ)) (s : SharedTaskSystem)
      → texts ≡ mine ++ two → IsTaskSystemOf tasks mine s → AreAccepted ys mine two
      → AreAccepted (task_files tasks ++ ys) [] texts
  with_tasks tasks ys texts mine two s split is more =
      with_files (task_files tasks) ys texts mine two split (r.task_systems tasks mine s s is is).2 (system_accepted tasks mine s is) more

  priority_accepted : (tasks : TaskSource) (source : OrderSource) (name : Option (List ℕ))
      (mine : List (List ℕ)) (text : List ℕ) (rest : List (List ℕ)) (system : SharedTaskSystem) (order a : List ℕ)
      → IsTaskSystemOf tasks mine system → IsPriorityFrom source name (length system.tasks) text rest order a
      → AreAccepted (priority_files (priority_file tasks) name) (mine ++ text ∷ []) rest
  priority_accepted tasks source None mine text rest system order a is_system is = tt
  priority_accepted tasks source (Some name) mine text [] system order a is_system is = absurd is
  priority_accepted tasks source (Some name) mine text (f ∷ []) system order a is_system is =
      ((mine, text, system, a, refl, is_system, is), tt)
  priority_accepted tasks source (Some name) mine text (f ∷ g ∷ fs) system order a is_system is = absurd is

  pub report_accepted : (request : Request) (texts : List (List ℕ)) (a : Answer)
      → IsReport request texts a → AreAccepted (files_of request) [] texts
  report_accepted (replay tasks source) texts a (mine, text, s, order, split, is_system, is_order, is) =
      with_tasks tasks (source_file source ∷ []) texts mine (text ∷ []) s split is_system
      (source_accepted source mine text order is_order, tt)
  report_accepted (tree m) texts a (nodes, is, e) = matrix_accepted m texts nodes is
  report_accepted (columns m source format) texts a is = columns_accepted m source format texts a is
  report_accepted (post input) texts a (nodes, is, best) = tree_accepted input texts nodes is
  report_accepted (check input name workers) texts a (mine, text, s, ps, plan, split, with_term, is_plan, is) =
      with_input input (record { role = plan_file; name = name } ∷ []) texts mine (text ∷ []) s split
      (work_has_system input mine s ps with_term) ((plan, is_plan), tt)
  report_accepted (check_graph graph name workers) texts a (text, file, system, plan, e, is, is_plan, x) =
      subst (AreAccepted (files_of (check_graph graph name workers)) []) (sym e) ((system, is), ((plan, is_plan), tt))
  report_accepted (check_fences tasks name) texts a (mine, text, s, certificate, split, is_system, is_fences, x) =
      with_tasks tasks (record { role = fence_file; name = name } ∷ []) texts mine (text ∷ []) s split is_system
      ((certificate, is_fences), tt)
  report_accepted (planning input format) texts a is =
      input_accepted input texts is.system (work_has_system input texts is.system is.positions is.with_term)
  report_accepted (simulate tasks source s) texts a
      (mine, text, rest, system, order, priority, split, is_system, is_order, is_priority, is) =
      with_tasks tasks (source_file source ∷ priority_files (priority_file tasks) s.priority) texts mine
      (text ∷ rest) system split is_system (
        source_accepted source mine text order is_order,
        priority_accepted tasks source s.priority mine text rest system order priority is_system is_priority,
      )
  report_accepted (fencing tasks source f) texts a (mine, text, s, order, split, is_system, is_order, x) =
      with_tasks tasks (source_file source ∷ []) texts mine (text ∷ []) s split is_system
      (source_accepted source mine text order is_order, tt)
  report_accepted (planned_fencing tasks f) texts a (s, is_system, x) = system_accepted tasks texts s is_system
  report_accepted (standing tasks workers) texts a (s, is_system, x) = system_accepted tasks texts s is_system
  report_accepted (demo made) texts a is = tt
  report_accepted (upgrade u) texts a (value, is, e) = upgrade_accepted u texts value is
  report_accepted (spill (input_tasks input) source bound) texts a (mine, text, s, order, split, is_system, is_order, is) =
      with_input input (source_file source ∷ []) texts mine
      (text ∷ []) s split is_system (source_accepted source mine text order is_order, tt)
  report_accepted (spill (graph_tasks name) source bound) texts a (mine, text, s, order, split, is_system, is_order, is) =
      with_tasks (graph_tasks name) (source_file source ∷ []) texts mine
      (text ∷ []) s split is_system (source_accepted source mine text order is_order, tt)
  report_accepted (segments input) texts a (ps, numbered, is, answer) = numbered_accepted input texts ps numbered is
  report_accepted (fronts m bound workers) texts a (rows, order, is, made) = ordered_accepted m texts rows order is
  report_accepted (reduce name) texts a (text, stated, e, is, x) =
      subst (AreAccepted (files_of (reduce name)) []) (sym e)
      ((system_of_either stated, (is.0, stated_is_read (is_second text) text stated is.1)), tt)
  report_accepted (carrying graph source) texts a is = carry_accepted graph source texts a is
  report_accepted (plan_graph graph name effort format) texts a (text, rest, system, order, e, is, given, x) =
      subst (AreAccepted (files_of (plan_graph graph name effort format)) []) (sym e)
      ((system, is), given_accepted name (text ∷ []) rest order given)
  report_accepted (bounding graph name effort) texts a (text, rest, system, order, e, is, given, x) =
      subst (AreAccepted (files_of (bounding graph name effort)) []) (sym e)
      ((system, is), given_accepted name (text ∷ []) rest order given)

-- ---- refusals in turn

module _
    (not_both : (role : FileRole) (earlier : List (List ℕ)) (text : List ℕ) (answer : Answer)
    → HasValue role earlier text → IsRefusedInRole role earlier text answer → ⊥)
    (one_refusal : (role : FileRole) (earlier : List (List ℕ)) (text : List ℕ) (a b : Answer)
    → IsRefusedInRole role earlier text a → IsRefusedInRole role earlier text b → a ≡ b) where
  pub one_first_refusal : (files : List NamedFile) (earlier texts : List (List ℕ)) (a b : Answer)
      → IsFirstRefusal files earlier texts a → IsFirstRefusal files earlier texts b → a ≡ b
  one_first_refusal [] earlier texts a b is is' = absurd is
  one_first_refusal (f ∷ fs) earlier [] a b is is' = absurd is
  one_first_refusal (f ∷ fs) earlier (t ∷ texts) a b (inl is) (inl is') = one_refusal f.role earlier t a b is is'
  one_first_refusal (f ∷ fs) earlier (t ∷ texts) a b (inl is) (inr is') = absurd (not_both f.role earlier t a is'.0 is)
  one_first_refusal (f ∷ fs) earlier (t ∷ texts) a b (inr is) (inl is') = absurd (not_both f.role earlier t b is.0 is')
  one_first_refusal (f ∷ fs) earlier (t ∷ texts) a b (inr is) (inr is') = one_first_refusal fs (earlier ++ t ∷ []) texts a b is.1 is'.1

  pub none_refused : (files : List NamedFile) (earlier texts : List (List ℕ)) (a : Answer)
      → AreAccepted files earlier texts → IsFirstRefusal files earlier texts a → ⊥
  none_refused [] earlier texts a accepted is = is
  none_refused (f ∷ fs) earlier [] a accepted is = is
  none_refused (f ∷ fs) earlier (t ∷ texts) a accepted (inl is) = not_both f.role earlier t a accepted.0 is
  none_refused (f ∷ fs) earlier (t ∷ texts) a accepted (inr is) = none_refused fs (earlier ++ t ∷ []) texts a accepted.1 is.1
