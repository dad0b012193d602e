-- A simulation over the texts of the tasks, of the order and of the priority.
use Rattle.std.proofs.Common.{◌≡◌, ◌∙◌, ℕ, ◌≤◌, List, [], ◌∷◌, ◌++◌, Option, Some, None, length, sym, ap, subst, inl, arith, append_assoc}
use Rattle.reports.specs.Reports.{IsReport}
use Rattle.judging.specs.Files.{Answer, IsFirstRefusal}
use Rattle.reports.specs.Simulate.{IsPriorityFrom, IsSimulation, setting_of}
use Rattle.judging.specs.Priorities.{IsOwnPriority}
use Rattle.judging.specs.Told.{AreTold}
use Rattle.judging.specs.Judged.{IsStop, AreOrderedOf, IsPriorityOf, IsRefusedRanking, order_tasks, own_priority, priority_beside}
use Rattle.judging.specs.Judged.{system_of_tasks}
use Rattle.requests.specs.Request.{TaskSource, OrderSource, Simulation, FileRole, NamedFile, simulate, task_files}
use Rattle.requests.specs.Request.{source_file, priority_file, priority_files, files_of}
use Rattle.judging.specs.declared.inputs.Priority.{Priority}
use Rattle.judging.specs.declared.inputs.Priority.TheVariants as priorities
use Rattle.judging.specs.declared.inputs.Order.{Order}
use Rattle.judging.specs.declared.inputs.OrderedTasks.{OrderedTasks}
use Rattle.judging.specs.declared.stop.Stop.{Stop}
use Rattle.judging.proofs.StepLemmas.{over_both}
use Rattle.judging.proofs.InputLemmas.{tasks_have_system}

-- ---- the priority

pub few_priority : (role : FileRole) (name : Option (List ℕ)) → length (priority_files role name) ≤ 1
few_priority role None = omega arith
few_priority role (Some name) = omega arith

-- a priority that was judged is the one that is meant
priority_from :
    (source : OrderSource) (name : Option (List ℕ)) (n : ℕ) (text : List ℕ) (rest : List (List ℕ)) (order : Order) (priority : Priority)
    → IsOwnPriority source text (order_tasks order) (own_priority order) → IsPriorityOf name n rest priority
    → IsPriorityFrom source name n text rest (order_tasks order) (priority_beside order priority)
priority_from source None n text [] order priorities.Own own is = own
priority_from source None n text [] order (priorities.Given numbers) own is = absurd is
priority_from source None n text (file ∷ files) order priority own is = absurd is
priority_from source (Some name) n text [] order priority own is = absurd is
priority_from source (Some name) n text (file ∷ []) order priorities.Own own is = absurd is
priority_from source (Some name) n text (file ∷ []) order (priorities.Given numbers) own is = is
priority_from source (Some name) n text (file ∷ more ∷ files) order priority own is = absurd is

-- ---- the files in turn

module _ (told : List ℕ → Option (List ℕ)) (tasks : TaskSource) (source : OrderSource) (s : Simulation) where
  abbrev first : List NamedFile
  first = task_files tasks ++ source_file source ∷ []

  abbrev more : List NamedFile
  more = priority_files (priority_file tasks) s.priority

  whole : first ++ more ≡ files_of (simulate tasks source s)
  whole = append_assoc (task_files tasks) (source_file source ∷ []) more

  pub stop_of_all : (before after : List ℕ → ℕ) (e : Stop) → IsStop told before after (first ++ more) (IsFirstRefusal (first ++ more) []) e
      → IsStop told before after (files_of (simulate tasks source s)) (IsFirstRefusal (files_of (simulate tasks source s)) []) e
  stop_of_all before after e = subst (λ (fs : List NamedFile). IsStop told before after fs (IsFirstRefusal fs []) e) whole

  module _ (ordered : OrderedTasks) where
    pub ranking_refused : (name : Option (List ℕ)) (one two : List (List ℕ)) (answer : Answer)
        → AreOrderedOf tasks source one ordered → AreTold told (priority_files (priority_file tasks) name) two
        → IsRefusedRanking (length (system_of_tasks ordered.tasks).tasks) two answer
        → IsFirstRefusal (priority_files (priority_file tasks) name) one two answer
    ranking_refused None one [] answer is are refused = absurd refused
    ranking_refused None one (t ∷ two) answer is are refused = absurd are
    ranking_refused (Some name) one [] answer is are refused = absurd refused
    ranking_refused (Some name) one (t ∷ two) answer is are refused =
        inl (
          is.mine,
          is.text,
          system_of_tasks ordered.tasks,
          is.texts_are,
          tasks_have_system tasks is.mine ordered.tasks is.is_value,
          refused,
        )

    pub simulated : (are_ordered : (texts : List (List ℕ)) → AreTold told first texts → AreOrderedOf tasks source texts ordered)
        (priority : Priority) (answer : Answer)
        → ((texts : List (List ℕ)) → AreTold told more texts
        → IsPriorityOf s.priority (length (system_of_tasks ordered.tasks).tasks) texts priority)
        → IsSimulation (setting_of (system_of_tasks ordered.tasks) (order_tasks ordered.order) s)
        (priority_beside ordered.order priority) answer
        → (texts : List (List ℕ)) → AreTold told (files_of (simulate tasks source s)) texts
        → IsReport (simulate tasks source s) texts answer
    simulated are_ordered priority answer is_priority is texts are =
        over_both told first more (λ ts. IsReport (simulate tasks source s) ts answer)
        (λ one two are_one are_two.
        let work = are_ordered one are_one in
        let split = ap (λ ts. ts ++ two) work.texts_are ∙ append_assoc work.mine (work.text ∷ []) two in
        let system = system_of_tasks ordered.tasks in (
          work.mine,
          work.text,
          two,
          system,
          order_tasks ordered.order,
          priority_beside ordered.order priority,
          split,
          tasks_have_system tasks work.mine ordered.tasks work.is_value,
          work.is_order.0,
          priority_from source s.priority
              (length system.tasks) work.text two ordered.order priority work.is_order.1 (is_priority two are_two),
          is,
        )) texts (subst (λ fs. AreTold told fs texts) (sym whole) are)
