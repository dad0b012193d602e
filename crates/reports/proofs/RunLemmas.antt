-- A page answers a request by a report, or by a first refusal, which is not done.
use Rattle.std.proofs.Common.{◌≡◌, ◌∙◌, ℕ, ◌<◌, List, [], ◌∷◌, ◌++◌, Option, length, take, sym, ap, subst, inl, inr}
use Rattle.std.specs.Prelude.{codes}
use Rattle.mp_outside.specs.Outside.{Appended}
use Rattle.mp_text.specs.declared.refusals.Refusal.{Refusal}
use Rattle.mp_text.specs.declared.refusals.Refusal.TheVariants as refusals
use Rattle.matrix_files.specs.OrderFile.{RefusesOrder}
use Rattle.matrix_files.specs.PermFile.{RefusesPerm}
use Rattle.matrix_files.specs.InverseFile.{RefusesInverse}
use Rattle.tree_files.specs.Kinds.{word_of as tree_word}
use Rattle.tree_files.specs.TreeFile.{RefusesTree}
use Rattle.workflow_files.specs.WorkflowFile.{RefusesWorkflow}
use Rattle.graph_files.specs.Kinds.{word_of as graph_word}
use Rattle.shared_graph_files.specs.EitherVersion.{RefusesSharedGraph}
use Rattle.matrix_files.specs.Kinds.{word_of as matrix_word}
use Rattle.matrix_files.specs.MatrixFile.{RefusesPattern}
use Rattle.plan_files.specs.PlanFile.{RefusesPlan}
use Rattle.bounded_plan_files.specs.BoundedPlanFile.{RefusesBoundedPlan}
use Rattle.plan_orders.specs.PlanOrder.{RefusesPlanOrder}
use Rattle.fence_files.specs.FenceFile.{RefusesFences}
use Rattle.fence_files.specs.Kinds.{word_of as fence_word}
use Rattle.reports.specs.Reports.{IsAnswer, IsReport}
use Rattle.judging.specs.Files.{Answer, IsRefusedAs, IsRefusedFile, IsRefusedPerm, IsRefusedInverse, IsRefusedPlanPriority}
use Rattle.judging.specs.Files.{IsRefusedInRole, IsFirstRefusal, IsTooLarge}
use Rattle.reports.specs.Promises.{IsPossible, Says}
use Rattle.reports.specs.Clauses.{IsAnswered, IsCutShort}
use Rattle.judging.specs.Told.{AreTold}
use Rattle.workflow_files.specs.Kinds.{word_of as workflow_word}
use Rattle.matrix_files.specs.OrderKinds.{perm_word}
use Rattle.matrix_files.specs.OrderKinds.{order_file_word}
use Rattle.plan_files.specs.Kinds.{word_of as plan_word}
use Rattle.requests.specs.Request.{Ordering, natural, min_degree, perm_named, inverse_named, Request, FileRole, NamedFile, tree_file}
use Rattle.requests.specs.Request.{workflow_file, shared_graph_file, matrix_file, perm_file, inverse_file, order_file, plan_file, priority_file}
use Rattle.requests.specs.Request.{planned_order_file, bounded_plan_file, fence_file, plan_priority_file, files_of, simulate, demo, IsInRange}
use Rattle.judging.specs.declared.status.Status.{Status}
use Rattle.judging.specs.declared.status.Status.TheVariants as status

-- ---- no refused file ends with the status of a report

-- a status that tells of no refused file
pub record IsOfReports (ended : Status) : Type 0 where
  pub not_format : ended ≡ status.Format → ⊥
  pub not_limit : ended ≡ status.Limit → ⊥

module _ (ended : Status) (reports : IsOfReports ended) where
  with_format : (text : List ℕ) (answer : Answer) → answer ≡ record { status = status.Format; text = text } → answer.status ≡ ended → ⊥
  with_format text answer is at = reports.not_format (sym at ∙ ap (λ (a : Answer). a.status) is)

  with_limit : (text : List ℕ) (answer : Answer) → answer ≡ record { status = status.Limit; text = text } → answer.status ≡ ended → ⊥
  with_limit text answer is at = reports.not_limit (sym at ∙ ap (λ (a : Answer). a.status) is)

  refused_as : {K : Type 0} (file : List ℕ) (word : K → List ℕ) (refusal : Refusal K) (answer : Answer)
      → IsRefusedAs file word refusal answer → answer.status ≡ ended → ⊥
  refused_as file word (refusals.Format fault) answer is at = with_format _ answer is at
  refused_as file word (refusals.Limit limit) answer is at = with_limit _ answer is at
  refused_as file word refusals.NoMemory answer is at = is

  refused_file : {K : Type 0} (file : List ℕ) (word : K → List ℕ) (refuses : Refusal K → Type 0) (text : List ℕ) (answer : Answer)
      → IsRefusedFile file word refuses text answer → answer.status ≡ ended → ⊥
  refused_file file word refuses text answer (inl (long, is)) at = with_limit _ answer is at
  refused_file file word refuses text answer (inr (within, (refusal, refused, is))) at = refused_as file word refusal answer is at

  refused_perm : (earlier : List (List ℕ)) (text : List ℕ) (answer : Answer) → IsRefusedPerm earlier text answer → answer.status ≡ ended → ⊥
  refused_perm [] text answer refused at = refused
  refused_perm (matrix ∷ earlier) text answer (rows, is, refused) at =
      refused_file (codes "perm") perm_word (RefusesPerm (length rows) text) text answer refused at

  refused_inverse : (earlier : List (List ℕ)) (text : List ℕ) (answer : Answer)
      → IsRefusedInverse earlier text answer → answer.status ≡ ended → ⊥
  refused_inverse [] text answer refused at = refused
  refused_inverse (matrix ∷ earlier) text answer (rows, is, refused) at =
      refused_file (codes "iperm") perm_word (RefusesInverse (length rows) text) text answer refused at

  refused_plan_priority : (earlier : List (List ℕ)) (text : List ℕ) (answer : Answer)
      → IsRefusedPlanPriority earlier text answer → answer.status ≡ ended → ⊥
  refused_plan_priority [] text answer refused at = refused
  refused_plan_priority (first ∷ earlier) text answer (plan, is, refused) at =
      refused_file (codes "priority") perm_word (RefusesPerm (length plan.order) text) text answer refused at

  too_large : (o : Ordering) (text : List ℕ) (answer : Answer) → IsTooLarge o text answer → answer.status ≡ ended → ⊥
  too_large natural text answer large at = large
  too_large min_degree text answer (rows, is, more, line) at = with_limit _ answer line at
  too_large (perm_named name) text answer large at = large
  too_large (inverse_named name) text answer large at = large

  refused : (role : FileRole) (earlier : List (List ℕ)) (text : List ℕ) (answer : Answer)
      → IsRefusedInRole role earlier text answer → answer.status ≡ ended → ⊥
  refused tree_file earlier text answer r at = refused_file (codes "tree") tree_word (RefusesTree text) text answer r at
  refused workflow_file earlier text answer r at = refused_file (codes "workflow") workflow_word (RefusesWorkflow text) text answer r at
  refused shared_graph_file earlier text answer r at = refused_file (codes "graph") graph_word (RefusesSharedGraph text) text answer r at
  refused (matrix_file o) earlier text answer (inl r) at = refused_file (codes "matrix") matrix_word (RefusesPattern text) text answer r at
  refused (matrix_file o) earlier text answer (inr large) at = too_large o text answer large at
  refused perm_file earlier text answer r at = refused_perm earlier text answer r at
  refused inverse_file earlier text answer r at = refused_inverse earlier text answer r at
  refused order_file earlier text answer r at = refused_file (codes "order") order_file_word (RefusesOrder text) text answer r at
  refused plan_file earlier text answer r at = refused_file (codes "plan") plan_word (RefusesPlan text) text answer r at
  refused planned_order_file earlier text answer r at = refused_file (codes "plan") plan_word (RefusesPlanOrder text) text answer r at
  refused bounded_plan_file earlier text answer r at = refused_file (codes "plan") plan_word (RefusesBoundedPlan text) text answer r at
  refused fence_file earlier text answer r at = refused_file (codes "fences") fence_word (RefusesFences text) text answer r at
  refused (priority_file tasks) earlier text answer (mine, one, system, split, is, r) at =
      refused_file (codes "priority") perm_word (RefusesPerm (length system.tasks) text) text answer r at
  refused plan_priority_file earlier text answer r at = refused_plan_priority earlier text answer r at

  first_refused : (files : List NamedFile) (earlier texts : List (List ℕ)) (answer : Answer)
      → IsFirstRefusal files earlier texts answer → answer.status ≡ ended → ⊥
  first_refused [] earlier texts answer r at = r
  first_refused (file ∷ files) earlier [] answer r at = r
  first_refused (file ∷ files) earlier (text ∷ texts) answer (inl r) at = refused file.role earlier text answer r at
  first_refused (file ∷ files) earlier (text ∷ texts) answer (inr (accepted, r)) at =
      first_refused files (earlier ++ text ∷ []) texts answer r at

  -- so an answer with it is a report
  is_report : (request : Request) (texts : List (List ℕ)) (answer : Answer)
      → IsAnswer request texts answer → answer.status ≡ ended → IsReport request texts answer
  is_report request texts answer (inl refusal) at = absurd (first_refused (files_of request) [] texts answer refusal at)
  is_report request texts answer (inr report) at = report

-- no refusal is done, and none tells of a graph without a term
pub report_when_done : (request : Request) (texts : List (List ℕ)) (answer : Answer)
    → IsAnswer request texts answer → answer.status ≡ status.Done → IsReport request texts answer
report_when_done = is_report status.Done (record { not_format = λ e. cc; not_limit = λ e. cc })

pub report_of_rest : (request : Request) (texts : List (List ℕ)) (answer : Answer)
    → IsAnswer request texts answer → answer.status ≡ status.NotSeriesParallel
    → IsReport request texts answer
report_of_rest = is_report status.NotSeriesParallel (record { not_format = λ e. cc; not_limit = λ e. cc })

-- ---- a page that answers

-- the answer to a request, where the files tell their texts
abbrev pub Answers : (List ℕ → Option (List ℕ)) → Request → Answer → Type 0
Answers told request answer = (texts : List (List ℕ)) → AreTold told (files_of request) texts → IsAnswer request texts answer

pub reported : (told : List ℕ → Option (List ℕ)) (request : Request) (answer : Answer)
    → ((texts : List (List ℕ)) → AreTold told (files_of request) texts → IsReport request texts answer) → Answers told request answer
reported told request answer h texts are = inr (h texts are)

pub was_refused : (told : List ℕ → Option (List ℕ)) (request : Request) (answer : Answer)
    → ((texts : List (List ℕ)) → AreTold told (files_of request) texts → IsFirstRefusal (files_of request) [] texts answer)
    → Answers told request answer
was_refused told request answer h texts are = inl (h texts are)

-- the law on what answers say
abbrev pub WhatAnswersSay : Type 0
WhatAnswersSay =
    (request : Request) (texts : List (List ℕ)) (answer : Answer) → IsPossible request
    → IsAnswer request texts answer → Says request texts answer.status answer.text

possible : (request : Request) → IsInRange request → IsPossible request
possible (simulate tasks source simulation) range = range.0
possible (demo made) range = range
possible request range = tt

module _ (told : List ℕ → Option (List ℕ)) (request : Request) (answer : Answer) (answering : Answers told request answer) where
  pub answers : (ended : Status) (old new : Option (List ℕ)) → ended ≡ answer.status
      → Appended old new answer.text → IsAnswered told request ended old new
  answers ended old new is appended = λ texts are. (answer, answering texts are, (sym is, appended))

  pub is_cut : (old new : Option (List ℕ))
      → ((n : ℕ) × (n < length answer.text) × Appended old new (take n answer.text)) → IsCutShort told request old new
  is_cut old new prefix = λ texts are. (answer, answering texts are, prefix)

  -- what an answer says, the text says that was written with its status, of what was asked
  pub says : WhatAnswersSay → IsInRange request → (asked : Request)
      → request ≡ asked → (texts : List (List ℕ)) → AreTold told (files_of asked) texts
      → (ended : Status) → ended ≡ answer.status → Says asked texts ended answer.text
  says law range asked is texts are ended same =
      let answers_asked = subst (λ (r : Request). Answers told r answer) is answering in
      subst (λ e. Says asked texts e answer.text) (sym same)
      (law asked texts answer (possible asked (subst IsInRange is range)) (answers_asked texts are))
