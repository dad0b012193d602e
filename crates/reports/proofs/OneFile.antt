-- A file is accepted or refused, never both, and refused with one answer.
use Rattle.std.proofs.Common.{◌≡◌, ◌∙◌, ℕ, List, [], ◌∷◌, ◌++◌, length, sym, ap, subst, inl, inr, arith}
use Rattle.std.specs.Prelude.{codes}
use Rattle.mp_text.specs.declared.refusals.Refusal.{Refusal}
use Rattle.mp_text.specs.declared.refusals.Refusal.TheVariants as refusals
use Rattle.shared_systems.specs.Shared.{SharedTaskSystem}
use Rattle.matrix_files.specs.Kinds.{word_of as matrix_word}
use Rattle.matrix_files.specs.MatrixFile.{ReadsPattern, RefusesPattern}
use Rattle.matrix_files.specs.OrderKinds.{perm_word, order_file_word}
use Rattle.matrix_files.specs.OrderFile.{ReadsOrder, RefusesOrder}
use Rattle.matrix_files.specs.PermFile.{ReadsPerm, RefusesPerm}
use Rattle.matrix_files.specs.InverseFile.{ReadsInverse, RefusesInverse}
use Rattle.plan_files.specs.Kinds.{word_of as plan_word}
use Rattle.plans.specs.Plan.{PlanValue}
use Rattle.plan_files.specs.PlanFile.{ReadsPlan, RefusesPlan}
use Rattle.bounded_plan_files.specs.BoundedPlanFile.{ReadsBoundedPlan, RefusesBoundedPlan}
use Rattle.plan_orders.specs.PlanOrder.{ReadsPlanOrder, RefusesPlanOrder}
use Rattle.fence_files.specs.FenceFile.{ReadsFences, RefusesFences}
use Rattle.fence_files.specs.Kinds.{word_of as fence_word}
use Rattle.workflow_files.specs.Kinds.{word_of as workflow_word}
use Rattle.workflow_files.specs.WorkflowFile.{ReadsWorkflow, RefusesWorkflow}
use Rattle.graph_files.specs.Kinds.{word_of as graph_word}
use Rattle.shared_graph_files.specs.EitherVersion.{ReadsSharedGraph, RefusesSharedGraph}
use Rattle.tree_files.specs.Kinds.{word_of as tree_word}
use Rattle.tree_files.specs.TreeFile.{ReadsTree, RefusesTree}
use Rattle.judging.specs.Files.{Answer, IsMatrixFile, HasOrdering, IsTooLarge, IsWithinBytes, IsRefusedAs}
use Rattle.judging.specs.Files.{IsRefusedFile, HasValue, IsRefusedInRole, IsTaskSystemOf, IsPlanFile}
use Rattle.requests.specs.Request.{Ordering, natural, min_degree, perm_named, inverse_named, TaskSource, FileRole, tree_file, workflow_file}
use Rattle.requests.specs.Request.{shared_graph_file, planned_order_file}
use Rattle.requests.specs.Request.{matrix_file, perm_file, inverse_file, order_file, plan_file, bounded_plan_file, fence_file, priority_file, plan_priority_file}
use Rattle.reports.proofs.OneInput.{TaskSystems, same_task_texts}

-- what is known of a format
pub record IsFormat {K V : Type 0} (reads : List ℕ → V → Type 0) (refuses : List ℕ → Refusal K → Type 0) : Type 0 where
  pub not_both : (bytes : List ℕ) (value : V) (refusal : Refusal K) → reads bytes value → refuses bytes refusal → ⊥
  pub one_refusal : (bytes : List ℕ) (one two : Refusal K) → refuses bytes one → refuses bytes two → one ≡ two

same_line : {K : Type 0} (file : List ℕ) (word : K → List ℕ) (refusal : Refusal K) (one two : Answer)
    → IsRefusedAs file word refusal one → IsRefusedAs file word refusal two → one ≡ two
same_line file word (refusals.Format fault) one two is other = is ∙ sym other
same_line file word (refusals.Limit limit) one two is other = is ∙ sym other
same_line file word refusals.NoMemory one two is other = absurd is

module _ {K V : Type 0} (file : List ℕ) (word : K → List ℕ) (reads : List ℕ → V → Type 0)
    (refuses : List ℕ → Refusal K → Type 0) (f : IsFormat reads refuses) (text : List ℕ) where
  not_refused : (answer : Answer) (value : V) → IsWithinBytes text × reads text value
      → IsRefusedFile file word (refuses text) text answer → ⊥
  not_refused answer value is (inl long) = omega (arith, is.0, long.0)
  not_refused answer value is (inr (within, (refusal, refused, line))) = f.not_both text value refusal is.1 refused

  refused_once : (one two : Answer) → IsRefusedFile file word (refuses text) text one
      → IsRefusedFile file word (refuses text) text two → one ≡ two
  refused_once one two (inl long) (inl other) = long.1 ∙ sym other.1
  refused_once one two (inl long) (inr other) = absurd (omega (arith, long.0, other.0))
  refused_once one two (inr is) (inl long) = absurd (omega (arith, long.0, is.0))
  refused_once one two (inr (within, (r, is, line))) (inr (within', (s, is', line'))) =
      same_line file word r one two line
      (subst (λ (x : Refusal K). IsRefusedAs file word x two) (sym (f.one_refusal text r s is is')) line')

-- of all formats
pub record Formats : Type 0 where
  pub trees : IsFormat ReadsTree RefusesTree
  pub workflows : IsFormat ReadsWorkflow RefusesWorkflow
  pub shared_graphs : IsFormat ReadsSharedGraph RefusesSharedGraph
  pub matrices : IsFormat ReadsPattern RefusesPattern
  pub perms : (n : ℕ) → IsFormat (ReadsPerm n) (RefusesPerm n)
  pub inverses : (n : ℕ) → IsFormat (ReadsInverse n) (RefusesInverse n)
  pub orders : IsFormat ReadsOrder RefusesOrder
  pub plans : IsFormat ReadsPlan RefusesPlan
  pub bounded_plans : IsFormat ReadsBoundedPlan RefusesBoundedPlan
  pub planned_orders : IsFormat ReadsPlanOrder RefusesPlanOrder
  pub fences : IsFormat ReadsFences RefusesFences
  pub patterns : (bytes : List ℕ) (one two : List (List ℕ)) → ReadsPattern bytes one → ReadsPattern bytes two → one ≡ two
  pub one_plan : (bytes : List ℕ) (one two : PlanValue) → ReadsPlan bytes one → ReadsPlan bytes two → one ≡ two
  pub systems : TaskSystems

module _ (f : Formats) where
  -- the texts before a priority file give as many tasks
  same_tasks : (tasks : TaskSource) (mine mine' : List (List ℕ)) (one one' : List ℕ) (s t : SharedTaskSystem)
      → mine ++ one ∷ [] ≡ mine' ++ one' ∷ [] → IsTaskSystemOf tasks mine s → IsTaskSystemOf tasks mine' t
      → length s.tasks ≡ length t.tasks
  same_tasks tasks mine mine' one one' s t split is is' =
      ap (λ (x : SharedTaskSystem). length x.tasks) (same_task_texts f.systems tasks mine mine' one one' [] [] s t split is is').3

  abbrev perm_refused : List ℕ → ℕ → List ℕ → Answer → Type 0
  perm_refused file n text answer = IsRefusedFile file perm_word (RefusesPerm n text) text answer

  abbrev inverse_refused : ℕ → List ℕ → Answer → Type 0
  inverse_refused n text answer = IsRefusedFile (codes "iperm") perm_word (RefusesInverse n text) text answer

  -- and a plan file before it as many tasks of its order
  same_ranks : (text : List ℕ) (a b : PlanValue) → IsPlanFile text a → IsPlanFile text b → length a.order ≡ length b.order
  same_ranks text a b is is' = ap (λ (p : PlanValue). length p.order) (f.one_plan text a b is.1 is'.1)

  not_too_large : (o : Ordering) (text : List ℕ) (answer : Answer) (rows : List (List ℕ))
      → IsMatrixFile text rows → HasOrdering o (length rows) → IsTooLarge o text answer → ⊥
  not_too_large natural text answer rows is fits large = large
  not_too_large min_degree text answer rows is fits (other, is_other, more, line) =
      omega (arith, ap length (f.patterns text rows other is.1 is_other.1), fits, more)
  not_too_large (perm_named name) text answer rows is fits large = large
  not_too_large (inverse_named name) text answer rows is fits large = large

  -- a matrix that is too large is one that is read
  read_before : (o : Ordering) (text : List ℕ) (one two : Answer)
      → IsRefusedFile (codes "matrix") matrix_word (RefusesPattern text) text one → IsTooLarge o text two → ⊥
  read_before natural text one two refused large = large
  read_before min_degree text one two refused (rows, is, more, line) =
      not_refused (codes "matrix") matrix_word ReadsPattern RefusesPattern f.matrices text one rows is refused
  read_before (perm_named name) text one two refused large = large
  read_before (inverse_named name) text one two refused large = large

  large_once : (o : Ordering) (text : List ℕ) (one two : Answer) → IsTooLarge o text one → IsTooLarge o text two → one ≡ two
  large_once natural text one two large other = absurd large
  large_once min_degree text one two (rows, is, more, line) (rows', is', more', line') = line ∙ sym line'
  large_once (perm_named name) text one two large other = absurd large
  large_once (inverse_named name) text one two large other = absurd large

  pub not_both : (role : FileRole) (earlier : List (List ℕ)) (text : List ℕ) (answer : Answer)
      → HasValue role earlier text → IsRefusedInRole role earlier text answer → ⊥
  not_both tree_file earlier text answer (nodes, is) refused =
      not_refused (codes "tree") tree_word ReadsTree RefusesTree f.trees text answer nodes is refused
  not_both workflow_file earlier text answer (positions, is) refused =
      not_refused (codes "workflow") workflow_word ReadsWorkflow RefusesWorkflow f.workflows text answer positions is refused
  not_both shared_graph_file earlier text answer (system, is) refused =
      not_refused (codes "graph") graph_word ReadsSharedGraph RefusesSharedGraph f.shared_graphs text answer system is refused
  not_both (matrix_file o) earlier text answer (rows, is, fits) (inl refused) =
      not_refused (codes "matrix") matrix_word ReadsPattern RefusesPattern f.matrices text answer rows is refused
  not_both (matrix_file o) earlier text answer (rows, is, fits) (inr large) = not_too_large o text answer rows is fits large
  not_both perm_file [] text answer is refused = absurd is
  not_both perm_file (matrix ∷ earlier) text answer (rows, order, matrix_is, is) (rows', matrix_is', refused) =
      not_refused (codes "perm") perm_word (ReadsPerm (length rows))
      (RefusesPerm (length rows)) (f.perms (length rows)) text answer order is
      (subst (λ (n : ℕ). perm_refused (codes "perm") n text answer)
      (ap length (f.patterns matrix rows' rows matrix_is'.1 matrix_is.1)) refused)
  not_both inverse_file [] text answer is refused = absurd is
  not_both inverse_file (matrix ∷ earlier) text answer (rows, order, matrix_is, is) (rows', matrix_is', refused) =
      not_refused (codes "iperm") perm_word (ReadsInverse (length rows))
      (RefusesInverse (length rows)) (f.inverses (length rows)) text answer order is
      (subst (λ (n : ℕ). inverse_refused n text answer) (ap length (f.patterns matrix rows' rows matrix_is'.1 matrix_is.1)) refused)
  not_both order_file earlier text answer (numbers, is) refused =
      not_refused (codes "order") order_file_word ReadsOrder RefusesOrder f.orders text answer numbers is refused
  not_both plan_file earlier text answer (plan, is) refused =
      not_refused (codes "plan") plan_word ReadsPlan RefusesPlan f.plans text answer plan is refused
  not_both planned_order_file earlier text answer (plan, is) refused =
      not_refused (codes "plan") plan_word ReadsPlanOrder RefusesPlanOrder f.planned_orders text answer plan is refused
  not_both bounded_plan_file earlier text answer (plan, is) refused =
      not_refused (codes "plan") plan_word ReadsBoundedPlan RefusesBoundedPlan f.bounded_plans text answer plan is refused
  not_both fence_file earlier text answer (certificate, is) refused =
      not_refused (codes "fences") fence_word ReadsFences RefusesFences f.fences text answer certificate is refused
  not_both (priority_file tasks) earlier text answer
      (mine, one, s, order, split, is_system, is) (mine', one', t, split', is_system', refused) =
      let n = length s.tasks in
      not_refused (codes "priority") perm_word (ReadsPerm n) (RefusesPerm n) (f.perms n) text answer order is
      (subst (λ (k : ℕ). perm_refused (codes "priority") k text answer)
      (same_tasks tasks mine' mine one' one t s (sym split' ∙ split) is_system' is_system) refused)
  not_both plan_priority_file [] text answer is refused = absurd is
  not_both plan_priority_file (first ∷ earlier) text answer (plan, order, is_plan, is) (plan', is_plan', refused) =
      let n = length plan.order in
      not_refused (codes "priority") perm_word (ReadsPerm n) (RefusesPerm n) (f.perms n) text answer order is
      (subst (λ (k : ℕ). perm_refused (codes "priority") k text answer) (same_ranks first plan' plan is_plan' is_plan) refused)

  pub one_refusal : (role : FileRole) (earlier : List (List ℕ)) (text : List ℕ) (one two : Answer)
      → IsRefusedInRole role earlier text one → IsRefusedInRole role earlier text two → one ≡ two
  one_refusal tree_file earlier text one two is other =
      refused_once (codes "tree") tree_word ReadsTree RefusesTree f.trees text one two is other
  one_refusal workflow_file earlier text one two is other =
      refused_once (codes "workflow") workflow_word ReadsWorkflow RefusesWorkflow f.workflows text one two is other
  one_refusal shared_graph_file earlier text one two is other =
      refused_once (codes "graph") graph_word ReadsSharedGraph RefusesSharedGraph f.shared_graphs text one two is other
  one_refusal (matrix_file o) earlier text one two (inl is) (inl other) =
      refused_once (codes "matrix") matrix_word ReadsPattern RefusesPattern f.matrices text one two is other
  one_refusal (matrix_file o) earlier text one two (inl is) (inr large) = absurd (read_before o text one two is large)
  one_refusal (matrix_file o) earlier text one two (inr large) (inl is) = absurd (read_before o text two one is large)
  one_refusal (matrix_file o) earlier text one two (inr large) (inr other) = large_once o text one two large other
  one_refusal perm_file [] text one two is other = absurd is
  one_refusal perm_file (matrix ∷ earlier) text one two (rows, matrix_is, is) (rows', matrix_is', other) =
      refused_once (codes "perm") perm_word (ReadsPerm (length rows)) (RefusesPerm (length rows)) (f.perms (length rows)) text one two is
      (subst (λ (n : ℕ). perm_refused (codes "perm") n text two) (ap length (f.patterns matrix rows' rows matrix_is'.1 matrix_is.1)) other)
  one_refusal inverse_file [] text one two is other = absurd is
  one_refusal inverse_file (matrix ∷ earlier) text one two (rows, matrix_is, is) (rows', matrix_is', other) =
      refused_once (codes "iperm") perm_word (ReadsInverse (length rows))
      (RefusesInverse (length rows)) (f.inverses (length rows)) text one two is
      (subst (λ (n : ℕ). inverse_refused n text two) (ap length (f.patterns matrix rows' rows matrix_is'.1 matrix_is.1)) other)
  one_refusal order_file earlier text one two is other =
      refused_once (codes "order") order_file_word ReadsOrder RefusesOrder f.orders text one two is other
  one_refusal plan_file earlier text one two is other =
      refused_once (codes "plan") plan_word ReadsPlan RefusesPlan f.plans text one two is other
  one_refusal planned_order_file earlier text one two is other =
      refused_once (codes "plan") plan_word ReadsPlanOrder RefusesPlanOrder f.planned_orders text one two is other
  one_refusal bounded_plan_file earlier text one two is other =
      refused_once (codes "plan") plan_word ReadsBoundedPlan RefusesBoundedPlan f.bounded_plans text one two is other
  one_refusal fence_file earlier text one two is other =
      refused_once (codes "fences") fence_word ReadsFences RefusesFences f.fences text one two is other
  one_refusal (priority_file tasks) earlier text one two
      (mine, first, s, split, is_system, is) (mine', first', t, split', is_system', other) =
      let n = length s.tasks in
      refused_once (codes "priority") perm_word (ReadsPerm n) (RefusesPerm n) (f.perms n) text one two is
      (subst (λ (k : ℕ). perm_refused (codes "priority") k text two)
      (same_tasks tasks mine' mine first' first t s (sym split' ∙ split) is_system' is_system) other)
  one_refusal plan_priority_file [] text one two is other = absurd is
  one_refusal plan_priority_file (first ∷ earlier) text one two (plan, is_plan, is) (plan', is_plan', other) =
      let n = length plan.order in
      refused_once (codes "priority") perm_word (ReadsPerm n) (RefusesPerm n) (f.perms n) text one two is
      (subst (λ (k : ℕ). perm_refused (codes "priority") k text two) (same_ranks first plan' plan is_plan' is_plan) other)
