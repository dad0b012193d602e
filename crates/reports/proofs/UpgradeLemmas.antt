-- What is upgraded is one value, and a file of its text in version 2 says it.
use Rattle.std.proofs.Common.{◌≡◌, ◌∙◌, ◌≤◌, ℕ, List, [], ◌∷◌, ◌++◌, Option, Some, None, length, refl, sym, ap, subst, inl, inr}
use Rattle.limits.specs.Limits.{most_bytes}
use Rattle.permutations.specs.Perm.{IsPerm}
use Rattle.matrix_files.specs.PermFile.{ReadsPerm}
use Rattle.plans.specs.Plan.{PlanValue, IsPlan, IsPriority}
use Rattle.plan_files.specs.PlanFile.{ReadsPlan}
use Rattle.plan_files.specs.Printed.{plan_text_2}
use Rattle.shared_systems.specs.Shared.{SharedTaskSystem}
use Rattle.shared_systems.specs.Bounds.{IsSharedSystem}
use Rattle.shared_graph_files.specs.EitherVersion.{ReadsSharedGraph}
use Rattle.shared_graph_files.specs.SharedGraphText.{graph_text_2}
use Rattle.sp_terms.specs.declared.position.Position.{Position}
use Rattle.sp_terms.specs.Values.{IsTerms}
use Rattle.workflow_files.specs.WorkflowFile.{ReadsWorkflow}
use Rattle.workflow_files.specs.WorkflowText.{workflow_text_2}
use Rattle.trees.specs.declared.node.Node.{Node}
use Rattle.trees.specs.Tree.{IsTree}
use Rattle.tree_files.specs.TreeFile.{ReadsTree}
use Rattle.tree_files.specs.TreeText.{tree_text_2}
use Rattle.judging.specs.Files.{Answer, IsTreeFile, IsWorkflowFile, IsSharedGraphFile, IsPlanFile, IsFirstRefusal, AreAccepted}
use Rattle.judging.specs.Told.{AreTold}
use Rattle.judging.specs.Judged.{IsPriorityOf, IsRefusedRanking}
use Rattle.requests.specs.Request.{Upgrade, tree_upgrade, workflow_upgrade, graph_upgrade, plan_upgrade, NamedFile}
use Rattle.requests.specs.Request.{plan_file, plan_priority_file, priority_files, upgrade_files}
use Rattle.reports.specs.Upgrade.{Versioned, tree_value, workflow_value, graph_value, plan_value, text_2, IsFileOf, with_priority}
use Rattle.reports.specs.Upgrade.{IsUpgradedFrom, upgrade_answer, IsUpgradeOf, IsUpgraded, upgrade_again}
use Rattle.judging.specs.declared.inputs.Priority.{Priority}
use Rattle.judging.specs.declared.inputs.Priority.TheVariants as priorities
use Rattle.judging.specs.declared.status.Status.TheVariants.{Done}
use Rattle.judging.proofs.StepLemmas.{alone_told, over_both}

-- what is known of a kind of files: how it is read, what its values keep, and its texts in version 2
pub record IsKind {V : Type 0} (reads : List ℕ → V → Type 0) (keeps : V → Type 0) (text : V → List ℕ) : Type 0 where
  pub one : (bytes : List ℕ) (a b : V) → reads bytes a → reads bytes b → a ≡ b
  pub kept : (bytes : List ℕ) (v : V) → reads bytes v → keeps v
  pub printed : (v : V) → keeps v → reads (text v) v
  pub short : (v : V) → keeps v → length (text v) ≤ most_bytes

pub record Kinds : Type 0 where
  pub trees : IsKind ReadsTree IsTree tree_text_2
  pub workflows : IsKind ReadsWorkflow IsTerms workflow_text_2
  pub graphs : IsKind ReadsSharedGraph IsSharedSystem graph_text_2
  pub plans : IsKind ReadsPlan IsPlan plan_text_2
  pub perms : (n : ℕ) (bytes a b : List ℕ) → ReadsPerm n bytes a → ReadsPerm n bytes b → a ≡ b
  pub perm : (n : ℕ) (bytes a : List ℕ) → ReadsPerm n bytes a → IsPerm n a

pub ranked : (n : ℕ) (priority : List ℕ) → IsPerm n priority → IsPriority n priority
ranked n priority perm = inr perm

-- a plan stays one with a priority that ranks each of its tasks
ranked_plan : (plan : PlanValue) (priority : List ℕ) → IsPlan plan
    → IsPerm (length plan.order) priority → IsPlan (with_priority plan priority)
ranked_plan plan priority is perm = record {
  few_tasks = is.few_tasks;
  tasks = is.tasks;
  peak = is.peak;
  few_claims = is.few_claims;
  claims = is.claims;
  rising = is.rising;
  priority = ranked (length plan.order) priority perm;
}

module _ (k : Kinds) where
  pub one_upgrade : (u : Upgrade) (texts : List (List ℕ)) (a b : Versioned) → IsUpgradedFrom u texts a → IsUpgradedFrom u texts b → a ≡ b
  one_upgrade (tree_upgrade name) texts a b (t, x, e, is, v) (t', x', e', is', v') =
      let both : t ∷ [] ≡ t' ∷ [] = sym e ∙ e' in
      let same : t ≡ t' = cc in
      v ∙ ap tree_value (k.trees.one t x x' is.1 (subst (λ (s : List ℕ). ReadsTree s x') (sym same) is'.1)) ∙ sym v'
  one_upgrade (workflow_upgrade name) texts a b (t, x, e, is, v) (t', x', e', is', v') =
      let both : t ∷ [] ≡ t' ∷ [] = sym e ∙ e' in
      let same : t ≡ t' = cc in
      v ∙ ap workflow_value (k.workflows.one t x x' is.1 (subst (λ (s : List ℕ). ReadsWorkflow s x') (sym same) is'.1)) ∙ sym v'
  one_upgrade (graph_upgrade name) texts a b (t, x, e, is, v) (t', x', e', is', v') =
      let both : t ∷ [] ≡ t' ∷ [] = sym e ∙ e' in
      let same : t ≡ t' = cc in
      v ∙ ap graph_value (k.graphs.one t x x' is.1 (subst (λ (s : List ℕ). ReadsSharedGraph s x') (sym same) is'.1)) ∙ sym v'
  one_upgrade (plan_upgrade name None) texts a b (t, x, e, is, v) (t', x', e', is', v') =
      let both : t ∷ [] ≡ t' ∷ [] = sym e ∙ e' in
      let same : t ≡ t' = cc in
      v ∙ ap plan_value (k.plans.one t x x' is.1 (subst (λ (s : List ℕ). ReadsPlan s x') (sym same) is'.1)) ∙ sym v'
  one_upgrade (plan_upgrade name (Some given)) texts a b (t, s, x, q, e, is, ranks, v) (t', s', x', q', e', is', ranks', v') =
      let both : t ∷ s ∷ [] ≡ t' ∷ s' ∷ [] = sym e ∙ e' in
      let first : t ≡ t' = cc in
      let second : s ≡ s' = cc in
      let plans : x ≡ x' = k.plans.one t x x' is.1 (subst (λ (r : List ℕ). ReadsPlan r x') (sym first) is'.1) in
      let moved : ReadsPerm (length x.order) s q' = coe 1 0 (i. ReadsPerm (length (plans i).order) (second i) q') ranks'.1 in
      let priorities : q ≡ q' = k.perms (length x.order) s q q' ranks.1 moved in
      v ∙ (λ i. plan_value (with_priority (plans i) (priorities i))) ∙ sym v'

  written_tree : (x : List Node) → IsTree x → IsTreeFile (tree_text_2 x) x
  written_tree x is = (k.trees.short x is, k.trees.printed x is)

  written_workflow : (x : List Position) → IsTerms x → IsWorkflowFile (workflow_text_2 x) x
  written_workflow x is = (k.workflows.short x is, k.workflows.printed x is)

  written_graph : (x : SharedTaskSystem) → IsSharedSystem x → IsSharedGraphFile (graph_text_2 x) x
  written_graph x is = (k.graphs.short x is, k.graphs.printed x is)

  written_plan : (x : PlanValue) → IsPlan x → IsPlanFile (plan_text_2 x) x
  written_plan x is = (k.plans.short x is, k.plans.printed x is)

  says_it : (value own : Versioned) → value ≡ own → IsFileOf (text_2 own) own → IsFileOf (text_2 value) value
  says_it value own same is = subst (λ (v : Versioned). IsFileOf (text_2 v) v) (sym same) is

  pub upgraded_file : (u : Upgrade) (texts : List (List ℕ)) (value : Versioned)
      → IsUpgradedFrom u texts value → IsFileOf (text_2 value) value
  upgraded_file (tree_upgrade name) texts value (t, x, e, is, v) = says_it value (tree_value x) v (written_tree x (k.trees.kept t x is.1))
  upgraded_file (workflow_upgrade name) texts value (t, x, e, is, v) =
      says_it value (workflow_value x) v (written_workflow x (k.workflows.kept t x is.1))
  upgraded_file (graph_upgrade name) texts value (t, x, e, is, v) =
      says_it value (graph_value x) v (written_graph x (k.graphs.kept t x is.1))
  upgraded_file (plan_upgrade name None) texts value (t, x, e, is, v) =
      says_it value (plan_value x) v (written_plan x (k.plans.kept t x is.1))
  upgraded_file (plan_upgrade name (Some given)) texts value (t, s, x, q, e, is, ranks, v) =
      let ranked = with_priority x q in
      says_it value (plan_value ranked) v
      (written_plan ranked (ranked_plan x q (k.plans.kept t x is.1) (k.perm (length x.order) s q ranks.1)))

-- ---- files that have values

pub upgrade_accepted : (u : Upgrade) (texts : List (List ℕ)) (value : Versioned)
    → IsUpgradedFrom u texts value → AreAccepted (upgrade_files u) [] texts
upgrade_accepted (tree_upgrade name) texts value (t, x, e, is, v) =
    subst (AreAccepted (upgrade_files (tree_upgrade name)) []) (sym e) ((x, is), tt)
upgrade_accepted (workflow_upgrade name) texts value (t, x, e, is, v) =
    subst (AreAccepted (upgrade_files (workflow_upgrade name)) []) (sym e) ((x, is), tt)
upgrade_accepted (graph_upgrade name) texts value (t, x, e, is, v) =
    subst (AreAccepted (upgrade_files (graph_upgrade name)) []) (sym e) ((x, is), tt)
upgrade_accepted (plan_upgrade name None) texts value (t, x, e, is, v) =
    subst (AreAccepted (upgrade_files (plan_upgrade name None)) []) (sym e) ((x, is), tt)
upgrade_accepted (plan_upgrade name (Some given)) texts value (t, s, x, q, e, is, ranks, v) =
    subst (AreAccepted (upgrade_files (plan_upgrade name (Some given))) []) (sym e) ((x, is), ((x, q, is, ranks), tt))

-- ---- a plan, and a priority after it

abbrev pub plan_at : List ℕ → NamedFile
plan_at name = record { role = plan_file; name = name }

-- what a priority makes of a plan
abbrev pub plan_beside : PlanValue → Priority → PlanValue
plan_beside plan priorities.Own = plan
plan_beside plan (priorities.Given numbers) = with_priority plan numbers.items

module _ (told : List ℕ → Option (List ℕ)) (name : List ℕ) (plan : PlanValue)
    (is_plan : (text : List ℕ) → told name ≡ Some text → IsPlanFile text plan) where
  pub plan_accepted : (texts : List (List ℕ)) → AreTold told (plan_at name ∷ []) texts → AreAccepted (plan_at name ∷ []) [] texts
  plan_accepted = alone_told told (plan_at name) (AreAccepted (plan_at name ∷ []) []) (λ text is. ((plan, is_plan text is), tt))

  refused_after_plan : (given : Option (List ℕ)) (text : List ℕ) (two : List (List ℕ)) (answer : Answer) → IsPlanFile text plan
      → AreTold told (priority_files plan_priority_file given) two → IsRefusedRanking (length plan.order) two answer
      → IsFirstRefusal (priority_files plan_priority_file given) (text ∷ []) two answer
  refused_after_plan None text [] answer is are refused = absurd refused
  refused_after_plan None text (t ∷ two) answer is are refused = absurd are
  refused_after_plan (Some given) text [] answer is are refused = absurd refused
  refused_after_plan (Some given) text (t ∷ two) answer is are refused = inl (plan, is, refused)

  pub plan_ranks_refused : (given : Option (List ℕ)) (one two : List (List ℕ)) (answer : Answer) → AreTold told (plan_at name ∷ []) one
      → AreTold told (priority_files plan_priority_file given) two → IsRefusedRanking (length plan.order) two answer
      → IsFirstRefusal (priority_files plan_priority_file given) one two answer
  plan_ranks_refused given one two answer are more refused =
      alone_told told (plan_at name) (λ texts. IsFirstRefusal (priority_files plan_priority_file given) texts two answer)
      (λ text is. refused_after_plan given text two answer (is_plan text is) more refused) one are

  beside : (given : Option (List ℕ)) (text : List ℕ) (two : List (List ℕ)) (priority : Priority) → IsPlanFile text plan
      → IsPriorityOf given (length plan.order) two priority
      → IsUpgradedFrom (plan_upgrade name given) (text ∷ two) (plan_value (plan_beside plan priority))
  beside None text [] priorities.Own is ranks = (text, plan, refl, is, refl)
  beside None text [] (priorities.Given numbers) is ranks = absurd ranks
  beside None text (t ∷ two) priority is ranks = absurd ranks
  beside (Some given) text [] priority is ranks = absurd ranks
  beside (Some given) text (file ∷ []) priorities.Own is ranks = absurd ranks
  beside (Some given) text (file ∷ []) (priorities.Given numbers) is ranks = (text, file, plan, numbers.items, refl, is, ranks, refl)
  beside (Some given) text (file ∷ more ∷ two) priority is ranks = absurd ranks

  pub upgraded_plan : (given : Option (List ℕ)) (priority : Priority)
      → ((texts : List (List ℕ)) → AreTold told (priority_files plan_priority_file given) texts
      → IsPriorityOf given (length plan.order) texts priority)
      → (texts : List (List ℕ)) → AreTold told (upgrade_files (plan_upgrade name given)) texts
      → IsUpgradedFrom (plan_upgrade name given) texts (plan_value (plan_beside plan priority))
  upgraded_plan given priority is_priority =
      let says = λ (texts : List (List ℕ)). IsUpgradedFrom (plan_upgrade name given) texts (plan_value (plan_beside plan priority)) in
      over_both told (plan_at name ∷ []) (priority_files plan_priority_file given) says
      (λ one two are more. alone_told told (plan_at name) (λ ts. says (ts ++ two))
      (λ text is. beside given text two priority (is_plan text is) (is_priority two more)) one are)

-- ---- answers

pub one_upgrade_answer :
    ((u : Upgrade) (texts : List (List ℕ)) (a b : Versioned) → IsUpgradedFrom u texts a → IsUpgradedFrom u texts b → a ≡ b)
    → (u : Upgrade) (texts : List (List ℕ)) (a b : Answer) → IsUpgradeOf u texts a → IsUpgradeOf u texts b → a ≡ b
one_upgrade_answer one u texts a b (x, is, e) (y, is', e') = e ∙ ap upgrade_answer (one u texts x y is is') ∙ sym e'

pub upgraded : ((u : Upgrade) (texts : List (List ℕ)) (value : Versioned) → IsUpgradedFrom u texts value → IsFileOf (text_2 value) value)
    → (u : Upgrade) (texts : List (List ℕ)) (answer : Answer) → IsUpgradeOf u texts answer → IsUpgraded u texts answer.text
upgraded file u texts answer (value, is, e) =
    let text : answer.text ≡ text_2 value = ap (λ (a : Answer). a.text) e in
    record {
      value = value;
      upgraded = is;
      printed_is = text;
      is_file = subst (λ (t : List ℕ). IsFileOf t value) (sym text) (file u texts value is);
    }

-- ---- the file that was printed, upgraded again

says : (printed : List ℕ) (value own : Versioned) → value ≡ own → IsFileOf printed value → IsFileOf printed own
says printed value own same is = subst (IsFileOf printed) same is

from_printed : (u : Upgrade) (texts : List (List ℕ)) (name printed : List ℕ) (value : Versioned)
    → IsUpgradedFrom u texts value → IsFileOf printed value
    → IsUpgradedFrom (upgrade_again u name) (printed ∷ []) value
from_printed (tree_upgrade own) texts name printed value (t, x, e, is, v) file =
    (printed, x, refl, says printed value (tree_value x) v file, v)
from_printed (workflow_upgrade own) texts name printed value (t, x, e, is, v) file =
    (printed, x, refl, says printed value (workflow_value x) v file, v)
from_printed (graph_upgrade own) texts name printed value (t, x, e, is, v) file =
    (printed, x, refl, says printed value (graph_value x) v file, v)
from_printed (plan_upgrade own None) texts name printed value (t, x, e, is, v) file =
    (printed, x, refl, says printed value (plan_value x) v file, v)
from_printed (plan_upgrade own (Some given)) texts name printed value (t, s, x, q, e, is, ranks, v) file =
    let ranked = with_priority x q in (printed, ranked, refl, says printed value (plan_value ranked) v file, v)

pub printed_again : (u : Upgrade) (texts : List (List ℕ)) (name : List ℕ) (answer : Answer)
    → answer.status ≡ Done → IsUpgraded u texts answer.text
    → IsUpgradeOf (upgrade_again u name) (answer.text ∷ []) answer
printed_again u texts name answer done is =
    let whole : answer ≡ upgrade_answer is.value = λ i. record { status = done i; text = is.printed_is i } in
    (is.value, from_printed u texts name answer.text is.value is.upgraded is.is_file, whole)
