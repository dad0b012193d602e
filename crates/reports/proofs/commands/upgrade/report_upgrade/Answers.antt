use Rattle.std.proofs.Common.{ℕ, List, [], ◌∷◌, refl, sym, subst, inl}
use Rattle.std.specs.Prelude.{codes}
use Rattle.graph_files.specs.Kinds.{word_of as graph_word}
use Rattle.shared_graph_files.specs.EitherVersion.{RefusesSharedGraph}
use Rattle.workflow_files.specs.Kinds.{word_of as workflow_word}
use Rattle.workflow_files.specs.WorkflowFile.{RefusesWorkflow}
use Rattle.tree_files.specs.Kinds.{word_of as tree_word}
use Rattle.tree_files.specs.TreeFile.{RefusesTree}
use Rattle.judging.specs.Told.{AreTold}
use Rattle.reports.specs.Reports.{IsReport}
use Rattle.judging.specs.Files.{IsRefusedFile, IsFirstRefusal}
use Rattle.judging.specs.Judged.{AreJudged}
use Rattle.judging.specs.Pages.{answer_of}
use Rattle.requests.specs.Request.{NamedFile, tree_file, workflow_file, shared_graph_file, upgrade, tree_upgrade, workflow_upgrade, graph_upgrade, upgrade_files}
use Rattle.requests.specs.RequestViews.{upgrade_view}
use Rattle.reports.specs.Upgrade.{IsUpgradeOf, tree_value, workflow_value, graph_value, plan_value}
use Rattle.requests.specs.declared.commands.upgrade.Upgrade.{Upgrade}
use Rattle.judging.proofs.StepLemmas.{passed, alone_told, alone_stop}
use Rattle.reports.proofs.commands.upgrade.report_upgrade.Goals as goal

pub returns-in_err-tree-in-Tree-clause-told : goal.returns-in_err-tree-in-Tree-clause-told
returns-in_err-tree-in-Tree-clause-told g c =
    let told = g.F.Files.bytes_of c.args.files.now in
    let before = g.F.Files.faults_of c.args.files.now in
    let after = g.F.Files.faults_of c.judge.new.files in
    let e = c.in_err-tree-in-Tree.field-0.0 in
    let file : NamedFile = record { role = tree_file; name = c.in-Tree.name.now } in
    let refuses = λ (text : List ℕ). IsRefusedFile (codes "tree") tree_word (RefusesTree text) text in
    subst (λ (u : Upgrade). AreJudged told before after (upgrade_files (upgrade_view u))
    (λ texts page. IsReport (upgrade (upgrade_view u)) texts (answer_of page))
    (IsFirstRefusal (upgrade_files (upgrade_view u)) []) c.from_residual.result) (sym c.in-Tree.is)
    (passed c.from_residual.result _ _ e c.from_residual.ensures.1
    (alone_stop told before after file refuses (IsFirstRefusal (file ∷ []) [])
    (λ text answer refused. inl refused) e c.in_err-tree-in-Tree.ensures.judged))

pub returns-in_err-terms-in-Workflow-clause-told : goal.returns-in_err-terms-in-Workflow-clause-told
returns-in_err-terms-in-Workflow-clause-told g c =
    let told = g.F.Files.bytes_of c.args.files.now in
    let before = g.F.Files.faults_of c.args.files.now in
    let after = g.F.Files.faults_of c.judge-in-Workflow.new.files in
    let e = c.in_err-terms-in-Workflow.field-0.0 in
    let file : NamedFile = record { role = workflow_file; name = c.in-Workflow.name.now } in
    let refuses = λ (text : List ℕ). IsRefusedFile (codes "workflow") workflow_word (RefusesWorkflow text) text in
    subst (λ (u : Upgrade). AreJudged told before after (upgrade_files (upgrade_view u))
    (λ texts page. IsReport (upgrade (upgrade_view u)) texts (answer_of page))
    (IsFirstRefusal (upgrade_files (upgrade_view u)) []) c.from_residual-in_err-terms-in-Workflow.result) (sym c.in-Workflow.is)
    (passed c.from_residual-in_err-terms-in-Workflow.result _ _ e c.from_residual-in_err-terms-in-Workflow.ensures.1
    (alone_stop told before after file refuses (IsFirstRefusal (file ∷ []) [])
    (λ text answer refused. inl refused) e c.in_err-terms-in-Workflow.ensures.judged))

pub returns-in_err-system-in-Graph-clause-told : goal.returns-in_err-system-in-Graph-clause-told
returns-in_err-system-in-Graph-clause-told g c =
    let told = g.F.Files.bytes_of c.args.files.now in
    let before = g.F.Files.faults_of c.args.files.now in
    let after = g.F.Files.faults_of c.judge-in-Graph.new.files in
    let e = c.in_err-system-in-Graph.field-0.0 in
    let file : NamedFile = record { role = shared_graph_file; name = c.in-Graph.name.now } in
    let refuses = λ (text : List ℕ). IsRefusedFile (codes "graph") graph_word (RefusesSharedGraph text) text in
    subst (λ (u : Upgrade). AreJudged told before after (upgrade_files (upgrade_view u))
    (λ texts page. IsReport (upgrade (upgrade_view u)) texts (answer_of page))
    (IsFirstRefusal (upgrade_files (upgrade_view u)) []) c.from_residual-in_err-system-in-Graph.result) (sym c.in-Graph.is)
    (passed c.from_residual-in_err-system-in-Graph.result _ _ e c.from_residual-in_err-system-in-Graph.ensures.1
    (alone_stop told before after file refuses (IsFirstRefusal (file ∷ []) [])
    (λ text answer refused. inl refused) e c.in_err-system-in-Graph.ensures.judged))

pub returns-in_ok-tree_2_page-in-Tree-clause-told : goal.returns-in_ok-tree_2_page-in-Tree-clause-told
returns-in_ok-tree_2_page-in-Tree-clause-told g c =
    let told = g.F.Files.bytes_of c.args.files.now in
    let file : NamedFile = record { role = tree_file; name = c.in-Tree.name.now } in
    let tree = c.in_ok-tree-in-Tree.tree in
    let answer = answer_of c.in_ok-tree_2_page-in-Tree.field-0 in
    subst (λ (u : Upgrade). (texts : List (List ℕ))
    → AreTold told (upgrade_files (upgrade_view u)) texts → IsUpgradeOf (upgrade_view u) texts answer)
    (sym c.in-Tree.is)
    (alone_told told file (λ texts. IsUpgradeOf (tree_upgrade c.in-Tree.name.now) texts answer)
    (λ text is.
    (tree_value tree, (text, tree, refl, c.in_ok-tree-in-Tree.ensures.judged text is, refl), c.in_ok-tree_2_page-in-Tree.ensures)))

pub returns-in_ok-workflow_2_page-in-Workflow-clause-told : goal.returns-in_ok-workflow_2_page-in-Workflow-clause-told
returns-in_ok-workflow_2_page-in-Workflow-clause-told g c =
    let told = g.F.Files.bytes_of c.args.files.now in
    let file : NamedFile = record { role = workflow_file; name = c.in-Workflow.name.now } in
    let terms = c.in_ok-terms-in-Workflow.terms in
    let answer = answer_of c.in_ok-workflow_2_page-in-Workflow.field-0 in
    subst (λ (u : Upgrade). (texts : List (List ℕ))
    → AreTold told (upgrade_files (upgrade_view u)) texts → IsUpgradeOf (upgrade_view u) texts answer)
    (sym c.in-Workflow.is)
    (alone_told told file (λ texts. IsUpgradeOf (workflow_upgrade c.in-Workflow.name.now) texts answer)
    (λ text is. (
      workflow_value terms,
      (text, terms, refl, c.in_ok-terms-in-Workflow.ensures.judged text is, refl),
      c.in_ok-workflow_2_page-in-Workflow.ensures,
    )))

pub returns-in_ok-graph_2_page-in-Graph-clause-told : goal.returns-in_ok-graph_2_page-in-Graph-clause-told
returns-in_ok-graph_2_page-in-Graph-clause-told g c =
    let told = g.F.Files.bytes_of c.args.files.now in
    let file : NamedFile = record { role = shared_graph_file; name = c.in-Graph.name.now } in
    let system = c.in_ok-system-in-Graph.system in
    let answer = answer_of c.in_ok-graph_2_page-in-Graph.field-0 in
    subst (λ (u : Upgrade). (texts : List (List ℕ))
    → AreTold told (upgrade_files (upgrade_view u)) texts → IsUpgradeOf (upgrade_view u) texts answer)
    (sym c.in-Graph.is)
    (alone_told told file (λ texts. IsUpgradeOf (graph_upgrade c.in-Graph.name.now) texts answer)
    (λ text is. (
      graph_value system,
      (text, system, refl, c.in_ok-system-in-Graph.ensures.judged text is, refl),
      c.in_ok-graph_2_page-in-Graph.ensures,
    )))

pub returns-in_ok-plan_2_page-in-Plan-clause-told : goal.returns-in_ok-plan_2_page-in-Plan-clause-told
returns-in_ok-plan_2_page-in-Plan-clause-told g c =
    let told = g.F.Files.bytes_of c.args.files.now in
    let plan = c.in_ok-plan-in-Plan.plan in
    let answer = answer_of c.in_ok-plan_2_page-in-Plan.field-0 in
    subst (λ (u : Upgrade). (texts : List (List ℕ))
    → AreTold told (upgrade_files (upgrade_view u)) texts → IsUpgradeOf (upgrade_view u) texts answer)
    (sym c.in-Plan.is)
    (λ texts are. (plan_value plan, c.in_ok-plan-in-Plan.ensures.judged texts are, c.in_ok-plan_2_page-in-Plan.ensures))
