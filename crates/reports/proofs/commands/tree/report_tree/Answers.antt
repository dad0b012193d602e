use Rattle.judging.proofs.StepLemmas.{passed}
use Rattle.reports.proofs.commands.tree.report_tree.Goals as goal

pub returns-in_err-tree-clause-told : goal.returns-in_err-tree-clause-told
returns-in_err-tree-clause-told g c =
    passed c.from_residual.result _ _ c.in_err-tree.field-0.0 c.from_residual.ensures.1 c.in_err-tree.ensures.judged

pub returns-clause-told : goal.returns-clause-told
returns-clause-told g c = λ texts are. (c.in_ok-tree.tree, c.in_ok-tree.ensures.judged texts are, c.in_ok-tree_page.ensures)
