use Rattle.requests.specs.RequestViews.{matrix_view}
use Rattle.judging.proofs.StepLemmas.{passed}
use Rattle.judging.proofs.InputLemmas.{matrix_tree}
use Rattle.judging.proofs.inputs.judge_matrix.Goals as goal

pub returns-in_err-read-clause-judged : goal.returns-in_err-read-clause-judged
returns-in_err-read-clause-judged g c =
    passed c.from_residual.result _ _ c.in_err-read.field-0.0 c.from_residual.ensures.1 c.in_err-read.ensures.judged

pub returns-clause-judged : goal.returns-clause-judged
returns-clause-judged g c = λ texts are.
    matrix_tree (matrix_view c.args.matrix) texts c.in_ok-read.read c.in_ok-front_tree.field-0 (c.in_ok-read.ensures.judged texts are)
    c.in_ok-front_tree.ensures
