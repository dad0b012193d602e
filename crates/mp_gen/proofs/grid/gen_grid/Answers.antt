use Rattle.std.proofs.Common.{ℕ, ◌*◌, List, ◌++◌, length, ap, sym, subst, ◌∙◌, arith}
use Rattle.std.specs.Prelude.{All, IfOk}
use Rattle.patterns.specs.Pattern.{IsPairWithin, IsPatternOf}
use Rattle.mp_gen.specs.Grid.{joins_in_row}
use Rattle.mp_gen.proofs.GridLemmas.{flat-more, all-joins, grid-few, grid-within}
use Rattle.mp_gen.proofs.grid.gen_grid.Goals as goal

pub loop-row-preserved : goal.loop-row-preserved
loop-row-preserved c =
    let at = joins_in_row c.args.rows c.args.cols in
    c.in_ok-join_row.ensures ∙ ap (λ (z : List (ℕ × ℕ)). z ++ at c.loop-row.row) c.loop-row.invariant ∙ sym (flat-more at c.loop-row.row)

pub from_pairs-requires-clause-few : goal.from_pairs-requires-clause-few
from_pairs-requires-clause-few c =
    let all = all-joins c.args.rows c.args.cols c.loop-row.row _ (omega arith) (omega arith) c.loop-row.invariant in
    omega (arith, ap length all, grid-few c.args.rows c.args.cols c.requires.few)

pub from_pairs-requires-clause-within : goal.from_pairs-requires-clause-within
from_pairs-requires-clause-within c =
    let all = all-joins c.args.rows c.args.cols c.loop-row.row _ (omega arith) (omega arith) c.loop-row.invariant in
    subst (All (IsPairWithin (c.args.rows * c.args.cols))) (sym all) (grid-within c.args.rows c.args.cols)

pub returns : goal.returns
returns c =
    let all = all-joins c.args.rows c.args.cols c.loop-row.row _ (omega arith) (omega arith) c.loop-row.invariant in
    let order = c.args.rows * c.args.cols in
    subst (λ (pairs : List (ℕ × ℕ)). IfOk c.from_pairs.result (λ pattern. IsPatternOf order pairs pattern)) all c.from_pairs.ensures
