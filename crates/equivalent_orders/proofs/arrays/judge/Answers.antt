use Rattle.std.proofs.Common.{rules, List, ℕ, length, subst}
use Rattle.permutations.specs.Order.{order_given}
use Rattle.permutations.specs.Perm.{IsPerm}
use Rattle.equivalent_orders.proofs.ColumnArrays.{from_one_same}
use Rattle.equivalent_orders.proofs.arrays.judge.Goals as goal

-- numbers that count from 1 are taken as they are
once : (fronts : List ℕ) → IsPerm (length fronts) (order_given 1 fronts) → IsPerm (length fronts) fronts
once fronts is = subst (IsPerm (length fronts)) (from_one_same fronts) is

pub returns-in_err-judge_counts : goal.returns-in_err-judge_counts
returns-in_err-judge_counts c = let refused = c.in_err-judge_counts.ensures c.args.base in search rules

pub returns-in-Some : goal.returns-in-Some
returns-in-Some c = (
  c.in_ok-judge_counts.ensures,
  c.in_default.ensures,
  once c.args.fronts.now c.in_default-judge_order.ensures,
  c.in-Some.ensures,
)

pub returns-in-None : goal.returns-in-None
returns-in-None c = record {
  counted = c.in_ok-judge_counts.ensures;
  columns_once = c.in_default.ensures;
  fronts_once = once c.args.fronts.now c.in_default-judge_order.ensures;
  fronts_fit = c.in-None.ensures;
}
