use Rattle.std.proofs.Common.{arith}
use Rattle.trees.specs.declared.judged.NodeTest.TheVariants as tests
use Rattle.trees.proofs.JudgedLemmas.{are_within}
use Rattle.trees.proofs.judged.judge.Goals as goal

pub total_size-requires-clause-sizes : goal.total_size-requires-clause-sizes
total_size-requires-clause-sizes c = c.in_ok-judge_nodes.ensures.each tests.Size

pub first_fault-requires : goal.first_fault-requires
first_fault-requires c =
    are_within c.args.nodes.now c.in_ok-judge_nodes.ensures (omega (arith, c.if-total_size-gt-MOST_TOTAL.false, c.total_size.ensures))
