use Rattle.std.proofs.Common.{arith}
use Rattle.std.proofs.lemmas.List.Sums.{sum_by_more}
use Rattle.trees.specs.Tree.{node_size}
use Rattle.trees.proofs.JudgedLemmas.{sizes_fit, none}
use Rattle.trees.proofs.judged.total_size.Goals as goal

pub overflow_add-total : goal.overflow_add-total
overflow_add-total c =
    let l = sizes_fit c.args.nodes.now c.requires.sizes c.loop-i.i none c.loop-i-test.true in omega (arith, l.0, l.1)

pub overflow_add-total-in-loop-i : goal.overflow_add-total-in-loop-i
overflow_add-total-in-loop-i c =
    let l = sizes_fit c.args.nodes.now c.requires.sizes c.loop-i.i none c.loop-i-test.true in
    omega (arith, l.0, l.1, c.loop-i.invariant.few, c.loop-i-test.true, c.requires.few)

pub loop-i-preserved : goal.loop-i-preserved
loop-i-preserved c =
    let l = sizes_fit c.args.nodes.now c.requires.sizes c.loop-i.i none c.loop-i-test.true in
    let more = sum_by_more node_size c.args.nodes.now c.loop-i.i none c.loop-i-test.true in record {
      sum = omega (arith, more, c.loop-i.invariant.sum);
      few = omega (arith, l.0, l.1, c.loop-i.invariant.few);
    }
