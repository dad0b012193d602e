use Rattle.std.proofs.Common.{◌≡◌, length, vec_len}
use Rattle.trees.proofs.ShareLemmas.{AreOuts}
use Rattle.trees.proofs.shares.children_outs.Given as goal

abbrev pub invariant-loop-node : goal.invariant-loop-node
invariant-loop-node l = record { len : vec_len l.outs ≡ length l.nodes; sums : AreOuts l.outs.items l.nodes l.node-index }
