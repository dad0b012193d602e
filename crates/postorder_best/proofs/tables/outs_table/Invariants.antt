use Rattle.std.proofs.Common.{◌≡◌, ◌∷◌, map, take}
use Rattle.postorder_best.proofs.TableLemmas.{out_of}
use Rattle.postorder_best.proofs.tables.outs_table.Given as goal

abbrev pub invariant-loop-node : goal.invariant-loop-node
invariant-loop-node l = l.outs.items ≡ 0 ∷ map out_of (take l.node-index l.nodes)
