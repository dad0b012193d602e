use Rattle.std.proofs.Common.{◌≡◌, ◌∷◌, map, take}
use Rattle.postorder_best.proofs.TableLemmas.{need_of}
use Rattle.postorder_best.proofs.tables.needs_table.Given as goal

abbrev pub invariant-loop-node : goal.invariant-loop-node
invariant-loop-node l = l.needs.items ≡ 0 ∷ map need_of (take l.node-index l.nodes)
