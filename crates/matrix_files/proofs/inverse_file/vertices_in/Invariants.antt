use Rattle.std.proofs.Common.{◌≡◌, ◌∷◌, take}
use Rattle.matrix_files.proofs.inverse_file.vertices_in.Given as goal

abbrev pub invariant-loop-k : goal.invariant-loop-k
invariant-loop-k l = l.vertices.items ≡ 0 ∷ take l.k l.order
