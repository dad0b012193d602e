use Rattle.std.proofs.Common.{◌≡◌, ◌∷◌, map}
use Rattle.std.specs.List.{range_with_len}
use Rattle.permutations.specs.Perm.{place_of}
use Rattle.matrix_files.proofs.inverse_file.places_in.Given as goal

abbrev pub invariant-loop-v : goal.invariant-loop-v
invariant-loop-v l = l.places.items ≡ 0 ∷ map (place_of l.order) (range_with_len 1 l.v)
