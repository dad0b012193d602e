use Rattle.std.proofs.Common.{◌≡◌, ◌<◌, ℕ}
use Rattle.permutations.specs.Perm.{place_of}
use Rattle.elim_tree.proofs.tree.is_in_turn.Given as goal

abbrev pub invariant-loop-v : goal.invariant-loop-v
invariant-loop-v l = (w : ℕ) → w < l.v → place_of l.perm w ≡ w
