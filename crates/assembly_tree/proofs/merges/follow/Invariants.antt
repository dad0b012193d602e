use Rattle.std.proofs.Common.{◌-◌, ℕ, length}
use Rattle.assembly_tree.specs.MergeTables.{AreNames, AreNumbersSoFar}
use Rattle.assembly_tree.proofs.merges.follow.Given as goal

abbrev pub invariant-loop-i : goal.invariant-loop-i
invariant-loop-i l = (name : ℕ → ℕ) → AreNames l.supers name → AreNumbersSoFar l.supers l.numbers name (length l.supers - l.i)
