use Rattle.std.proofs.Common.{◌≡◌, ◌≤◌, ℕ, length, take, slice_index}
use Rattle.assembly_tree.specs.Fronts.{share_of}
use Rattle.assembly_tree.proofs.front.raise_shares.Given as goal

abbrev pub invariant-loop-supernode : goal.invariant-loop-supernode
invariant-loop-supernode l = (s : ℕ) → s ≤ length l.supers → slice_index l.shares s ≡ share_of l.shape (take l.supernode-index l.supers) s
