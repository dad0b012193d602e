use Rattle.std.proofs.Common.{◌≡◌, ℕ, ◌+◌, ◌<◌, length, get_or}
use Rattle.assembly_tree.specs.Supernodes.{last_of}
use Rattle.rounds_run.proofs.running.first_columns.Given as goal

abbrev pub invariant-loop-supernode : goal.invariant-loop-supernode
invariant-loop-supernode l = record {
  long : length l.firsts.items ≡ l.supernode-index;
  next : l.first ≡ last_of l.supers l.supernode-index + 1;
  each : (i : ℕ) → i < l.supernode-index → get_or l.firsts.items i 0 ≡ last_of l.supers i + 1;
}
