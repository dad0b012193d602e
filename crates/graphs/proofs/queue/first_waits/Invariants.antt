use Rattle.std.proofs.Common.{◌≡◌, ◌+◌, ◌≤◌, ℕ, [], length, take, get_or}
use Rattle.graphs.specs.Queue.{waits_of}
use Rattle.graphs.proofs.queue.first_waits.Given as goal

abbrev pub invariant-loop-arc : goal.invariant-loop-arc
invariant-loop-arc l = record {
  len : length l.waits.items ≡ l.count + 1;
  waits : (v : ℕ) → v ≤ l.count → get_or l.waits.items v 0 ≡ waits_of (take l.arc-index l.arcs) [] v;
}
