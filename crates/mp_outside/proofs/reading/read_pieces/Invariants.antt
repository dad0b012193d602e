use Rattle.std.proofs.Common.{◌≡◌, ◌≤◌, ◌+◌, ◌-◌, ℕ, List, length}
use Rattle.limits.specs.Limits.{most_bytes}
use Rattle.mp_outside.proofs.Pieces.{ReadSoFar}
use Rattle.mp_outside.proofs.reading.read_pieces.Given as goal

abbrev pub invariant-loop-count : goal.invariant-loop-count
invariant-loop-count g l = record {
  short : length l.text.items ≤ most_bytes;
  read : ReadSoFar (g.F.Files.bytes_of l.fn.files l.name) l.text.items;
  same : (other : List ℕ) → g.F.Files.bytes_of l.files other ≡ g.F.Files.bytes_of l.fn.files other;
  later : (other : List ℕ) → g.F.Files.faults_of l.fn.files other ≤ g.F.Files.faults_of l.files other;
}

abbrev pub decreases-loop-count : goal.decreases-loop-count
decreases-loop-count g l = most_bytes + 1 - length l.text.items
