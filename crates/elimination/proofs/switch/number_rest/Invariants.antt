use Rattle.std.proofs.Common.{◌≡◌, ℕ, ◌+◌, ◌<◌, ◌≤◌, length}
use Rattle.elimination.specs.Quotients.{at}
use Rattle.elimination.specs.Switch.{AreNumbers}
use Rattle.elimination.proofs.switch.number_rest.Given as goal

abbrev pub invariant-loop-v : goal.invariant-loop-v
invariant-loop-v l = record {
  len : length l.numbers.items ≡ length l.turns;
  some : 0 < length l.vertices.items;
  few : length l.vertices.items ≤ l.v;
  numbers : (n : ℕ) → l.v ≡ n + 1 → AreNumbers (at l.turns) n l.vertices.items l.numbers.items;
}
