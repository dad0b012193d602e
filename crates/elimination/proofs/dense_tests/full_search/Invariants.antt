use Rattle.std.proofs.Common.{◌<◌, ◌≤◌, ℕ, [], IsTrue, length}
use Rattle.patterns.specs.Pattern.{is_joined}
use Rattle.bit_rows.specs.Bits.{bit_in}
use Rattle.elimination.specs.Dense.{IsFilling, stage_of}
use Rattle.elimination.proofs.dense_tests.full_search.Given as goal

abbrev pub invariant-loop-v : goal.invariant-loop-v
invariant-loop-v l = record {
  filling : IsFilling (stage_of (is_joined l.pattern) (length l.pattern) []) l.search;
  passed : (x : ℕ) → 1 ≤ x → x < l.v → IsTrue (bit_in l.search.alive x);
}
