use Rattle.std.proofs.Common.{◌≡◌, ℕ, ◌+◌, ◌<◌, length, take, cond}
use Rattle.std.specs.Prelude.{slice_index, count_by, ◌==◌}
use Rattle.std.specs.List.{sum_by}
use Rattle.activation.proofs.readings.take_readers.Given as goal

abbrev pub invariant-loop-item : goal.invariant-loop-item
invariant-loop-item l = record {
  left : (j : ℕ) → j < length l.initial.left
      → slice_index l.left j + count_by (λ i. i == j) (take l.item-index l.row) ≡ slice_index l.initial.left j;
  freed : l.freed ≡ sum_by (λ j. cond (slice_index l.initial.left j == 1) (slice_index l.sizes j) 0) (take l.item-index l.row);
}
