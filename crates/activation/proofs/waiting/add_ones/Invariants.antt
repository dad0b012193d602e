use Rattle.std.proofs.Common.{◌≡◌, ℕ, ◌+◌, take}
use Rattle.std.specs.Prelude.{count_by, ◌==◌}
use Rattle.activation.specs.Schedule.{task_entry}
use Rattle.activation.proofs.waiting.add_ones.Given as goal

abbrev pub invariant-loop-reader : goal.invariant-loop-reader
invariant-loop-reader l = (t : ℕ)
    → task_entry l.counts t ≡ task_entry l.initial.counts t + count_by (λ c. c == t) (take l.reader-index l.readers)
