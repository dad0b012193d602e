use Rattle.std.proofs.Common.{◌≡◌, ◌+◌, false}
use Rattle.std.specs.List.{sum_by, range_with_len}
use Rattle.mp_system.specs.Memory.{state_memory}
use Rattle.fences.specs.Amounts.{carrying, drawn_by}
use Rattle.fences.specs.Workers.{relieved}
use Rattle.fences.proofs.bound.bound_of.Given as goal

abbrev pub invariant-loop-i : goal.invariant-loop-i
invariant-loop-i l = l.bound ≡ state_memory (carrying l.system l.amounts) (λ _. false) + sum_by (drawn_by (relieved l.room l.system) l.amounts) (range_with_len 1 l.i)
