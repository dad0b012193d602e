use Rattle.std.proofs.Common.{◌≡◌, take, false}
use Rattle.shared_systems.specs.Shared.{shared_size_where}
use Rattle.shared_systems.specs.SharedMemory.{is_held}
use Rattle.bound_search.proofs.needs.start_memory.Given as goal

abbrev pub invariant-loop-i : goal.invariant-loop-i
invariant-loop-i l = l.memory ≡ shared_size_where (is_held (λ v. false)) (take l.i l.items)
