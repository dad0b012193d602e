use Rattle.std.proofs.Common.{◌≡◌, take}
use Rattle.shared_systems.specs.Shared.{is_read_by, shared_size_where}
use Rattle.peak_bounds.proofs.needs.inputs.Given as goal

abbrev pub invariant-loop-i : goal.invariant-loop-i
invariant-loop-i l = l.sum ≡ shared_size_where (is_read_by l.task) (take l.i l.items)
