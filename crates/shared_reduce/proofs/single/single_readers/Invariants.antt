use Rattle.std.proofs.Common.{◌≡◌, length}
use Rattle.shared_reduce.specs.Single.{AreSingle}
use Rattle.shared_reduce.proofs.single.single_readers.Given as goal

abbrev pub invariant-loop-i : goal.invariant-loop-i
invariant-loop-i l = record { len : length l.lasts.items ≡ l.i; are : AreSingle l.items l.lasts.items l.i }
