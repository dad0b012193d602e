use Rattle.std.proofs.Common.{ℕ, ◌+◌, ◌<◌, get_or, map}
use Rattle.peak_bounds.specs.Evidence.{place_of}
use Rattle.bounded_plans.proofs.within.are_rising.Given as goal

abbrev pub invariant-loop-i : goal.invariant-loop-i
invariant-loop-i l = (k : ℕ) → k + 1 < l.i → get_or (map place_of l.amounts) k 0 < get_or (map place_of l.amounts) (k + 1) 0
