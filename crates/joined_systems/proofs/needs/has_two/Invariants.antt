use Rattle.std.proofs.Common.{◌≡◌, ◌<◌, ℕ, get_or}
use Rattle.joined_systems.proofs.needs.has_two.Given as goal

abbrev pub invariant-loop-i : goal.invariant-loop-i
invariant-loop-i l = (k : ℕ) → k < l.i → get_or l.takers (get_or l.row k 0) 0 ≡ get_or l.takers (get_or l.row 0 0) 0
