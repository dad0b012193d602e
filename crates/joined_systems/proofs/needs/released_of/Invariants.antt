use Rattle.std.proofs.Common.{◌≡◌, ◌+◌, ℕ, true, false, get_or, length}
use Rattle.std.specs.Prelude.{◌↔◌}
use Rattle.joined_systems.specs.Needs.{IsReadByAll}
use Rattle.joined_systems.proofs.needs.released_of.Given as goal

abbrev pub invariant-loop-i : goal.invariant-loop-i
invariant-loop-i l = record {
  len : length l.released.items ≡ length l.leaders + 1;
  is : (v : ℕ) → ((get_or l.released.items v false ≡ true) ↔ IsReadByAll l.leaders l.items l.i v);
}
