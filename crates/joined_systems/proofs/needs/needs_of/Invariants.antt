use Rattle.std.proofs.Common.{◌≡◌, ◌<◌, ◌+◌, ℕ, true, false, get_or, length}
use Rattle.std.specs.Prelude.{◌↔◌}
use Rattle.joined_systems.specs.Needs.{TellsNeed}
use Rattle.joined_systems.proofs.needs.needs_of.Given as goal

abbrev pub invariant-loop-i : goal.invariant-loop-i
invariant-loop-i l = record {
  len : length l.needs.items ≡ l.i;
  each : (i : ℕ) → i < l.i → ((get_or l.needs.items i false ≡ true)
      ↔ TellsNeed l.rows l.released l.uses l.takers (get_or l.leaders i 0) (i + 1));
}
