use Rattle.std.proofs.Common.{◌≡◌, ℕ, ◌+◌, ◌<◌, true, false}
use Rattle.std.specs.Prelude.{◌↔◌}
use Rattle.mp_system.specs.Memory.{stands_in}
use Rattle.state_search.specs.States.{can_be_last, may_wait}
use Rattle.state_search.proofs.last.last_of.Given as goal

abbrev pub invariant-loop-i : goal.invariant-loop-i
invariant-loop-i l = record {
  can : (v : ℕ) → (stands_in l.steps.items v ≡ true) ↔ ((can_be_last l.system l.bound l.marks v ≡ true) × (v < l.i + 1));
  none : (v : ℕ) → v < l.i + 1 → may_wait l.system l.bound l.marks v ≡ false;
}
