use Rattle.std.proofs.Common.{◌≡◌, ◌≤◌, ◌<◌, ◌+◌, ℕ, get_or, length}
use Rattle.std.specs.Prelude.{◌↔◌}
use Rattle.joined_systems.specs.Kinds.{meet}
use Rattle.joined_systems.proofs.kinds.kinds_of.Given as goal

abbrev pub invariant-loop-w : goal.invariant-loop-w
invariant-loop-w l = record {
  len : length l.kinds.items ≡ l.count + 1;
  some : 1 ≤ length l.parts.items;
  kinds : (u : ℕ) → get_or l.kinds.items u 0 < length l.parts.items;
  parts : (c : ℕ) → get_or l.parts.items c 0 < length l.parts.items;
  same : (u v : ℕ) → ((get_or l.kinds.items u 0 ≡ get_or l.kinds.items v 0)
      ↔ ((x : ℕ) → x < l.w → meet l.makers l.takers u x ≡ meet l.makers l.takers v x));
}
