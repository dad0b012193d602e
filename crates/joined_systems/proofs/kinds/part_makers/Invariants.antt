use Rattle.std.proofs.Common.{◌≡◌, ◌≤◌, ℕ, true, false, get_or, map, take}
use Rattle.row_table.specs.Rows.{has}
use Rattle.joined_systems.specs.Kinds.{AreParts}
use Rattle.joined_systems.proofs.kinds.part_makers.Given as goal

abbrev pub invariant-loop-p : goal.invariant-loop-p
invariant-loop-p l = record {
  parts : AreParts l.start l.parts.items;
  left : (u : ℕ) → has (map (λ i. get_or l.makers i 0) (take l.p-index l.row)) u ≡ false → get_or l.kinds u 0 ≡ get_or l.initial.kinds u 0;
  parted : (u : ℕ) → has (map (λ i. get_or l.makers i 0) (take l.p-index l.row)) u ≡ true
      → (l.start ≤ get_or l.kinds u 0) × (get_or l.kinds u 0 ≡ get_or l.parts.items (get_or l.initial.kinds u 0) 0);
}
