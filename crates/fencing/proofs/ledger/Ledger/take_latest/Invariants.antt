use Rattle.std.proofs.Common.{◌≡◌, ◌+◌, ◌-◌, ◌≤◌, List, length}
use Rattle.mp_system.specs.declared.system.Item.{Item}
use Rattle.fencing.specs.Takings.{Takes, all_kept, fences_among}
use Rattle.fencing.proofs.ledger.Ledger.take_latest.Given as goal

abbrev pub decreases-loop-lacking : goal.decreases-loop-lacking
decreases-loop-lacking l = l.lacking + length l.self.pieces.items

abbrev pub invariant-loop-lacking : goal.invariant-loop-lacking
invariant-loop-lacking l = record {
  less : l.lacking ≤ l.need;
  enough : l.lacking ≤ all_kept l.self.pieces.items;
  takes : (items : List Item) → Takes items l.task (l.need - l.lacking) l.initial.self.pieces.items l.self.pieces.items l.initial.self.takings.items l.self.takings.items;
  same : 1 ≤ l.lacking → fences_among l.self.takings.items + length l.self.pieces.items ≤ fences_among l.initial.self.takings.items + length l.initial.self.pieces.items;
  few : fences_among l.self.takings.items + length l.self.pieces.items ≤ fences_among l.initial.self.takings.items + length l.initial.self.pieces.items + 1;
  none : l.need ≡ 0 → fences_among l.self.takings.items ≡ fences_among l.initial.self.takings.items;
  pool : l.self.pool ≡ l.initial.self.pool;
  places : length l.self.places.items ≡ length l.initial.self.places.items;
}
