use Rattle.std.proofs.Common.{◌≡◌, ◌-◌, ◌≤◌, length}
use Rattle.fencing.specs.Takings.{Takes, fences_among}
use Rattle.fencing.proofs.ledger.Ledger.take_from_suppliers.Given as goal

abbrev pub invariant-loop-index : goal.invariant-loop-index
invariant-loop-index l = record {
  less : l.lacking ≤ l.need;
  takes : Takes l.items l.task (l.need - l.lacking) l.initial.self.pieces.items l.self.pieces.items l.initial.self.takings.items l.self.takings.items;
  fences : fences_among l.self.takings.items ≡ fences_among l.initial.self.takings.items;
  long : length l.self.pieces.items ≡ length l.initial.self.pieces.items;
  pool : l.self.pool ≡ l.initial.self.pool;
  places : length l.self.places.items ≡ length l.initial.self.places.items;
}
