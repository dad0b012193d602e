use Rattle.std.proofs.Common.{◌≡◌, ℕ, ◌≤◌, Bool, length, take, drop}
use Rattle.rounds_run.specs.Holding.{Factor, IsHeld, AreMadeOf, or_in}
use Rattle.rounds_run.proofs.held.Held.keep_all.Given as goal

abbrev pub invariant-loop-next : goal.invariant-loop-next
invariant-loop-next l = record {
  rows : length l.self.rows.items ≡ length l.supers;
  inboxes : length l.self.inboxes.items ≡ length l.supers;
  few : length l.left.items ≤ length l.round;
  are : l.left.items ≡ take (length l.left.items) l.fn.made.items;
  held : (f : Factor) (ran : ℕ → Bool) → f.supers ≡ l.supers → AreMadeOf f l.round l.fn.made.items
      → IsHeld f (or_in ran l.round) ran l.fn.self
      → IsHeld f (or_in ran l.round) (or_in ran (drop (length l.left.items) l.round)) l.self;
}

abbrev pub decreases-loop-next : goal.decreases-loop-next
decreases-loop-next l = length l.left.items
