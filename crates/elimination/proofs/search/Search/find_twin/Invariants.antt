use Rattle.std.proofs.Common.{◌≡◌, ℕ, length}
use Rattle.elimination.specs.Quotients.{AreLinks, LeadsTo, at}
use Rattle.elimination.specs.declared.search.Search.{Search}
use Rattle.elimination.proofs.search.Search.find_twin.Given as goal

abbrev pub invariant-loop-i : goal.invariant-loop-i
invariant-loop-i l = record {
  same : ◌≡◌ {A = Search} l.self (record l.fn.self { links = l.self.links });
  len : length l.self.links.items ≡ length l.fn.self.links.items;
  linked : AreLinks (at l.fn.self.turns.items) l.self.links.items;
  leads : (part : ℕ → ℕ) → LeadsTo (at l.fn.self.turns.items) part l.fn.self.links.items
      → LeadsTo (at l.fn.self.turns.items) part l.self.links.items;
}
