use Rattle.std.proofs.Common.{◌<◌, ◌≡◌, ℕ, IsTrue}
use Rattle.elimination.specs.Quotients.{AreLinks, LeadsTo, at}
use Rattle.elimination.specs.Hoods.{mark_at}
use Rattle.elimination.proofs.twins.all_marked.Given as goal

abbrev pub invariant-loop-b : goal.invariant-loop-b
invariant-loop-b l = record {
  linked : AreLinks (at l.turns) l.links;
  leads : (part : ℕ → ℕ) → LeadsTo (at l.turns) part l.fn.links → LeadsTo (at l.turns) part l.links;
  marked : (part : ℕ → ℕ) → LeadsTo (at l.turns) part l.fn.links → (j : ℕ) → j < l.b-index
      → (at l.turns (at l.row j) ≡ 0 → IsTrue (mark_at l.seen (at l.row j))) × (0 < at l.turns (at l.row j)
      → IsTrue (mark_at l.seen (part (at l.row j))));
}
