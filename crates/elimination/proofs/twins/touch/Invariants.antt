use Rattle.std.proofs.Common.{ℕ}
use Rattle.elimination.specs.Quotients.{AreLinks, LeadsTo, at, inner_at}
use Rattle.elimination.specs.Twins.{IsTouched}
use Rattle.elimination.proofs.twins.touch.Given as goal

abbrev pub invariant-loop-b : goal.invariant-loop-b
invariant-loop-b l = record {
  linked : AreLinks (at l.turns) l.links;
  leads : (part : ℕ → ℕ) → LeadsTo (at l.turns) part l.fn.links → LeadsTo (at l.turns) part l.links;
  touched : (part : ℕ → ℕ) → LeadsTo (at l.turns) part l.fn.links → IsTouched (at l.turns) part l.x l.row l.b-index (inner_at l.fn.rims)
      (inner_at l.rims);
}
