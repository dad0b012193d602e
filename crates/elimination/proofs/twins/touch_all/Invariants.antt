use Rattle.std.proofs.Common.{ℕ}
use Rattle.patterns.specs.Pattern.{is_joined}
use Rattle.elimination.specs.Quotients.{AreLinks, LeadsTo, at, inner_at}
use Rattle.elimination.specs.Twins.{AreTouched}
use Rattle.elimination.proofs.twins.touch_all.Given as goal

abbrev pub invariant-loop-x : goal.invariant-loop-x
invariant-loop-x l = record {
  linked : AreLinks (at l.turns) l.links;
  leads : (part : ℕ → ℕ) → LeadsTo (at l.turns) part l.fn.links → LeadsTo (at l.turns) part l.links;
  touched : (part : ℕ → ℕ) → LeadsTo (at l.turns) part l.fn.links → AreTouched (is_joined l.pattern) (at l.turns) part l.list l.x-index
      (inner_at l.fn.rims) (inner_at l.rims);
}
