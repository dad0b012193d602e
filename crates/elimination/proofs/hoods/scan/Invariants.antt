use Rattle.std.proofs.Common.{ℕ}
use Rattle.elimination.specs.Quotients.{Quotient, IsQuotient, AreLinks, at, inner_at}
use Rattle.elimination.specs.Hoods.{IsRowOf, IsScanned}
use Rattle.elimination.proofs.hoods.scan.Given as goal

abbrev pub invariant-loop-b : goal.invariant-loop-b
invariant-loop-b l = record {
  linked : AreLinks (at l.turns) l.links;
  scanned : (q : Quotient) (u : ℕ) → IsQuotient q (at l.turns) l.fn.links (inner_at l.rims) → IsRowOf q (at l.turns) u l.row
      → IsScanned q (at l.turns) (inner_at l.rims) u l.row 0 l.fn.hood.near.items l.fn.hood.touched.items l.fn.seen
      → IsQuotient q (at l.turns) l.links (inner_at l.rims) × IsScanned q (at l.turns)
      (inner_at l.rims) u l.row l.b-index l.hood.near.items l.hood.touched.items l.seen;
}
