use Rattle.std.proofs.Common.{◌≤◌, ◌-◌, arith, subst}
use Rattle.patterns.proofs.NumberLists.{place_of}
use Rattle.elimination.specs.Quotients.{at}
use Rattle.elimination.proofs.bounds.lower.Goals as goal

pub returns-clause-listed : goal.returns-clause-listed
returns-clause-listed c = λ x h.
    let p = place_of c.args.list.now x h in
    let lt = p.1 in
    subst (λ z. at c.loop-w.bounds z ≤ at c.args.bounds.now z - 1) p.2 (c.loop-w.invariant.listed p.0 (omega arith))
