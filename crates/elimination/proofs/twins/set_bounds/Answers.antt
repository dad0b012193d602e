use Rattle.std.proofs.Common.{◌≡◌, arith, subst}
use Rattle.patterns.proofs.NumberLists.{place_of}
use Rattle.elimination.specs.Quotients.{at}
use Rattle.elimination.proofs.ListFacts.{absent}
use Rattle.elimination.proofs.twins.set_bounds.Goals as goal

pub returns-clause-set : goal.returns-clause-set
returns-clause-set c = λ x h.
    let p = place_of c.args.list.now x h in
    let lt = p.1 in
    subst (λ z. at c.loop-x.bounds z ≡ c.args.bound) p.2 (c.loop-x.invariant.ones p.0 (omega arith))

pub returns-clause-others : goal.returns-clause-others
returns-clause-others c = λ x h. c.loop-x.invariant.others x (absent c.args.list.now x h c.loop-x.x-index (omega arith))
