use Rattle.std.proofs.Common.{◌≡◌, arith, subst, false}
use Rattle.patterns.proofs.NumberLists.{place_of}
use Rattle.elimination.specs.Hoods.{mark_at}
use Rattle.elimination.proofs.ListFacts.{absent}
use Rattle.elimination.proofs.hoods.unmark.Goals as goal

pub returns-clause-gone : goal.returns-clause-gone
returns-clause-gone c = λ x h.
    let p = place_of c.args.list.now x h in
    let lt = p.1 in
    subst (λ z. mark_at c.loop-b.seen z ≡ false) p.2 (c.loop-b.invariant.gone p.0 (omega arith))

pub returns-clause-others : goal.returns-clause-others
returns-clause-others c = λ x h. c.loop-b.invariant.others x (absent c.args.list.now x h c.loop-b.b-index (omega arith))
