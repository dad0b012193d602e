use Rattle.bound_check.proofs.Roots.{root_found, root_missing}
use Rattle.bound_check.proofs.root.has_root.Goals as goal

pub returns-in-Some : goal.returns-in-Some
returns-in-Some c = λ ps len. root_found ps c.args.claims.now c.args.last c.in-Some.claim c.args.bound c.reaches.result len
    c.in-Some.ensures c.reaches.ensures

pub returns-in-None : goal.returns-in-None
returns-in-None c = λ ps len. root_missing ps c.args.claims.now c.args.last c.args.bound len c.in-None.ensures
