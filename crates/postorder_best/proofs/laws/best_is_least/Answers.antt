use Rattle.std.proofs.Common.{arith}
use Rattle.postorder_best.proofs.Theorem.{best_law}
use Rattle.postorder_best.proofs.laws.best_is_least.Goals as goal

pub returns-clause-postorder : goal.returns-clause-postorder
returns-clause-postorder c = λ nodes order tree best. (best_law nodes order tree (c.tree_system.ensures.need nodes) best).postorder

pub returns-clause-least : goal.returns-clause-least
returns-clause-least c = λ nodes order other tree best post.
    let b = best_law nodes order tree (c.tree_system.ensures.need nodes) best in
    let e = b.peak_is in
    let l = b.least other post in
    omega arith
