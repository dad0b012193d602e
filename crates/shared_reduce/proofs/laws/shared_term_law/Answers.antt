use Rattle.std.proofs.Common.{map, sym, ◌∙◌}
use Rattle.mp_system.specs.Renaming.{name_in}
use Rattle.carried_graphs.specs.Carried.{carried}
use Rattle.shared_reduce.proofs.laws.shared_term_law.Goals as goal

pub returns-clause-traversal : goal.returns-clause-traversal
returns-clause-traversal c = λ system lasts names t order is are has.
    let named = c.named_term_law.ensures.traversal (carried lasts system) names t order has in
    let own = c.carried_law.ensures.traversal system lasts (map (name_in names) order) is are in
    (λ traversal. own.1 (named.0 traversal), λ traversal. named.1 (own.0 traversal))

pub returns-clause-peak : goal.returns-clause-peak
returns-clause-peak c = λ system lasts names t order is are has traversal.
    let named = map (name_in names) order in
    let shared = (c.carried_law.ensures.traversal system lasts named is are).1
    ((c.named_term_law.ensures.traversal (carried lasts system) names t order has).0 traversal) in
    sym (c.carried_law.ensures.peak system lasts named is are shared)
    ∙ c.named_term_law.ensures.peak (carried lasts system) names t order has traversal

pub returns-clause-least : goal.returns-clause-least
returns-clause-least c = λ system lasts names t peak is are has.
    let named = c.named_term_law.ensures.least (carried lasts system) names t peak has in
    let own = c.carried_law.ensures.least system lasts peak is are in
    (λ least. named.1 (own.0 least), λ least. own.1 (named.0 least))
