use Rattle.std.proofs.Common.{map, sym, ◌∙◌}
use Rattle.mp_system.specs.Renaming.{name_in}
use Rattle.sp_terms.specs.SystemOfTerm.{system_of_term}
use Rattle.graphs.specs.Graph.{completed_system}
use Rattle.sp_reduce.proofs.NamedTerms.{is-renamed}
use Rattle.sp_reduce.proofs.laws.named_term_law.Goals as goal

pub returns-clause-traversal : goal.returns-clause-traversal
returns-clause-traversal c = λ graph names t order h.
    let one = c.renaming_law.ensures.traversal names (system_of_term t) (completed_system graph) order (is-renamed graph names t h) in
    let two = c.completion_law.ensures.traversal graph (map (name_in names) order) in
    (λ is. two.1 (one.0 is), λ is. one.1 (two.0 is))

pub returns-clause-peak : goal.returns-clause-peak
returns-clause-peak c = λ graph names t order h is.
    sym (c.completion_law.ensures.peak graph (map (name_in names) order))
    ∙ c.renaming_law.ensures.peak names (system_of_term t) (completed_system graph) order (is-renamed graph names t h) is

pub returns-clause-least : goal.returns-clause-least
returns-clause-least c = λ graph names t peak h.
    let one = c.renaming_law.ensures.least names (system_of_term t) (completed_system graph) peak (is-renamed graph names t h) in
    let two = c.completion_law.ensures.least graph peak in
    (λ is. two.1 (one.0 is), λ is. one.1 (two.0 is))
