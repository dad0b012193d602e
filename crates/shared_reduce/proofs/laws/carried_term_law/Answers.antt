use Rattle.std.proofs.Common.{map, sym, ap, ◌∙◌}
use Rattle.sp_terms.specs.SystemOfTerm.{system_of_term}
use Rattle.graphs.specs.Graph.{completed_system}
use Rattle.shared_systems.specs.SharedMemory.{shared_peak_of}
use Rattle.carried_graphs.specs.Carried.{carried}
use Rattle.sp_reduce.proofs.NamedTerms.{is-renamed}
use Rattle.shared_reduce.proofs.laws.carried_term_law.Goals as goal

pub returns : goal.returns
returns c = λ system names t order is term traversal.
    let graph = carried term.lasts system in
    let own = (c.carried_law.ensures.traversal system term.lasts order is term.are_last).0 traversal in
    let there = c.renaming_law.ensures.each names (system_of_term t) (completed_system graph) order (is-renamed graph names t term.has)
    ((c.completion_law.ensures.traversal graph order).0 own) in
    let same = c.shared_term_law.ensures.peak system term.lasts names t there.0 is term.are_last term.has there.1 in
    (there.0, there.1, sym there.2, sym same ∙ ap (shared_peak_of system) (sym there.2))
