use Rattle.std.proofs.Common.{◌+◌, ◌-◌, get_or, ◌∙◌, ap}
use Rattle.shared_systems.specs.Shared.{shared_outputs_of}
use Rattle.activation.proofs.Numbers.{number_at}
use Rattle.activation.proofs.Placing.{placed}
use Rattle.activation.proofs.sums.needs_of.Goals as goal

pub returns-clause-needs : goal.returns-clause-needs
returns-clause-needs c =
    let t = c.in_ok-tables in
    let list = t.tables.needs.items in
    placed (λ u. get_or list (u - 1) 0) c.requires (rw c.deref.ensures.value at c.in_ok-needs.ensures)
    (λ u is. number_at list u is.0 ∙ t.ensures.needs u is)

pub returns-clause-frees : goal.returns-clause-frees
returns-clause-frees c =
    let t = c.in_ok-tables in
    let list = t.tables.frees.items in
    placed (λ u. get_or list (u - 1) 0) c.requires (rw c.deref-2.ensures.value at c.in_ok-frees.ensures)
    (λ u is. ap (λ n. n + shared_outputs_of c.args.system.now u) (number_at list u is.0) ∙ t.ensures.frees u is)
