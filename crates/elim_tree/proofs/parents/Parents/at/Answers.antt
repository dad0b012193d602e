use Rattle.std.proofs.Common.{◌≤◌, length, subst}
use Rattle.elim_tree.proofs.Columns.{read_within}
use Rattle.elim_tree.proofs.parents.Parents.at.Goals as goal

pub returns-clause-column : goal.returns-clause-column
returns-clause-column c =
    subst (λ parents. c.args.j ≤ length parents → c.index.result.now ≤ length parents) c.self.view_is
    (λ le. read_within c.self.inside.table.items c.self.invariant c.args.j c.index.result.now le c.index.ensures) c.requires
