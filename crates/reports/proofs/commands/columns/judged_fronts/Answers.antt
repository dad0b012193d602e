use Rattle.std.proofs.Common.{◌∙◌, ℕ, sym, ap, subst}
use Rattle.permutations.specs.Perm.{IsPerm}
use Rattle.trees.specs.Tree.{system_of_nodes}
use Rattle.reports.proofs.ColumnLemmas.{traversed}
use Rattle.reports.proofs.commands.columns.judged_fronts.Goals as goal

pub order_of_numbers-requires : goal.order_of_numbers-requires
order_of_numbers-requires c =
    let order = c.args.order.now in
    let before = traversed c.front_orders.ensures c.args.options.shape c.args.options.inplace c.args.assembly.now
    c.front_count-count.ensures.assembly c.in_ok-system.system order (c.in_ok-system.ensures ∙ ap system_of_nodes c.in_ok-tree.ensures)
    c.in_ok-_peak.ensures.peak.0 in
    subst (λ (n : ℕ). IsPerm n order) (sym c.front_count-count.ensures.value) before.perm

pub returns-clause-before : goal.returns-clause-before
returns-clause-before c =
    traversed c.front_orders.ensures c.args.options.shape c.args.options.inplace c.args.assembly.now
    c.front_count-count.ensures.assembly c.in_ok-system.system c.args.order.now (c.in_ok-system.ensures ∙ ap system_of_nodes c.in_ok-tree.ensures)
    c.in_ok-_peak.ensures.peak.0
