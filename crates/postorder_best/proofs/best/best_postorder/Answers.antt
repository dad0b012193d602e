use Rattle.std.proofs.Common.{sym, subst, List}
use Rattle.trees.specs.declared.node.Node.{Node}
use Rattle.trees.specs.Tree.{IsTree}
use Rattle.postorder_best.specs.Rows.{IsBest}
use Rattle.postorder_best.proofs.Assembly.{can_list}
use Rattle.postorder_best.proofs.ChildLists.{parents_within, rows_of_children}
use Rattle.postorder_best.proofs.best.best_postorder.Goals as goal

pub child_rows-requires-clause-few : goal.child_rows-requires-clause-few
child_rows-requires-clause-few c =
    let tree = subst IsTree (sym c.nodes-nodes.ensures.value) c.nodes-nodes.ensures.tree in
    tree.few

pub child_rows-requires-clause-parents : goal.child_rows-requires-clause-parents
child_rows-requires-clause-parents c =
    let tree = subst IsTree (sym c.nodes-nodes.ensures.value) c.nodes-nodes.ensures.tree in
    parents_within c.nodes-nodes.result.now tree

pub sort_rows-requires-clause-rows : goal.sort_rows-requires-clause-rows
sort_rows-requires-clause-rows c =
    let tree = subst IsTree (sym c.nodes-nodes.ensures.value) c.nodes-nodes.ensures.tree in
    rows_of_children c.nodes-nodes.result.now tree c.in_ok-rows.rows c.in_ok-rows.ensures

pub listing-requires-clause-listed : goal.listing-requires-clause-listed
listing-requires-clause-listed c =
    let tree = subst IsTree (sym c.nodes-nodes.ensures.value) c.nodes-nodes.ensures.tree in
    can_list c.nodes-nodes.result.now c.sort_rows.new.rows tree c.in_ok-peak.ensures.rows

pub returns : goal.returns
returns c =
    let best = subst (λ (ns : List Node). IsBest ns c.in_ok-order.order.items c.in_ok-peak.peak) c.nodes-nodes.ensures.value
    (c.in_ok-peak.ensures.best c.in_ok-order.order.items c.in_ok-order.ensures) in
    record { best = best.best; postorder = best.postorder; peak = best.peak_is; least = best.least }
