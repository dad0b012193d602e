use Rattle.elim_tree.proofs.Renumberings.{list_is, is_parent_table, table_in_postorder}
use Rattle.elim_tree.proofs.renumbering.tree_along.Goals as goal

pub invariant_of-result : goal.invariant_of-result
invariant_of-result c =
    is_parent_table c.places_are_inverse.ensures.vertex c.places_are_inverse.ensures.place
    c.args.parents.now c.args.post.now c.keeps.ensures c.requires
    c.in_ok-table.table.items c.in_ok-table.ensures

pub returns-clause-parents : goal.returns-clause-parents
returns-clause-parents c =
    list_is c.places_are_inverse.ensures.vertex c.places_are_inverse.ensures.place
    c.args.parents.now c.args.post.now c.keeps.ensures c.requires
    c.in_ok-table.table.items c.in_ok-table.ensures

pub returns-clause-in_postorder : goal.returns-clause-in_postorder
returns-clause-in_postorder c =
    table_in_postorder c.places_are_inverse.ensures.vertex c.places_are_inverse.ensures.place
    c.args.parents.now c.args.post.now c.keeps.ensures c.requires
    c.in_ok-table.table.items c.in_ok-table.ensures
