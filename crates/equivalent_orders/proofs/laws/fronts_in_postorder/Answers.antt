use Rattle.equivalent_orders.proofs.FrontsInPostorder.{kept, own, in_turn}
use Rattle.equivalent_orders.proofs.laws.fronts_in_postorder.Goals as goal

pub returns-clause-kept : goal.returns-clause-kept
returns-clause-kept c = λ rows order perm fronts assembly pattern is_order is post.
    kept c.tree_is_forest.ensures rows order perm fronts assembly pattern (c.pattern_of_rows.ensures.pattern rows pattern)
    (c.pattern_of_rows.ensures.within rows pattern) is_order (c.one_analysis.ensures.len rows order perm assembly is_order.len is)
    (c.one_analysis.ensures.tree rows order perm assembly pattern is_order.len is) is post

pub returns-clause-own : goal.returns-clause-own
returns-clause-own c = λ rows order perm fronts assembly pattern is_order is post.
    own c.tree_is_forest.ensures rows order perm fronts assembly pattern (c.pattern_of_rows.ensures.pattern rows pattern)
    (c.pattern_of_rows.ensures.within rows pattern) is_order (c.one_analysis.ensures.len rows order perm assembly is_order.len is)
    (c.one_analysis.ensures.tree rows order perm assembly pattern is_order.len is) is post

pub returns-clause-in_turn : goal.returns-clause-in_turn
returns-clause-in_turn c = λ rows order perm fronts assembly pattern is_order is post v vertex.
    in_turn c.tree_is_forest.ensures rows order perm fronts assembly pattern (c.pattern_of_rows.ensures.pattern rows pattern)
    (c.pattern_of_rows.ensures.within rows pattern) is_order (c.one_analysis.ensures.len rows order perm assembly is_order.len is)
    (c.one_analysis.ensures.tree rows order perm assembly pattern is_order.len is) is post v vertex
