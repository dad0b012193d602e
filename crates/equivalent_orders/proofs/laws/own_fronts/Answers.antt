use Rattle.std.proofs.Common.{length, sym}
use Rattle.std.proofs.lemmas.List.FromFn.{length-map-range_with_len}
use Rattle.ordering.specs.Fill.{parent_of, parents_of, counts_of}
use Rattle.symbolic.specs.FrontTree.{columns}
use Rattle.equivalent_orders.proofs.OwnFronts.{own_order, own_columns}
use Rattle.equivalent_orders.proofs.laws.own_fronts.Goals as goal

pub returns-clause-order : goal.returns-clause-order
returns-clause-order c = own_order

pub returns-clause-columns : goal.returns-clause-columns
returns-clause-columns c = λ rows order perm assembly pattern len is.
    own_columns (parents_of (columns rows perm) (length perm)) (counts_of (columns rows perm) (length perm)) assembly is.supernodes perm
    (sym (length-map-range_with_len (parent_of (columns rows perm) (length perm)) 1 (length perm)))
