use Rattle.std.proofs.Common.{subst, sym}
use Rattle.patterns.specs.Pattern.{is_joined}
use Rattle.elimination.specs.Dense.{IsDenseUnderWay, IsLeastDegreeOrder}
use Rattle.elimination.proofs.dense_tests.dense_order.Goals as goal

pub eliminate_dense-requires : goal.eliminate_dense-requires
eliminate_dense-requires c =
    let joined = is_joined c.args.pattern.now in
    (joined, subst (λ z. IsDenseUnderWay joined z c.in_ok-search.search) (sym c.new-order.ensures.items) c.in_ok-search.ensures.begins)

pub returns : goal.returns
returns c =
    let joined = is_joined c.args.pattern.now in
    subst (λ n. IsLeastDegreeOrder joined n c.eliminate_dense.new.vertices.items) c.in_ok-search.ensures.order
    (c.in_ok-eliminate_dense.ensures joined
    (subst (λ z. IsDenseUnderWay joined z c.in_ok-search.search) (sym c.new-order.ensures.items) c.in_ok-search.ensures.begins))
