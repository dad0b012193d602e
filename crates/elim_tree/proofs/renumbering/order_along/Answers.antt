use Rattle.std.proofs.Common.{length, arith, subst, ◌∙◌, refl}
use Rattle.permutations.specs.Perm.{IsPerm, vertex_at}
use Rattle.elim_tree.proofs.Renumberings.{tables_along, table_long, table_along}
use Rattle.elim_tree.proofs.renumbering.order_along.Goals as goal

pub from_tables-requires-clause-inverse : goal.from_tables-requires-clause-inverse
from_tables-requires-clause-inverse c =
    tables_along c.places_are_inverse.ensures.vertex c.places_are_inverse.ensures.place
    (length c.args.post.now) c.args.perm.now c.args.post.now
    c.in_ok-vertices.vertices.items c.in_ok-places.places.items
    (subst (λ n. IsPerm n c.args.perm.now) c.requires.len c.keeps.ensures) c.keeps-2.ensures c.in_ok-vertices.ensures c.in_ok-places.ensures

pub from_tables-requires-clause-small : goal.from_tables-requires-clause-small
from_tables-requires-clause-small c =
    let long = table_long (λ k. vertex_at c.args.perm.now (vertex_at c.args.post.now k)) c.in_ok-vertices.vertices.items
    (length c.args.post.now) c.in_ok-vertices.ensures in
    omega arith

pub returns : goal.returns
returns c = c.from_tables.ensures.order
    ∙ table_along (vertex_at c.args.perm.now) c.args.post.now c.in_ok-vertices.vertices.items
    (length c.args.post.now) refl c.in_ok-vertices.ensures
