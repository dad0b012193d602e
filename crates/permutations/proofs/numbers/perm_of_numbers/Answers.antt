use Rattle.permutations.proofs.Inverse.{all_numbers, inverse}
use Rattle.permutations.proofs.numbers.perm_of_numbers.Goals as goal

pub vertices_of-requires-clause-numbers : goal.vertices_of-requires-clause-numbers
vertices_of-requires-clause-numbers c =
    all_numbers c.args.base c.args.n c.args.numbers.now c.in_ok-places.places.items c.if-numbers-n.false c.in_ok-places.ensures.placed

pub from_tables-requires-clause-inverse : goal.from_tables-requires-clause-inverse
from_tables-requires-clause-inverse c =
    inverse c.args.base c.args.n c.args.numbers.now c.in_ok-places.places.items c.if-numbers-n.false c.in_ok-places.ensures.placed
    c.in_ok-vertices.vertices.items c.in_ok-vertices.ensures
