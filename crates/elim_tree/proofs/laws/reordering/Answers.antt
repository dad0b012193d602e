use Rattle.elim_tree.proofs.Reorderings.{structure_by_postorder, parents_by_postorder, counts_by_postorder}
use Rattle.elim_tree.proofs.laws.reordering.Goals as goal

pub returns-clause-structure : goal.returns-clause-structure
returns-clause-structure c = λ joined n post pattern inside order j i vj vi.
    structure_by_postorder c.parent_is_first.ensures.parent c.places_are_inverse.ensures.vertex
    c.places_are_inverse.ensures.place joined n post pattern inside order j i vj vi

pub returns-clause-parents : goal.returns-clause-parents
returns-clause-parents c = λ joined n post pattern inside order.
    parents_by_postorder c.parent_is_first.ensures.parent c.places_are_inverse.ensures.vertex
    c.places_are_inverse.ensures.place joined n post pattern inside order

pub returns-clause-counts : goal.returns-clause-counts
returns-clause-counts c = λ joined n post pattern inside order.
    counts_by_postorder c.parent_is_first.ensures.parent c.places_are_inverse.ensures.vertex
    c.places_are_inverse.ensures.place joined n post pattern inside order
