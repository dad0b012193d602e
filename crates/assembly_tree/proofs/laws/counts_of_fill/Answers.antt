use Rattle.assembly_tree.proofs.CountLemmas.{counts_are}
use Rattle.assembly_tree.proofs.laws.counts_of_fill.Goals as goal

pub returns : goal.returns
returns c = λ joined n pattern inside.
    counts_are c.parent_is_first.ensures.parent c.structure_by_children.ensures c.no_earlier_row.ensures joined n pattern inside
