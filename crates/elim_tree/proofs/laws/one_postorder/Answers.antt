use Rattle.elim_tree.proofs.OnePostorder.{postorders_same}
use Rattle.elim_tree.proofs.laws.one_postorder.Goals as goal

pub returns : goal.returns
returns c = λ parents one two forest po pt.
    postorders_same c.places_are_inverse.ensures.vertex c.places_are_inverse.ensures.place parents forest one two po pt
