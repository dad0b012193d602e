use Rattle.permutations.specs.Perm.{place_of}
use Rattle.elim_tree.proofs.Postorderings.{between}
use Rattle.elim_tree.proofs.laws.subtrees_stand_together.Goals as goal

pub returns : goal.returns
returns c = λ parents order forest post a b x va vb up lo hi. between parents forest (place_of order) post.before a b x va vb up lo hi
