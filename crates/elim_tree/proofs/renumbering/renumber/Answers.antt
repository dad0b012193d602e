use Rattle.std.proofs.Common.{ℕ, Bool, List, length, map, sym, ap, subst, ◌∙◌}
use Rattle.ordering.specs.Fill.{parents_of, renumbered}
use Rattle.permutations.specs.Perm.{place_of}
use Rattle.elim_tree.specs.Postorders.{IsPostorder}
use Rattle.elim_tree.specs.Trees.{parent_at}
use Rattle.elim_tree.proofs.Growth.{pattern_renumbered, within_renumbered}
use Rattle.elim_tree.proofs.Renumberings.{renumbered_along}
use Rattle.elim_tree.proofs.renumbering.renumber.Goals as goal

pub returns-clause-tree : goal.returns-clause-tree
returns-clause-tree c = λ joined pattern inside e.
    let perm = c.args.perm.now in
    let post = c.args.post.now in
    let n = length c.args.parents.now in
    let by_columns = renumbered joined perm in
    c.in_ok-parents.ensures.parents
    ∙ ap (λ (parents : List ℕ). map (λ j. place_of post (parent_at parents j)) post) e
    ∙ sym (c.reordering.ensures.parents by_columns n post (pattern_renumbered joined perm pattern)
    (within_renumbered n n joined perm inside c.requires.len)
    (subst (λ (parents : List ℕ). IsPostorder parents post) e c.requires.post))
    ∙ ap (λ (g : ℕ → ℕ → Bool). parents_of g n) (sym (renumbered_along joined perm post))
    ∙ ap (λ (order : List ℕ). parents_of (renumbered joined order) n) (sym c.in_ok-perm.ensures)
