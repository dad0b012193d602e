use Rattle.std.proofs.Common.{◌≡◌, ◌∙◌, ℕ, length, sym, subst, arith}
use Rattle.patterns.specs.Pattern.{is_joined}
use Rattle.permutations.specs.Perm.{IsVertex, IsPerm}
use Rattle.ordering.specs.Fill.{renumbered}
use Rattle.elim_tree.specs.Paths.{IsWithin}
use Rattle.equivalent_orders.specs.Orders.{parent_vertex, column_count}
use Rattle.equivalent_orders.proofs.Along.{postorder_topological}
use Rattle.equivalent_orders.proofs.SameFronts.{share_over, numbered_in_postorder}
use Rattle.equivalent_orders.proofs.Topological.{same_parents, same_counts}
use Rattle.equivalent_orders.proofs.laws.same_fronts.Goals as goal

pub returns : goal.returns
returns c = λ rows old new one two first second pattern is_old topological a b u v vu vv.
    let joined = is_joined rows in
    let n = length rows in
    let adjacency = c.pattern_of_rows.ensures.pattern rows pattern in
    let inside = c.pattern_of_rows.ensures.within rows pattern in
    let len = is_old.len in
    let inside_old : IsWithin (length old) joined = subst (λ m. IsWithin m joined) (sym len) inside in
    let old_is : IsPerm (length old) old = subst (λ m. IsPerm m old) (sym len) is_old in
    let new_len = topological.perm.len ∙ len in
    let inside_new : IsWithin (length new) joined = subst (λ m. IsWithin m joined) (sym new_len) inside in
    let new_is : IsPerm (length new) new = subst (λ m. IsPerm m new) (sym topological.perm.len) topological.perm in
    let post_one = postorder_topological joined old adjacency inside_old old_is one a.postordered in
    let post_two = postorder_topological joined new adjacency inside_new new_is two b.postordered in
    let one_len = c.one_analysis.ensures.len rows old one first len a in
    let two_len = c.one_analysis.ensures.len rows new two second new_len b in
    let inside_one : IsWithin (length one) joined = subst (λ m. IsWithin m joined) (sym one_len) inside in
    let inside_two : IsWithin (length two) joined = subst (λ m. IsWithin m joined) (sym two_len) inside in
    let one_is : IsPerm (length one) one = subst (λ m. IsPerm m one) (sym post_one.perm.len) post_one.perm in
    let two_is : IsPerm (length two) two = subst (λ m. IsPerm m two) (sym post_two.perm.len) post_two.perm in
    let forest_old = c.tree_is_forest.ensures (renumbered joined old) (length old)
    (omega (arith, pattern.some, len)) (omega (arith, pattern.few, len)) in
    let forest_new = c.tree_is_forest.ensures (renumbered joined new) (length new)
    (omega (arith, pattern.some, new_len)) (omega (arith, pattern.few, new_len)) in
    let together_one = numbered_in_postorder joined old one adjacency inside_old forest_old a.postordered in
    let together_two = numbered_in_postorder joined new two adjacency inside_new forest_new b.postordered in
    let parents : (w : ℕ) → IsVertex n w → parent_vertex joined two w ≡ parent_vertex joined one w = λ w vw.
    let old_w = subst (λ m. IsVertex m w) (sym len) vw in
    let new_w = subst (λ m. IsVertex m w) (sym new_len) vw in
    same_parents joined new two adjacency inside_new new_is post_two w new_w
    ∙ same_parents joined old new adjacency inside_old old_is topological w old_w
    ∙ sym (same_parents joined old one adjacency inside_old old_is post_one w old_w) in
    let counts : (w : ℕ) → IsVertex n w → column_count joined two w ≡ column_count joined one w = λ w vw.
    let old_w = subst (λ m. IsVertex m w) (sym len) vw in
    let new_w = subst (λ m. IsVertex m w) (sym new_len) vw in
    same_counts joined new two adjacency inside_new new_is post_two w new_w
    ∙ same_counts joined old new adjacency inside_old old_is topological w old_w
    ∙ sym (same_counts joined old one adjacency inside_old old_is post_one w old_w) in
    let in_one = λ (w : ℕ) (vw : IsVertex n w). subst (λ m. IsVertex m w) (sym one_len) vw in
    let in_two = λ (w : ℕ) (vw : IsVertex n w). subst (λ m. IsVertex m w) (sym two_len) vw in
    let out_one = λ (w : ℕ) (vw : IsVertex (length one) w). subst (λ m. IsVertex m w) one_len vw in
    let out_two = λ (w : ℕ) (vw : IsVertex (length two) w). subst (λ m. IsVertex m w) two_len vw in (
      share_over joined one two adjacency inside_one inside_two one_is two_is (two_len ∙ sym one_len) together_two first second
          a.supernodes b.supernodes (λ w vw. parents w (out_one w vw)) (λ w vw. counts w (out_one w vw)) u v (in_one u vu) (in_one v vv),
      share_over joined two one adjacency inside_two inside_one two_is one_is (one_len ∙ sym two_len) together_one second first
          b.supernodes a.supernodes (λ w vw. sym (parents w (out_two w vw))) (λ w vw. sym (counts w (out_two w vw)))
          u v (in_two u vu) (in_two v vv),
    )
