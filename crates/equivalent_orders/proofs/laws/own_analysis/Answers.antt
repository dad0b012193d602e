use Rattle.std.proofs.Common.{◌≡◌, length, sym, subst, arith}
use Rattle.std.specs.List.{range_with_len}
use Rattle.std.proofs.lemmas.List.FromFn.{length-map-range_with_len}
use Rattle.patterns.specs.Pattern.{is_joined}
use Rattle.ordering.specs.Fill.{parent_of, parents_of, renumbered}
use Rattle.elim_tree.specs.Paths.{IsWithin}
use Rattle.elim_tree.specs.Postorders.{IsPostorder}
use Rattle.equivalent_orders.proofs.Own.{own_postorder, along_own}
use Rattle.equivalent_orders.proofs.SameFronts.{numbered_in_postorder}
use Rattle.equivalent_orders.proofs.laws.own_analysis.Goals as goal

pub returns : goal.returns
returns c = λ rows order perm assembly pattern len is.
    let joined = is_joined rows in
    let perm_len = c.one_analysis.ensures.len rows order perm assembly len is in
    let inside : IsWithin (length order) joined =
    subst (λ m. IsWithin m joined) (sym len) (c.pattern_of_rows.ensures.within rows pattern) in
    let forest = c.tree_is_forest.ensures (renumbered joined order) (length order)
    (omega (arith, pattern.some, len)) (omega (arith, pattern.few, len)) in
    let own_forest = c.tree_is_forest.ensures (renumbered joined perm) (length perm)
    (omega (arith, pattern.some, perm_len)) (omega (arith, pattern.few, perm_len)) in
    let parents = parents_of (renumbered joined perm) (length perm) in
    let all : length parents ≡ length perm = length-map-range_with_len (parent_of (renumbered joined perm) (length perm)) 1 (length perm) in
    let together = numbered_in_postorder joined order perm (c.pattern_of_rows.ensures.pattern rows pattern) inside forest is.postordered in
    record {
      postordered = record {
        post = range_with_len 1 (length perm);
        postorder = subst (λ m. IsPostorder parents (range_with_len 1 m)) all (own_postorder parents own_forest together);
        along = along_own perm;
      };
      supernodes = is.supernodes;
    }
