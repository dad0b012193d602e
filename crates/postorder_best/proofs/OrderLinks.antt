-- Postorders of a tree and of its forest.
use Rattle.std.proofs.Common.{◌≡◌, ◌∙◌, inl, sym, ap, subst, ℕ, suc, ◌+◌, List, [], ◌∷◌, ◌++◌, length, take, drop, get_or, arith, refl}
use Rattle.std.proofs.lemmas.List.{length-map, length-append, take-append-drop, drop_more, get_or_default}
use Rattle.mp_system.specs.System.{IsTask}
use Rattle.mp_system.specs.Memory.{stands_in}
use Rattle.mp_system.specs.Traversal as system
use Rattle.trees.specs.declared.node.Node.{Node}
use Rattle.trees.specs.Tree as tree
use Rattle.trees.specs.Tree.{parent_of_node, task_of_node, system_of_nodes}
use Rattle.postorder_best.specs.Postorder as public
use Rattle.postorder_best.specs.Postorder.{Member}
use Rattle.postorder_best.proofs.Forest.{IsNode, IsTraversal, IsPostorder}
use Rattle.postorder_best.proofs.Places.{member_right, at_member, place_of, one_place}
use Rattle.postorder_best.proofs.Steps.{stands_member, member_stands}
use Rattle.postorder_best.proofs.Least.{at_front, front_place}
use Rattle.postorder_best.proofs.Counting.{member_count, count_member, once_count, count_once}
use Rattle.postorder_best.proofs.TreeLinks.{ready_children, children_ready}

at_cut : (before rest : List ℕ) (v : ℕ) → get_or (before ++ v ∷ rest) (length before) 0 ≡ v
at_cut [] rest v = refl
at_cut (b ∷ bs) rest v = at_cut bs rest v

module _ (nodes : List Node) where
  pub inner : (v : ℕ) → tree.IsNode nodes v → IsNode (length nodes + 1) v
  inner v node = let a = node.0 in let b = node.1 in (omega arith, omega arith)

  pub outer : (v : ℕ) → IsNode (length nodes + 1) v → tree.IsNode nodes v
  outer v node = let a = node.0 in let b = node.1 in (omega arith, omega arith)

  task_node : (v : ℕ) → IsTask (system_of_nodes nodes) v → tree.IsNode nodes v
  task_node v task = let e = length-map nodes task_of_node in let a = task.0 in let b = task.1 in (omega arith, omega arith)

  node_task : (v : ℕ) → tree.IsNode nodes v → IsTask (system_of_nodes nodes) v
  node_task v node = let e = length-map nodes task_of_node in let a = node.0 in let b = node.1 in (omega arith, omega arith)

  pub to_system : (order : List ℕ) → IsTraversal (length nodes + 1) (parent_of_node nodes) order
      → system.IsTraversal (system_of_nodes nodes) order
  to_system order t = record {
    once = λ v task. (
        let a = member_count v order ((t.all v).0 (inner v (task_node v task))) in
        let b = once_count v order t.once in
        omega arith
        );
    tasks = λ k d lt. subst (λ v. IsTask (system_of_nodes nodes) v) (get_or_default order k 0 d lt)
        (node_task (get_or order k 0) (outer (get_or order k 0) ((t.all (get_or order k 0)).1 (at_member order k lt))));
    after_suppliers = λ before rest v e.
        let mv : Member v order = subst (λ (xs : List ℕ). Member v xs) (sym e) (member_right v before (v ∷ rest) (inl refl)) in
        let nv = (t.all v).1 mv in
        children_ready nodes (stands_in before) v (let l = nv.0 in omega arith) (λ w node up.
        let p = place_of w order ((t.all w).0 (inner w node)) in
        let long : length order ≡ length before + suc (length rest) = ap length e ∙ length-append before (v ∷ rest) in
        let here : get_or order (length before) 0 ≡ v = ap (λ (xs : List ℕ). get_or xs (length before) 0) e ∙ at_cut before rest v in
        let lt = t.early p.0 (length before) p.1 (omega arith) (ap (parent_of_node nodes) p.2 ∙ up ∙ sym here) in
        let is : get_or before p.0 0 ≡ w = sym (at_front before (v ∷ rest) p.0 lt) ∙ ap (λ (xs : List ℕ). get_or xs p.0 0) (sym e) ∙ p.2 in
        member_stands w before (subst (λ u. Member u before) is (at_member before p.0 lt)));
  }

  member_task : (order : List ℕ) → system.IsTraversal (system_of_nodes nodes) order
      → (v : ℕ) → Member v order → IsTask (system_of_nodes nodes) v
  member_task order t v m = let p = place_of v order m in subst (λ u. IsTask (system_of_nodes nodes) u) p.2 (t.tasks p.0 0 p.1)

  pub from_system : (order : List ℕ) → system.IsTraversal (system_of_nodes nodes) order
      → IsTraversal (length nodes + 1) (parent_of_node nodes) order
  from_system order t =
      let once = count_once order (λ v m. let e = t.once v (member_task order t v m) in omega arith) in
      record {
        once = once;
        all = λ x. (
          (λ node. count_member x order (let e = t.once x (node_task x (outer x node)) in omega arith)),
          (λ m. inner x (task_node x (member_task order t x m))),
        );
        early = λ i j li lj e.
            let cut : order ≡ take j order ++ get_or order j 0 ∷ drop (j + 1) order =
            sym (take-append-drop j order) ∙ ap (λ v. take j order ++ v) (drop_more order j 0 lj) in
            let ready = t.after_suppliers (take j order) (drop (j + 1) order) (get_or order j 0) cut in
            let nj = task_node (get_or order j 0) (t.tasks j 0 lj) in
            let ni = task_node (get_or order i 0) (t.tasks i 0 li) in
            let stood = ready_children nodes (stands_in (take j order)) (get_or order j 0) nj.0 ready (get_or order i 0) ni e in
            let p = front_place (get_or order i 0) order j (stands_member (get_or order i 0) (take j order) stood) in
            let same = one_place order p.0 i once p.2 li p.3 in
            let lt = p.1 in
            omega arith;
      }

  pub to_public : (order : List ℕ) → IsPostorder (length nodes + 1) (parent_of_node nodes) order → public.IsTreePostorder nodes order
  to_public order p = record { traversal = to_system order p.traversal; together = λ x node. p.together x (inner x node) }

  pub from_public : (order : List ℕ) → public.IsTreePostorder nodes order → IsPostorder (length nodes + 1) (parent_of_node nodes) order
  from_public order p = record { traversal = from_system order p.traversal; together = λ x node. p.together x (outer x node) }

  pub member_node : (order : List ℕ) → IsTraversal (length nodes + 1) (parent_of_node nodes) order
      → (v : ℕ) → Member v order → tree.IsNode nodes v
  member_node order t v m = outer v ((t.all v).1 m)
