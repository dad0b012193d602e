-- A postorder of the tree of fronts, as the planner has it, is one of the fronts of an assembly tree.
use Rattle.std.proofs.Common.{◌≡◌, ◌∙◌, sym, ap, subst, inl, inr, ℕ, zero, suc, ◌-◌, ◌<◌, ◌≤◌, Bool, List, length, get_or, arith, refl}
use Rattle.std.proofs.lemmas.Bool.{cases_lt}
use Rattle.std.proofs.lemmas.List.{get_or-map, length-map, get_or_past}
use Rattle.std.proofs.lemmas.List.FromFn.{get_or-map-range_with_len, length-map-range_with_len}
use Rattle.elim_tree.specs.Trees.{IsAbove, parent_at, self, step}
use Rattle.trees.specs.declared.node.Node.{Node}
use Rattle.trees.specs.Tree.{parent_of_node}
use Rattle.assembly_tree.specs.declared.assembly.Super.{Super}
use Rattle.assembly_tree.specs.declared.front.Shape.{Shape}
use Rattle.assembly_tree.specs.Assembly.{IsSuper, no_super}
use Rattle.assembly_tree.specs.Fronts.{front_at, nodes_of_fronts}
use Rattle.postorder_best.specs.Postorder.{IsTreePostorder, IsUnder}
use Rattle.postorder_best.specs.Postorder as posts
use Rattle.postorder_best.proofs.Counting.{member_count, count_member}
use Rattle.equivalent_orders.specs.Fronts.{IsFrontOrder}
use Rattle.equivalent_orders.specs.FrontPostorders.{StandTogether, front_parents}

-- ---- two spellings of one tree

module _ (parent : ℕ → ℕ) (parents : List ℕ) (same : (v : ℕ) → parent_at parents v ≡ parent v) where
  under_some : {y x : ℕ} → IsUnder parent y x → 1 ≤ x → 1 ≤ y
  under_some posts.self some = some
  under_some (posts.step low under) some = low

  above_of_under : {y x : ℕ} → 1 ≤ x → IsUnder parent y x → IsAbove parents y x
  above_of_under some posts.self = self
  above_of_under {y} {x} some (posts.step low under) =
      step (subst (λ (p : ℕ). 0 < p) (sym (same y)) (under_some under some))
      (subst (λ (p : ℕ). IsAbove parents p x) (sym (same y)) (above_of_under some under))

  low_of : (v : ℕ) → 0 < parent_at parents v → 0 < v
  low_of zero some = absurd (omega arith)
  low_of (suc i) some = omega arith

  under_of_above : {y x : ℕ} → IsAbove parents y x → IsUnder parent y x
  under_of_above self = posts.self
  under_of_above {y} {x} (step some above) =
      posts.step (low_of y some) (subst (λ (p : ℕ). IsUnder parent p x) (same y) (under_of_above above))

-- ---- the fronts of an assembly tree

module _ (shape : Shape) (inplace : Bool) (supers : List Super) where
  abbrev nodes : List Node
  nodes = nodes_of_fronts shape inplace supers

  nodes_long : length nodes ≡ length supers
  nodes_long = length-map-range_with_len (front_at shape inplace supers) 1 (length supers)

  abbrev no_node : Node
  no_node = record { parent = 0; out = 0; extra = 0; share = 0; time = 0 }

  same_parent : (v : ℕ) → parent_at (front_parents supers) v ≡ parent_of_node nodes v
  same_parent zero = refl
  same_parent (suc i) =
      let back : suc i - 1 ≡ i = omega arith in
      let all = length-map supers (λ (x : Super). x.parent) in
      let count = nodes_long in
      elim (cases_lt i (length supers)) [
        | inl lt ↦ get_or-map (λ (x : Super). x.parent) supers i no_super 0 lt
            ∙ ap (λ (k : ℕ). (get_or supers k no_super).parent) (sym back)
            ∙ sym (ap (λ (k : ℕ). (get_or nodes k no_node).parent) back
            ∙ ap (λ (x : Node). x.parent)
            (get_or-map-range_with_len (front_at shape inplace supers) 1 (length supers) i (suc i) no_node lt (omega arith)))
        | inr ge ↦ get_or_past (front_parents supers) i 0 (omega arith)
            ∙ sym (ap (λ (k : ℕ). (get_or nodes k no_node).parent) back
            ∙ ap (λ (x : Node). x.parent) (get_or_past nodes i no_node (omega arith)))
      ]

  module _ (fronts : List ℕ) (order : IsFrontOrder supers fronts) (post : IsTreePostorder nodes fronts) where
    pub stand_together : (s : ℕ) → IsSuper supers s → StandTogether supers fronts s
    stand_together s is =
        let low = is.0 in
        let high = is.1 in
        let stand = post.together s (low, omega (arith, high, nodes_long)) in record {
          before = stand.before;
          block = stand.block;
          after = stand.after;
          parts = stand.parts;
          exact = λ t is_t. (
            (λ some. above_of_under (parent_of_node nodes) (front_parents supers) same_parent low
                ((stand.exact t).0 (count_member t stand.block some)).1),
            (λ above. member_count t stand.block ((stand.exact t).1 (
              count_member t fronts (let once = order.perm.once t is_t in omega arith),
              under_of_above (parent_of_node nodes) (front_parents supers) same_parent above,
            ))),
          );
        }
