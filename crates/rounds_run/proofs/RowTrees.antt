-- The row system: it is a system of a tree, in which the order of the numbers is a traversal.
use Rattle.std.proofs.Common.{◌≡◌, ◌≢◌, ℕ, zero, suc, ◌+◌, ◌-◌, ◌<◌, ◌≤◌, Bool, true, not, ◌||◌, cond, eqb, List, []}
use Rattle.std.proofs.Common.{◌∷◌, ◌++◌, length, get_or, map, refl, sym, ap, ◌∙◌, subst, inl, inr, arith, Some, None}
use Rattle.std.specs.List.{All, sum_by, count_by, range_with_len}
use Rattle.std.proofs.lemmas.List.{get_or_default, get_or-map, length-map, get_or_at, get_or_append_left}
use Rattle.std.proofs.lemmas.List.Elements.{All-map, All-tail}
use Rattle.std.proofs.lemmas.List.Sums.{sum_by-cons, sum_by-le, AllPass-from_list_all, list_all-from_AllPass}
use Rattle.std.proofs.lemmas.List.Folds.{list_any_at}
use Rattle.std.proofs.lemmas.List.FromFn.{length-range_with_len, get_or-range_with_len}
use Rattle.std.proofs.lemmas.Bool.{cases_eq, eq-eqb, ne_eqb, or_left, or_right, or_cases, not_from_false}
use Rattle.std.proofs.lemmas.Bool.{not-true, both_ways, cond-true, cond-false}
use Rattle.limits.specs.Limits.{most_order}
use Rattle.mp_system.specs.declared.system.Item.{Item}
use Rattle.mp_system.specs.System.{IsTask, is_input}
use Rattle.mp_system.specs.Memory.{stands_in, is_ready, is_produced}
use Rattle.mp_system.specs.Traversal.{IsTraversal}
use Rattle.trees.specs.declared.node.Node.{Node}
use Rattle.trees.specs.Tree.{IsTree, IsNodeWithin, node_at, node_size, task_of_node, item_of_node}
use Rattle.assembly_tree.specs.declared.assembly.Super.{Super}
use Rattle.assembly_tree.specs.Assembly.{AssemblyTree, IsSuper, IsAssembly, no_super, super_at, columns_in, front_of}
use Rattle.rounds_run.specs.RowSystem.{row_node, row_system, row_order}
use Rattle.assembly_tree.proofs.FrontLemmas.{rising_leads}
use Rattle.trees.proofs.SystemLemmas.{get_or-items_from, length-items_from}

-- ---- the nodes

pub super_here : (supers : List Super) (k : ℕ) (d : Super) → k < length supers → super_at supers (suc k) ≡ get_or supers k d
super_here supers k d lt =
    let back : suc k - 1 ≡ k = omega arith in
    ap (λ (i : ℕ). get_or supers i no_super) back ∙ get_or_default supers k no_super d lt

count-le-sum : (xs : List Super) → All (λ (x : Super). 1 ≤ x.columns) xs → length xs ≤ sum_by columns_in xs
count-le-sum [] each = omega arith
count-le-sum (x ∷ xs) each =
    let first : 1 ≤ x.columns = each zero x (omega arith) in
    omega (arith, first, count-le-sum xs (All-tail (λ (y : Super). 1 ≤ y.columns) x xs each), sum_by-cons columns_in x xs)

-- parents of greater number lead to a root

module _ (assembly : AssemblyTree) (is : IsAssembly assembly) where
  nodes_long : length (map row_node assembly.supers) ≡ length assembly.supers
  nodes_long = length-map assembly.supers row_node

  pub supers_few : length assembly.supers ≤ most_order
  supers_few =
      let each : All (λ (x : Super). 1 ≤ x.columns) assembly.supers = λ k d lt.
      (let some = (is.each (suc k) (omega arith, omega (arith, lt))).some in
      omega (arith, some, ap (λ (x : Super). x.columns) (super_here assembly.supers k d lt))) in
      omega (arith, count-le-sum assembly.supers each, is.total, is.few)

  within : (s : ℕ) → IsSuper assembly.supers s → IsNodeWithin (map row_node assembly.supers) (row_node (super_at assembly.supers s))
  within s super =
      let x = super_at assembly.supers s in
      let fits = is.fits s super in
      let few = is.few in
      let long = nodes_long in
      record {
        parent = elim (cases_eq x.parent 0) [
          | inl root ↦ omega (arith, root)
          | inr child ↦ (let up = (is.each s super).parent (omega (arith, child)) in omega (arith, up.1, long))
        ];
        out = omega (arith, fits, few);
        extra = omega (arith, fits, few);
        time = (omega arith, omega arith);
      }

  node_here : (v : ℕ) → IsSuper assembly.supers v → node_at (map row_node assembly.supers) v ≡ row_node (super_at assembly.supers v)
  node_here v super = get_or-map row_node assembly.supers (v - 1) no_super _ (omega (arith, super.0, super.1))

  pub row_tree : IsTree (map row_node assembly.supers)
  row_tree = record {
    some = (let first = is.nodes 1 (omega arith, is.some) in omega (arith, first.0, first.1, nodes_long));
    few = omega (arith, supers_few, nodes_long);
    each = All-map (IsNodeWithin (map row_node assembly.supers)) row_node assembly.supers (λ k d lt.
        subst (λ x. IsNodeWithin (map row_node assembly.supers) (row_node x)) (super_here assembly.supers k d lt)
        (within (suc k) (omega arith, omega (arith, lt))));
    total = (
        let each : All (λ (x : Node). node_size x ≤ most_order) (map row_node assembly.supers) =
        All-map (λ (x : Node). node_size x ≤ most_order) row_node assembly.supers (λ k d lt.
        (let fits = is.fits (suc k) (omega arith, omega (arith, lt)) in
        omega (arith, fits, is.few, ap front_of (super_here assembly.supers k d lt)))) in
        omega (arith, sum_by-le node_size most_order (map row_node assembly.supers) each, supers_few, nodes_long)
        );
    roots = λ v node. rising_leads (map row_node assembly.supers) (λ w there some.
        let super : IsSuper assembly.supers w = (there.0, omega (arith, there.1, nodes_long)) in
        let up = ap (λ (x : Node). x.parent) (node_here w super) in
        let above = (is.each w super).parent (omega (arith, up, some)) in
        (omega (arith, up, above.0), omega (arith, up, above.1, nodes_long)))
        (length (map row_node assembly.supers)) v node (omega (arith, node.0));
    shares = λ v node.
        let super : IsSuper assembly.supers v = (node.0, omega (arith, node.1, nodes_long)) in
        let none = ap (λ (x : Node). x.share) (node_here v super) in
        (omega (arith, none), omega (arith, none));
  }

-- ---- the order

count_below : (a n v : ℕ) → v < a → count_by (λ u. eqb u v) (range_with_len a n) ≡ 0
count_below a zero v lt = refl
count_below a (suc n) v lt =
    sum_by-cons (λ u. cond (eqb u v) 1 0) a (range_with_len (a + 1) n)
    ∙ (let ne = ne_eqb a v (λ e. absurd (omega arith)) in rw ne (let rest = count_below (a + 1) n v (omega arith) in omega (arith, rest)))

count_once : (a n v : ℕ) → a ≤ v → v < a + n → count_by (λ u. eqb u v) (range_with_len a n) ≡ 1
count_once a zero v low high = absurd (omega arith)
count_once a (suc n) v low high =
    sum_by-cons (λ u. cond (eqb u v) 1 0) a (range_with_len (a + 1) n)
    ∙ elim (cases_eq a v) [
      | inl e ↦ (let here = eq-eqb a v e in rw here (let rest = count_below (a + 1) n v (omega arith) in omega (arith, rest)))
      | inr ne ↦
          (let here = ne_eqb a v ne in rw here (let rest = count_once (a + 1) n v (omega arith) (omega arith) in omega (arith, rest)))
    ]

-- an item that v consumes is that of a child of v
consumes_child : (v u p : ℕ) (done : ℕ → Bool) (item : Item) → item.from ≡ Some u → item.to ≡ cond (eqb p 0) None (Some p)
    → (p ≡ v → 0 < p → done u ≡ true) → (not (is_input v item) || is_produced done item) ≡ true
consumes_child v u p done item from to ready =
    elim (cases_eq p 0) [
      | inl root ↦ (
          let none : item.to ≡ None = to ∙ cond-true _ _ _ (eq-eqb p 0 root) in
          let unused : not (is_input v item) ≡ true = rw none refl in
          or_left _ _ unused
          )
      | inr child ↦ (
          let some : item.to ≡ Some p = to ∙ cond-false _ _ _ (ne_eqb p 0 child) in
          elim (cases_eq p v) [
            | inl here ↦ (
                let produced : is_produced done item ≡ true = rw from (ready here (omega arith)) in
                or_right _ _ produced
                )
            | inr ne ↦ (
                let unused : not (is_input v item) ≡ true = rw some (not_from_false _ (ne_eqb p v ne)) in
                or_left _ _ unused
                )
          ]
          )
    ]

child_produced : (v u p : ℕ) (done : ℕ → Bool) (item : Item) → item.from ≡ Some u → item.to ≡ cond (eqb p 0) None (Some p)
    → p ≡ v → 0 < p → (not (is_input v item) || is_produced done item) ≡ true → done u ≡ true
child_produced v u p done item from to here some passes =
    let child : p ≢ 0 = λ z. absurd (omega arith) in
    let named : item.to ≡ Some p = to ∙ cond-false _ _ _ (ne_eqb p 0 child) in
    elim (or_cases (not (is_input v item)) (is_produced done item) passes) [
      | inl unused ↦ absurd (
          let used : is_input v item ≡ true = rw named (eq-eqb p v here) in
          both_ways _ (not-true _ unused) used
          )
      | inr produced ↦ rw from at produced
    ]

module _ (assembly : AssemblyTree) (is : IsAssembly assembly) where
  pub tasks_long : length (row_system assembly.supers).tasks ≡ length assembly.supers
  tasks_long = length-map (map row_node assembly.supers) task_of_node ∙ length-map assembly.supers row_node

  -- tasks are supernodes
  pub super_of_task : (t : ℕ) → IsTask (row_system assembly.supers) t → IsSuper assembly.supers t
  super_of_task t task = (task.0, omega (arith, task.1, tasks_long))

  pub task_of_super : (t : ℕ) → IsSuper assembly.supers t → IsTask (row_system assembly.supers) t
  task_of_super t super = (super.0, omega (arith, super.1, tasks_long))

  item_is : (k : ℕ) (d : Item) → k < length assembly.supers
      → get_or (row_system assembly.supers).items k d ≡ item_of_node (suc k) (row_node (super_at assembly.supers (suc k)))
  item_is k d lt =
      let more : 1 + k ≡ suc k = omega arith in
      let long = length-map assembly.supers row_node in
      get_or-items_from 1 (map row_node assembly.supers) k d (row_node no_super) (omega (arith, lt, long))
      ∙ ap (λ x. item_of_node (1 + k) x) (get_or-map row_node assembly.supers k no_super (row_node no_super) lt)
      ∙ ap (λ x. item_of_node (1 + k) (row_node x)) (sym (super_here assembly.supers k no_super lt))
      ∙ ap (λ (i : ℕ). item_of_node i (row_node (super_at assembly.supers (suc k)))) more

  -- a task that is ready has all its children done
  pub child_done : (done : ℕ → Bool) (s c : ℕ) → is_ready (row_system assembly.supers) done s ≡ true → IsSuper assembly.supers c
      → (super_at assembly.supers c).parent ≡ s → IsSuper assembly.supers s → done c ≡ true
  child_done done s zero ready child up super = absurd (omega (arith, child.0))
  child_done done s (suc k) ready child up super =
      let test = λ (item : Item). not (is_input s item) || is_produced done item in
      let lt : k < length assembly.supers = omega (arith, child.1) in
      let long = length-items_from 1 (map row_node assembly.supers) ∙ length-map assembly.supers row_node in
      let item = item_of_node (suc k) (row_node (super_at assembly.supers (suc k))) in
      let all = AllPass-from_list_all test (row_system assembly.supers).items ready in
      let passes : test item ≡ true =
      subst (λ z. test z ≡ true) (item_is k item lt) (all k item (omega (arith, lt, long))) in
      child_produced s (suc k) (super_at assembly.supers (suc k)).parent done item refl refl up (omega (arith, up, super.0)) passes

  -- each supernode after its children
  pub row_traversal : IsTraversal (row_system assembly.supers) (row_order assembly.supers)
  row_traversal = record {
    once = λ v task. (let super = super_of_task v task in count_once 1 (length assembly.supers) v super.0 (omega (arith, super.1)));
    tasks = λ k d lt. (
        let long = length-range_with_len 1 (length assembly.supers) in
        let at = get_or-range_with_len 1 (length assembly.supers) k d (omega (arith, lt, long)) in
        task_of_super _ (omega (arith, at), omega (arith, at, lt, long))
        );
    after_suppliers = λ before rest v e. (
        let m = length assembly.supers in
        let order = row_order assembly.supers in
        let whole : length (before ++ v ∷ rest) ≡ m = ap (λ (z : List ℕ). length z) (sym e) ∙ length-range_with_len 1 m in
        let shorter : length before < m = before_within before v rest m whole in
        let here : v ≡ 1 + length before =
        sym (get_or_at before v rest 0 (length before) refl) ∙ ap (λ z. get_or z (length before) 0) (sym e)
        ∙ get_or-range_with_len 1 m (length before) 0 shorter in
        let stands : (u : ℕ) → 1 ≤ u → u < v → stands_in before u ≡ true = λ u low high. (
        let lt : u - 1 < length before = omega (arith, here, low, high) in
        let at : get_or before (u - 1) 0 ≡ u =
        sym (get_or_append_left before (v ∷ rest) 0 (u - 1) lt) ∙ ap (λ z. get_or z (u - 1) 0) (sym e)
        ∙ get_or-range_with_len 1 m (u - 1) 0 (omega (arith, lt, shorter)) ∙ (let back : 1 + (u - 1) ≡ u = omega (arith, low) in back) in
        list_any_at (λ z. eqb z u) before (u - 1) 0 lt (eq-eqb _ u at)
        ) in
        let test = λ (item : Item). not (is_input v item) || is_produced (stands_in before) item in
        list_all-from_AllPass test (row_system assembly.supers).items (λ k d lt.
        let long = length-items_from 1 (map row_node assembly.supers) ∙ length-map assembly.supers row_node in
        let in_range : k < m = omega (arith, lt, long) in
        let child : IsSuper assembly.supers (suc k) = (omega arith, omega (arith, in_range)) in
        let x = super_at assembly.supers (suc k) in
        subst (λ z. test z ≡ true) (sym (item_is k d in_range))
        (consumes_child v (suc k) x.parent (stands_in before) (item_of_node (suc k) (row_node x)) refl refl
        (λ same some. stands (suc k) (omega arith) (let above = (is.each (suc k) child).parent some in omega (arith, above.0, same)))))
        );
  } where
    before_within : (before : List ℕ) (v : ℕ) (rest : List ℕ) (m : ℕ) → length (before ++ v ∷ rest) ≡ m → length before < m
    before_within [] v rest m e = omega arith
    before_within (x ∷ xs) v rest zero e = absurd (omega arith)
    before_within (x ∷ xs) v rest (suc m) e = omega (arith, before_within xs v rest m (omega (arith, e)))

-- parents are supernodes
pub parents_within : (assembly : AssemblyTree) → IsAssembly assembly → (supers : List Super) → supers ≡ assembly.supers
    → All (λ (x : Super). x.parent ≤ length supers) supers
parents_within assembly is supers same k d lt =
    let lt_all : k < length assembly.supers = omega (arith, lt, ap (λ (z : List Super). length z) same) in
    let here : super_at assembly.supers (suc k) ≡ get_or supers k d =
    super_here assembly.supers k d lt_all ∙ ap (λ (z : List Super). get_or z k d) (sym same) in
    let up = ap (λ (x : Super). x.parent) here in
    let long = ap (λ (z : List Super). length z) same in
    elim (cases_eq (super_at assembly.supers (suc k)).parent 0) [
      | inl root ↦ omega (arith, root, up)
      | inr child ↦ (
          let inside = ((is.each (suc k) (omega arith, omega (arith, lt_all))).parent (omega (arith, child))).1 in
          omega (arith, inside, up, long)
          )
    ]
