-- The fronts of an assembly tree are a tree within the limits.
use Rattle.std.proofs.Common.{◌*◌, ◌≡◌, ℕ, zero, suc, ◌+◌, ◌-◌, ◌<◌, ◌≤◌, Bool, true, false, cond, eqb, max, List, [], ◌∷◌}
use Rattle.std.proofs.Common.{length, get_or, take, map, filter, fold, refl, sym, ap, ◌∙◌, subst, inl, inr, arith, All}
use Rattle.std.specs.List.{sum_by, range_with_len}
use Rattle.std.proofs.lemmas.List.{get_or_default, same_lists, take_all}
use Rattle.std.proofs.lemmas.List.Elements.{All-filter, All-map, filter_passes}
use Rattle.std.proofs.lemmas.List.Sums.{sum_by-cons, sum_by_more, sum-map}
use Rattle.std.proofs.lemmas.List.FromFn.{length-map-range_with_len, get_or-map-range_with_len}
use Rattle.std.proofs.lemmas.Nat.{mul-le}
use Rattle.std.proofs.Math.Nat.{max-le}
use Rattle.std.proofs.lemmas.Bool.{cases_eq, eqb-true}
use Rattle.limits.specs.Limits.{most_order, most_size, most_total}
use Rattle.trees.specs.declared.node.Node.{Node}
use Rattle.trees.specs.Tree.{IsNode, IsTree, IsNodeWithin, node_at, node_size, ancestor, out_below, children_out}
use Rattle.assembly_tree.specs.declared.assembly.Super.{Super}
use Rattle.assembly_tree.specs.declared.front.Shape.{Shape}
use Rattle.assembly_tree.specs.declared.front.Shape.TheVariants.{Triangle, Square}
use Rattle.assembly_tree.specs.Assembly.{AssemblyTree, IsSuper, IsAssembly, no_super, super_at, front_of}
use Rattle.assembly_tree.specs.Fronts.{kept_entries, block_of, share_of, front_node, front_at, nodes_of_fronts}
use Rattle.assembly_tree.proofs.ListLemmas.{sum_by-filter}
use Rattle.lists.proofs.Lists.{sum_by-map}
use Rattle.assembly_tree.specs.Supernodes.{last_of}
use Rattle.assembly_tree.proofs.RunLemmas.{supers-le, last-all, last-le, last-more, last-within}
use Rattle.assembly_tree.proofs.SupernodeLemmas.{supers-range}

-- ---- sizes

pub size-le : (shape : Shape) (r t : ℕ) → r ≤ t → kept_entries shape r ≤ kept_entries shape t
size-le Triangle r t le = omega (arith, mul-le r (r + 1) t (t + 1) le (omega arith))
size-le Square r t le = mul-le r r t t le le

-- a front of all rows of a matrix is within the limit of one size
pub size-small : (shape : Shape) (r : ℕ) → r ≤ most_order → kept_entries shape r ≤ most_size
size-small Triangle r le = omega (arith, mul-le r (r + 1) most_order (most_order + 1) le (omega arith))
size-small Square r le = omega (arith, mul-le r r most_order most_order le le)

square-self : (n : ℕ) → n ≤ n * n
square-self zero = omega arith
square-self (suc n) = omega arith

size-square : (shape : Shape) (r t : ℕ) → r ≤ t → kept_entries shape r ≤ t * t
size-square Triangle r t le = omega (arith, mul-le r (r + 1) t (t + 1) le (omega arith), square-self t)
size-square Square r t le = mul-le r r t t le le

-- ---- sums of squares

-- 1 * 1 + 2 * 2 + .. + n * n
squares : ℕ → ℕ
squares zero = 0
squares (suc n) = squares n + suc n * suc n

squares-step : (m n : ℕ) → m ≡ suc n → squares m ≡ squares n + m * m
unfolding squares
squares-step m n e = ap squares e ∙ omega (arith, e, ap (λ (i : ℕ). i * i) e)

squares-third : (n : ℕ) → 3 * squares n ≤ n * n * (n + 2)
unfolding squares
squares-third zero = omega arith
squares-third (suc n) = omega (arith, squares-third n)

-- the fronts of a matrix are within the limit of all sizes together
squares-small : (n : ℕ) → n ≤ most_order → squares n ≤ most_total
squares-small n le =
    omega (
      arith,
      squares-third n,
      mul-le (n * n) (n + 2) (most_order * most_order) (most_order + 2) (mul-le n n most_order most_order le le) (omega arith),
    )

-- ---- lists by number

pub map-range_same : {X : Type 0} (f g : ℕ → X) (n : ℕ) → ((s : ℕ) → 1 ≤ s → s ≤ n → f s ≡ g s)
    → map f (range_with_len 1 n) ≡ map g (range_with_len 1 n)
map-range_same {X} f g n same =
    let lf = length-map-range_with_len f 1 n in
    let lg = length-map-range_with_len g 1 n in
    same_lists (map f (range_with_len 1 n)) (map g (range_with_len 1 n)) (lf ∙ sym lg) (λ k d lt.
    let in_range : k < n = omega (arith, lt, lf) in
    let at : 1 + k ≡ suc k = omega arith in
    get_or-map-range_with_len f 1 n k (suc k) d in_range at ∙ same (suc k) (omega arith) (omega arith)
    ∙ sym (get_or-map-range_with_len g 1 n k (suc k) d in_range at))

-- ---- shares

-- the greatest of the blocks is at most their sum, and at most what bounds each
max-le-sum : (xs : List ℕ) (a : ℕ) → fold max a xs ≤ a + sum_by (λ x. x) xs
max-le-sum [] a = omega arith
max-le-sum (x ∷ xs) a = omega (arith, max-le-sum xs (max a x), sum_by-cons (λ x. x) x xs)

max-le-each : (m : ℕ) (xs : List ℕ) (a : ℕ) → a ≤ m → All (λ x. x ≤ m) xs → fold max a xs ≤ m
max-le-each m [] a le each = le
max-le-each m (x ∷ xs) a le each =
    max-le-each m xs (max a x) (max-le le (each zero 0 (omega arith))) (λ k d lt. each (suc k) d (omega arith))

share-sum : (shape : Shape) (p : Super → Bool) (xs : List Super)
    → fold max 0 (map (block_of shape) (filter p xs)) ≤ sum_by (λ x. cond (p x) (block_of shape x) 0) xs
share-sum shape p xs = omega (
  arith,
  max-le-sum (map (block_of shape) (filter p xs)) 0,
  sum-map (block_of shape) (filter p xs),
  sum_by-filter (block_of shape) p xs,
)

share-bound : (shape : Shape) (p : Super → Bool) (m : ℕ) (xs : List Super)
    → All (λ x. p x ≡ true → block_of shape x ≤ m) xs → fold max 0 (map (block_of shape) (filter p xs)) ≤ m
share-bound shape p m xs each =
    let passing = All-filter p (λ (x : Super). p x ≡ true → block_of shape x ≤ m) xs each in
    max-le-each m (map (block_of shape) (filter p xs)) 0 (omega arith)
    (All-map (λ (k : ℕ). k ≤ m) (block_of shape) (filter p xs) (λ k d lt. passing k d lt (filter_passes p xs k d lt)))

-- ---- ways up

pub ancestor-none : (nodes : List Node) (k : ℕ) → ancestor nodes k 0 ≡ 0
unfolding ancestor
ancestor-none nodes zero = refl
ancestor-none nodes (suc k) = ancestor-none nodes k

pub rising_leads : (nodes : List Node)
    → ((v : ℕ) → IsNode nodes v → 0 < (node_at nodes v).parent
    → (v < (node_at nodes v).parent) × ((node_at nodes v).parent ≤ length nodes))
    → (k v : ℕ) → IsNode nodes v → length nodes < v + k → ancestor nodes k v ≡ 0
unfolding ancestor
rising_leads nodes rising zero v is far = absurd (omega (arith, is.1, far))
rising_leads nodes rising (suc k) zero is far = absurd (omega (arith, is.0))
rising_leads nodes rising (suc k) (suc i) is far =
    elim (cases_eq (node_at nodes (suc i)).parent 0) [
      | inl root ↦ rw root (ancestor-none nodes k)
      | inr child ↦ (
          let above = rising (suc i) is (omega (arith, child)) in
          rising_leads nodes rising k (node_at nodes (suc i)).parent (omega (arith, above.0), above.1) (omega (arith, above.0, far))
          )
    ]

-- ---- the tree

module _ (shape : Shape) (inplace : Bool) (assembly : AssemblyTree) (is : IsAssembly assembly) where
  len : length (nodes_of_fronts shape inplace assembly.supers) ≡ length assembly.supers
  len = length-map-range_with_len (front_at shape inplace assembly.supers) 1 (length assembly.supers)

  at : (i : ℕ) (d : Node) → i < length assembly.supers
      → get_or (nodes_of_fronts shape inplace assembly.supers) i d ≡ front_at shape inplace assembly.supers (1 + i)
  at i d lt = get_or-map-range_with_len (front_at shape inplace assembly.supers) 1 (length assembly.supers) i (1 + i) d lt refl

  at_node : (v : ℕ) → IsSuper assembly.supers v
      → node_at (nodes_of_fronts shape inplace assembly.supers) v ≡ front_at shape inplace assembly.supers v
  at_node v h =
      (let back : 1 + (v - 1) ≡ v = omega (arith, h.0) in
      at (v - 1) _ (omega (arith, h.0, h.1)) ∙ ap (front_at shape inplace assembly.supers) back)

  supers-few : length assembly.supers ≤ length assembly.nodes
  supers-few = omega (
    arith,
    supers-le assembly.supers (length assembly.supers) (λ k h. (is.each k h).some) (omega arith),
    last-all assembly.supers,
    is.total,
  )

  few : length assembly.supers ≤ most_order
  few = omega (arith, supers-few, is.few)

  some : 1 ≤ length assembly.supers
  some = (let first = is.nodes 1 (omega arith, is.some) in omega (arith, first.0, first.1))

  inside : (s : ℕ) → IsSuper assembly.supers s → (super_at assembly.supers s).parent ≤ length assembly.supers
  inside s h = elim (cases_eq (super_at assembly.supers s).parent 0) [
    | inl root ↦ omega (arith, root)
    | inr child ↦ ((is.each s h).parent (omega (arith, child))).1
  ]

  small : (s : ℕ) → IsSuper assembly.supers s → kept_entries shape (front_of (super_at assembly.supers s)) ≤ most_size
  small s h = size-small shape (front_of (super_at assembly.supers s)) (omega (arith, is.fits s h, is.few))

  below : (s : ℕ) → block_of shape (super_at assembly.supers s) ≤ kept_entries shape (front_of (super_at assembly.supers s))
  below s = size-le shape (super_at assembly.supers s).rest (front_of (super_at assembly.supers s)) (omega arith)

  number : (i : ℕ) → i < length assembly.supers → IsSuper assembly.supers (1 + i)
  number i lt = (omega arith, omega (arith, lt))

  -- a front and the columns before it are no more than all columns together: its further rows stand in the front of its parent, whose
  -- columns come later
  rows_root : (s : ℕ) → IsSuper assembly.supers s → (super_at assembly.supers s).parent ≡ 0
      → front_of (super_at assembly.supers s) + last_of assembly.supers (s - 1) ≤ length assembly.nodes
  rows_root s h root =
      omega (
        arith,
        last-more assembly.supers s h.0 h.1,
        (is.each s h).root root,
        last-within assembly.supers s,
        last-all assembly.supers,
        is.total,
      )

  rows_below : (s p : ℕ) → IsSuper assembly.supers s → s < p → (super_at assembly.supers s).rest ≤ front_of (super_at assembly.supers p)
      → front_of (super_at assembly.supers p) + last_of assembly.supers (p - 1) ≤ length assembly.nodes
      → front_of (super_at assembly.supers s) + last_of assembly.supers (s - 1) ≤ length assembly.nodes
  rows_below s p h up rest above =
      omega (arith, above, rest, last-more assembly.supers s h.0 h.1, last-le assembly.supers s (p - 1) (omega (arith, up)))

  rows_left : (steps s : ℕ) → IsSuper assembly.supers s → length assembly.supers ≤ s + steps
      → front_of (super_at assembly.supers s) + last_of assembly.supers (s - 1) ≤ length assembly.nodes
  rows_left zero s h far =
      elim (cases_eq (super_at assembly.supers s).parent 0) [
        | inl root ↦ rows_root s h root
        | inr child ↦ (let up = (is.each s h).parent (omega (arith, child)) in absurd (omega (arith, far, up.0, up.1)))
      ]
  rows_left (suc steps) s h far =
      elim (cases_eq (super_at assembly.supers s).parent 0) [
        | inl root ↦ rows_root s h root
        | inr child ↦ (
            let p = (super_at assembly.supers s).parent in
            let up = (is.each s h).parent (omega (arith, child)) in
            rows_below s p h up.0 ((is.each s h).rest (omega (arith, child)))
            (rows_left steps p (omega (arith, up.0), up.1) (omega (arith, far, up.0)))
            )
      ]

  -- the front of the supernode after k others has at most as many rows as there are columns left
  front_left : (k : ℕ) → k < length assembly.supers → front_of (super_at assembly.supers (1 + k)) ≤ length assembly.nodes - k
  front_left k lt =
      let back : 1 + k - 1 ≡ k = omega arith in
      omega (
        arith,
        rows_left (length assembly.supers) (1 + k) (number k lt) (omega arith),
        ap (last_of assembly.supers) back,
        supers-le assembly.supers k (λ s h. (is.each s h).some) (omega (arith, lt)),
      )

  size_left : (k : ℕ) → k < length assembly.supers
      → node_size (front_at shape inplace assembly.supers (1 + k)) ≤ (length assembly.nodes - k) * (length assembly.nodes - k)
  size_left k lt =
      omega (
        arith,
        size-square shape (front_of (super_at assembly.supers (1 + k))) (length assembly.nodes - k) (front_left k lt),
        below (1 + k),
      )

  -- the first k fronts, and what those of one column each would take from there on
  sum_left : (k : ℕ) → k ≤ length assembly.supers
      → sum_by node_size (take k (nodes_of_fronts shape inplace assembly.supers)) + squares (length assembly.nodes - k)
      ≤ squares (length assembly.nodes)
  sum_left zero le = let all : length assembly.nodes - 0 ≡ length assembly.nodes = omega arith in omega (arith, ap squares all)
  sum_left (suc k) le =
      let nodes = nodes_of_fronts shape inplace assembly.supers in
      let d : Node = record { parent = 0; out = 0; extra = 0; share = 0; time = 0 } in
      let lt : k < length assembly.supers = omega (arith, le) in
      let one : k + 1 ≡ suc k = omega arith in
      let more = sum_by_more node_size nodes k d (omega (arith, lt, len)) in
      let left : length assembly.nodes - k ≡ suc (length assembly.nodes - suc k) = omega (arith, supers-few, le) in
      omega (
        arith,
        sum_left k (omega (arith, le)),
        more,
        ap (λ (i : ℕ). sum_by node_size (take i nodes)) one,
        ap node_size (at k d lt),
        size_left k lt,
        squares-step (length assembly.nodes - k) (length assembly.nodes - suc k) left,
      )

  outs : (s : ℕ)
      → children_out (nodes_of_fronts shape inplace assembly.supers) s
      ≡ sum_by (λ x. cond (eqb x.parent s) (block_of shape x) 0) assembly.supers
  outs s =
      let g = λ (x : Super). cond (eqb x.parent s) (block_of shape x) 0 in
      sum_by-map (out_below s) (front_at shape inplace assembly.supers) (range_with_len 1 (length assembly.supers))
      ∙ sym (sum_by-map g (super_at assembly.supers) (range_with_len 1 (length assembly.supers)))
      ∙ ap (sum_by g) (supers-range assembly.supers)

  share : (s : ℕ) → IsSuper assembly.supers s
      → (cond inplace (share_of shape assembly.supers s) 0 ≤ children_out (nodes_of_fronts shape inplace assembly.supers) s)
      × (cond inplace (share_of shape assembly.supers s) 0 ≤ kept_entries shape (front_of (super_at assembly.supers s)))
  share s h =
      let sum = share-sum shape (λ x. eqb x.parent s) assembly.supers in
      let bound = share-bound shape (λ x. eqb x.parent s)
      (kept_entries shape (front_of (super_at assembly.supers s))) assembly.supers (λ k d lt passes.
      let c = number k lt in
      let back : 1 + k - 1 ≡ k = omega arith in
      let here : super_at assembly.supers (1 + k) ≡ get_or assembly.supers k d =
      ap (λ (i : ℕ). get_or assembly.supers i no_super) back ∙ get_or_default assembly.supers k no_super d lt in
      let up : (super_at assembly.supers (1 + k)).parent ≡ s =
      ap (λ (x : Super). x.parent) here ∙ eqb-true (get_or assembly.supers k d).parent s passes in
      let rest = (is.each (1 + k) c).rest (omega (arith, up, h.0)) in
      let parent = ap (λ (i : ℕ). front_of (super_at assembly.supers i)) up in
      let child = ap (λ (x : Super). x.rest) here in
      size-le shape (get_or assembly.supers k d).rest (front_of (super_at assembly.supers s)) (omega (arith, rest, parent, child))) in
      let whole = outs s in
      elim inplace as (λ b. (cond b (share_of shape assembly.supers s) 0 ≤ children_out (nodes_of_fronts shape inplace assembly.supers) s)
      × (cond b (share_of shape assembly.supers s) 0 ≤ kept_entries shape (front_of (super_at assembly.supers s)))) [
        | true ↦ (omega (arith, sum, whole), bound)
        | false ↦ (omega arith, omega arith)
      ]

  pub fronts_tree : IsTree (nodes_of_fronts shape inplace assembly.supers)
  fronts_tree = record {
    some = omega (arith, len, some);
    few = omega (arith, len, few);
    each = λ k d lt. (
        let in_range : k < length assembly.supers = omega (arith, lt, len) in
        let h = number k in_range in
        let s = 1 + k in
        subst (IsNodeWithin (nodes_of_fronts shape inplace assembly.supers)) (sym (at k d in_range)) (record {
          parent = omega (arith, inside s h, len);
          out = omega (arith, small s h, below s);
          extra = omega (arith, small s h);
          time = ((is.each s h).some, omega (arith, is.fits s h, is.few));
        })
        );
    total = omega (
      arith,
      ap (sum_by node_size) (take_all (length assembly.supers) (nodes_of_fronts shape inplace assembly.supers) (omega (arith, len))),
      sum_left (length assembly.supers) (omega arith),
      squares-small (length assembly.nodes) is.few,
    );
    roots = λ v h. (
        let in_range : IsSuper assembly.supers v = (h.0, omega (arith, h.1, len)) in
        rising_leads (nodes_of_fronts shape inplace assembly.supers) (λ w node some.
        let super_w : IsSuper assembly.supers w = (node.0, omega (arith, node.1, len)) in
        let up = ap (λ (x : Node). x.parent) (at_node w super_w) in
        let above = (is.each w super_w).parent (omega (arith, up, some)) in
        (omega (arith, up, above.0), omega (arith, up, above.1, len)))
        (length (nodes_of_fronts shape inplace assembly.supers)) v h (omega (arith, h.0))
        );
    shares = λ v h. (
        let in_range : IsSuper assembly.supers v = (h.0, omega (arith, h.1, len)) in
        let here = at_node v in_range in
        let fit = share v in_range in (
          omega (arith, ap (λ (x : Node). x.share) here, fit.0),
          omega (arith, ap (λ (x : Node). x.share) here, ap node_size here, fit.1, below v),
        )
        );
  }

pub parents_inside : (assembly : AssemblyTree) → IsAssembly assembly
    → All (λ (x : Super). x.parent ≤ length assembly.supers) assembly.supers
parents_inside assembly is k d lt =
    let back : 1 + k - 1 ≡ k = omega arith in
    let here : (super_at assembly.supers (1 + k)).parent ≡ (get_or assembly.supers k d).parent =
    ap (λ (i : ℕ). (get_or assembly.supers i no_super).parent) back
    ∙ ap (λ (x : Super). x.parent) (get_or_default assembly.supers k no_super d lt) in
    omega (arith, here, inside Triangle false assembly is (1 + k) (omega arith, omega (arith, lt)))

pub fronts_inside : (assembly : AssemblyTree) → IsAssembly assembly → All (λ (x : Super). front_of x ≤ most_order) assembly.supers
fronts_inside assembly is k d lt =
    let back : 1 + k - 1 ≡ k = omega arith in
    let here : front_of (super_at assembly.supers (1 + k)) ≡ front_of (get_or assembly.supers k d) =
    ap (λ (i : ℕ). front_of (get_or assembly.supers i no_super)) back ∙ ap front_of (get_or_default assembly.supers k no_super d lt) in
    omega (arith, here, is.fits (1 + k) (omega arith, omega (arith, lt)), is.few)

pub supers_few : (assembly : AssemblyTree) → IsAssembly assembly → length assembly.supers ≤ most_order
supers_few assembly is = few Triangle false assembly is

-- the fronts with the shares of a table
pub fronts_with : (shape : Shape) (inplace : Bool) (supers : List Super) (shares : List ℕ)
    → ((s : ℕ) → s ≤ length supers → get_or shares s 0 ≡ cond inplace (share_of shape supers s) 0)
    → map (λ (s : ℕ). front_node shape (get_or shares s 0) (super_at supers s)) (range_with_len 1 (length supers))
    ≡ nodes_of_fronts shape inplace supers
fronts_with shape inplace supers shares are =
    map-range_same (λ (s : ℕ). front_node shape (get_or shares s 0) (super_at supers s)) (front_at shape inplace supers)
    (length supers) (λ s low high. ap (λ (share : ℕ). front_node shape share (super_at supers s)) (are s high))
