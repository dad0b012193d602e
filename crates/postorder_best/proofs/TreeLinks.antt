-- A tree of nodes as a forest by functions of numbers, and the memory of its system.
use Rattle.std.proofs.Common.{◌≡◌, ◌≢◌, ◌∙◌, inl, inr, sym, ap, ap₂, subst, ℕ, zero, suc, ◌+◌, ◌-◌, ◌<◌, ◌≤◌, Bool, true, false}
use Rattle.std.proofs.Common.{not, ◌&&◌, ◌||◌, eqb, eq-eqb, eqb-true, List, [], ◌∷◌, ◌++◌, length, get_or, arith, refl}
use Rattle.std.specs.List.{sum_by, list_all}
use Rattle.std.proofs.lemmas.Bool.{cases_eq, ne_eqb}
use Rattle.std.proofs.lemmas.List.{get_or_past}
use Rattle.std.proofs.lemmas.List.Sums.{sum_by-cons}
use Rattle.limits.specs.Limits.{most_total}
use Rattle.mp_system.specs.declared.system.Item.{Item}
use Rattle.mp_system.specs.System.{size_if, is_input, need_of}
use Rattle.mp_system.specs.Memory.{is_present, is_produced, is_ready, stands_in, state_memory}
use Rattle.mp_system.specs.Memory as system
use Rattle.trees.specs.declared.node.Node.{Node}
use Rattle.trees.specs.Tree as tree
use Rattle.trees.specs.Tree.{IsTree, node_at, node_size, parent_of_node, ancestor, out_below}
use Rattle.trees.specs.Tree.{children_out, item_of_node, items_from, system_of_nodes}
use Rattle.postorder_best.specs.Postorder.{Member}
use Rattle.postorder_best.specs.BestPostorder.{out_at, need_at}
use Rattle.postorder_best.proofs.Forest.{Rooted, top, raise, IsForest, stands, total, bit, memory, peak_from}
use Rattle.postorder_best.proofs.Places.{member_parts}
use Rattle.postorder_best.proofs.Steps.{no_stand}
use Rattle.lists.proofs.Bools.{both_true}
use Rattle.trees.proofs.AscentLemmas.{ancestor-one, ancestor-none}

abbrev pub no_node : Node
no_node = record { parent = 0; out = 0; extra = 0; share = 0; time = 0 }

-- ---- a node by its place in the list

pub node_is : (nodes : List Node) (k i : ℕ) → k ≡ i + 1 → node_at nodes k ≡ get_or nodes i no_node
node_is nodes k i e = let s : k - 1 ≡ i = omega arith in ap (λ v. get_or nodes v no_node) s

pub parent_at : (nodes : List Node) (k i : ℕ) → k ≡ i + 1 → parent_of_node nodes k ≡ (get_or nodes i no_node).parent
parent_at nodes zero i e = absurd (omega arith)
parent_at nodes (suc j) i e = ap (λ (m : Node). m.parent) (node_is nodes (suc j) i e)

pub out_is : (nodes : List Node) (k i : ℕ) → k ≡ i + 1 → out_at nodes k ≡ (get_or nodes i no_node).out
out_is nodes zero i e = absurd (omega arith)
out_is nodes (suc j) i e = ap (λ (m : Node). m.out) (node_is nodes (suc j) i e)

pub need_is : (nodes : List Node) (k i : ℕ) → k ≡ i + 1
    → need_at nodes k ≡ (get_or nodes i no_node).extra + (get_or nodes i no_node).out - (get_or nodes i no_node).share
need_is nodes zero i e = absurd (omega arith)
need_is nodes (suc j) i e = ap (λ (m : Node). m.extra + m.out - m.share) (node_is nodes (suc j) i e)

-- ---- sums over nodes, and over numbers

abbrev sum_with : (ℕ → Node → ℕ) → ℕ → List Node → ℕ
sum_with f u [] = 0
sum_with f u (m ∷ ms) = f u m + sum_with f (u + 1) ms

total_with : (h : ℕ → ℕ) (f : ℕ → Node → ℕ) (u : ℕ) (ns : List Node)
    → ((k i : ℕ) → k ≡ u + i → i < length ns → f k (get_or ns i no_node) ≡ h k) → total h u + sum_with f u ns ≡ total h (u + length ns)
total_with h f u [] each = (let e : u + 0 ≡ u = omega arith in let z = ap (total h) e in omega arith)
total_with h f u (m ∷ ms) each =
    let here : f u m ≡ h u = each u 0 (omega arith) (omega arith) in
    let rest = total_with h f (u + 1) ms (λ k i e lt. each k (suc i) (omega arith) (omega arith)) in
    let s : u + 1 ≡ suc u = omega arith in
    let one : total h (u + 1) ≡ total h u + h u = ap (total h) s in
    let t : u + 1 + length ms ≡ u + suc (length ms) = omega arith in
    let end : total h (u + 1 + length ms) ≡ total h (u + suc (length ms)) = ap (total h) t in
    omega arith

items_with : (g : Item → ℕ) (u : ℕ) (ns : List Node) → sum_by g (items_from u ns) ≡ sum_with (λ k m. g (item_of_node k m)) u ns
items_with g u [] = refl
items_with g u (m ∷ ms) =
    sum_by-cons g (item_of_node u m) (items_from (u + 1) ms) ∙ ap (λ s. g (item_of_node u m) + s) (items_with g (u + 1) ms)

nodes_with : (h : Node → ℕ) (u : ℕ) (ns : List Node) → sum_by h ns ≡ sum_with (λ k m. h m) u ns
nodes_with h u [] = refl
nodes_with h u (m ∷ ms) = sum_by-cons h m ms ∙ ap (λ s. h m + s) (nodes_with h (u + 1) ms)

-- from 1 on, where nothing stands at 0
whole : (h : ℕ → ℕ) (f : ℕ → Node → ℕ) (nodes : List Node) → h 0 ≡ 0
    → ((k i : ℕ) → k ≡ i + 1 → i < length nodes → f k (get_or nodes i no_node) ≡ h k) → sum_with f 1 nodes ≡ total h (length nodes + 1)
whole h f nodes zero_is each =
    let t = total_with h f 1 nodes (λ k i e lt. each k i (omega arith) lt) in
    let s : 1 + length nodes ≡ length nodes + 1 = omega arith in
    let end : total h (1 + length nodes) ≡ total h (length nodes + 1) = ap (total h) s in
    omega arith

pub total_items : (h : ℕ → ℕ) (g : Item → ℕ) (nodes : List Node) → h 0 ≡ 0
    → ((k i : ℕ) → k ≡ i + 1 → i < length nodes → g (item_of_node k (get_or nodes i no_node)) ≡ h k)
    → sum_by g (items_from 1 nodes) ≡ total h (length nodes + 1)
total_items h g nodes zero_is each = items_with g 1 nodes ∙ whole h (λ k m. g (item_of_node k m)) nodes zero_is each

pub total_nodes : (h : ℕ → ℕ) (g : Node → ℕ) (nodes : List Node) → h 0 ≡ 0
    → ((k i : ℕ) → k ≡ i + 1 → i < length nodes → g (get_or nodes i no_node) ≡ h k) → sum_by g nodes ≡ total h (length nodes + 1)
total_nodes h g nodes zero_is each = nodes_with g 1 nodes ∙ whole h (λ k m. g m) nodes zero_is each

pub zero_bit : (b : Bool) (size : ℕ) → size ≡ 0 → bit b size ≡ 0
zero_bit true size e = e
zero_bit false size e = refl

-- ---- the memory of a state

present : (done : List ℕ) (k : ℕ) (m : Node) → (Member 0 done → ⊥)
    → size_if (is_present (stands_in done)) (item_of_node k m) ≡ bit (stands k done && not (stands m.parent done)) m.out
present done k m nz = go (eqb m.parent 0) refl
  where
    go : (b : Bool) → eqb m.parent 0 ≡ b
        → size_if (is_present (stands_in done)) (item_of_node k m) ≡ bit (stands k done && not (stands m.parent done)) m.out
    go true e =
        let z : stands m.parent done ≡ false = ap (λ v. stands v done) (eqb-true m.parent 0 e) ∙ no_stand 0 done nz in
        rw (e, z) refl
    go false e = rw e refl

pub state_link : (nodes : List Node) (done : List ℕ) → (Member 0 done → ⊥)
    → memory (length nodes + 1) (parent_of_node nodes) (out_at nodes) done ≡ state_memory (system_of_nodes nodes) (stands_in done)
state_link nodes done nz =
    sym (total_items (λ v. bit (stands v done && not (stands (parent_of_node nodes v) done)) (out_at nodes v))
    (size_if (is_present (stands_in done))) nodes (zero_bit (stands 0 done && not (stands 0 done)) 0 refl)
    (λ k i e lt. present done k (get_or nodes i no_node) nz
    ∙ ap₂ (λ p o. bit (stands k done && not (stands p done)) o) (sym (parent_at nodes k i e)) (sym (out_is nodes k i e))))

-- ---- the peak

module _ (nodes : List Node)
    (need_law : (v : ℕ) → tree.IsNode nodes v
    → need_of (system_of_nodes nodes) v ≡ (node_at nodes v).extra + (node_at nodes v).out - (node_at nodes v).share) where
  need_link : (v : ℕ) → tree.IsNode nodes v → need_of (system_of_nodes nodes) v ≡ need_at nodes v
  need_link zero node = absurd (let l = node.0 in omega arith)
  need_link (suc i) node = need_law (suc i) node

  pub peak_link : (done rest : List ℕ) → (Member 0 done → ⊥) → ((v : ℕ) → Member v rest → tree.IsNode nodes v)
      → peak_from (length nodes + 1) (parent_of_node nodes) (out_at nodes) (need_at nodes) done rest
      ≡ system.peak_from (system_of_nodes nodes) done rest
  peak_link done [] nz real = state_link nodes done nz
  peak_link done (v ∷ vs) nz real =
      let node = real v (inl refl) in
      let s = state_link nodes done nz in
      let w = need_link v node in
      let r = peak_link (done ++ v ∷ []) vs (λ m. elim (member_parts 0 done (v ∷ []) m) [
        | inl a ↦ nz a
        | inr b ↦ elim b [ inl e ↦ (let l = node.0 in omega arith) | inr z ↦ z ]
      ]) (λ u m. real u (inr m)) in
      rw (sym s, w, sym r) refl

-- ---- tasks that are ready

input_or : (done : ℕ → Bool) (v k : ℕ) (m : Node) → 1 ≤ v → m.parent ≡ v
    → (not (is_input v (item_of_node k m)) || is_produced done (item_of_node k m)) ≡ done k
input_or done v k m some e =
    let nz : eqb m.parent 0 ≡ false = ne_eqb m.parent 0 (omega arith) in
    let is : eqb m.parent v ≡ true = eq-eqb m.parent v e in
    rw (nz, is) refl

no_input : (done : ℕ → Bool) (v k : ℕ) (m : Node) → m.parent ≢ v
    → (not (is_input v (item_of_node k m)) || is_produced done (item_of_node k m)) ≡ true
no_input done v k m ne = go (eqb m.parent 0) refl
  where
    go : (b : Bool) → eqb m.parent 0 ≡ b → (not (is_input v (item_of_node k m)) || is_produced done (item_of_node k m)) ≡ true
    go true e = rw e refl
    go false e = rw (e, ne_eqb m.parent v ne) refl

abbrev is_supplied : (ℕ → Bool) → ℕ → Item → Bool
is_supplied done v item = not (is_input v item) || is_produced done item

ready_to : (done : ℕ → Bool) (v u : ℕ) (ns : List Node) → 1 ≤ v → list_all (is_supplied done v) (items_from u ns) ≡ true
    → (k i : ℕ) → k ≡ u + i → i < length ns → (get_or ns i no_node).parent ≡ v → done k ≡ true
ready_to done v u [] some all k i e lt up = absurd (omega arith)
ready_to done v u (m ∷ ms) some all k zero e lt up =
    let here = (both_true (is_supplied done v (item_of_node u m)) (list_all (is_supplied done v) (items_from (u + 1) ms)) all).0 in
    let s : k ≡ u = omega arith in
    ap done s ∙ sym (input_or done v u m some up) ∙ here
ready_to done v u (m ∷ ms) some all k (suc i) e lt up =
    ready_to done v (u + 1) ms some
    (both_true (is_supplied done v (item_of_node u m)) (list_all (is_supplied done v) (items_from (u + 1) ms)) all).1 k i
    (omega arith) (omega arith) up

ready_from : (done : ℕ → Bool) (v u : ℕ) (ns : List Node) → 1 ≤ v
    → ((k i : ℕ) → k ≡ u + i → i < length ns → (get_or ns i no_node).parent ≡ v → done k ≡ true)
    → list_all (is_supplied done v) (items_from u ns) ≡ true
ready_from done v u [] some each = refl
ready_from done v u (m ∷ ms) some each =
    let here : is_supplied done v (item_of_node u m) ≡ true = elim (cases_eq m.parent v) [
      | inl e ↦ input_or done v u m some e ∙ each u 0 (omega arith) (omega arith) e
      | inr ne ↦ no_input done v u m ne
    ] in
    rw here (ready_from done v (u + 1) ms some (λ k i e lt up. each k (suc i) (omega arith) (omega arith) up))

pub ready_children : (nodes : List Node) (done : ℕ → Bool) (v : ℕ) → 1 ≤ v → is_ready (system_of_nodes nodes) done v ≡ true
    → (w : ℕ) → tree.IsNode nodes w → parent_of_node nodes w ≡ v → done w ≡ true
ready_children nodes done v some ready w node up =
    let l = node.0 in
    let h = node.1 in
    ready_to done v 1 nodes some ready w (w - 1) (omega arith) (omega arith) (sym (parent_at nodes w (w - 1) (omega arith)) ∙ up)

pub children_ready : (nodes : List Node) (done : ℕ → Bool) (v : ℕ) → 1 ≤ v
    → ((w : ℕ) → tree.IsNode nodes w → parent_of_node nodes w ≡ v → done w ≡ true) → is_ready (system_of_nodes nodes) done v ≡ true
children_ready nodes done v some each =
    ready_from done v 1 nodes some (λ k i e lt up. each k (omega arith, omega arith) (parent_at nodes k i (omega arith) ∙ up))

-- ---- the tree is a forest

rooted : (nodes : List Node) (k v : ℕ) → ancestor nodes k v ≡ 0 → Rooted (parent_of_node nodes) v
rooted nodes zero v e = subst (λ u. Rooted (parent_of_node nodes) u) (sym (sym (ancestor-none nodes v) ∙ e)) top
rooted nodes (suc k) v e = elim (cases_eq v 0) [
  | inl z ↦ subst (λ u. Rooted (parent_of_node nodes) u) (sym z) top
  | inr ne ↦ raise (omega arith) (rooted nodes k (parent_of_node nodes v) (sym (ancestor-one nodes k v) ∙ e))
]

pub forest_of : (nodes : List Node) → IsTree nodes → IsForest (length nodes + 1) (parent_of_node nodes)
forest_of nodes t = record {
  some = omega arith;
  inside = λ x nx. (
      let a = nx.0 in
      let b = nx.1 in
      let w = (t.each (x - 1) no_node (omega arith)).parent in
      let e = parent_at nodes x (x - 1) (omega arith) in
      omega arith
      );
  rooted = λ x l. elim (cases_eq x 0) [
    | inl z ↦ subst (λ u. Rooted (parent_of_node nodes) u) (sym z) top
    | inr ne ↦ rooted nodes (length nodes) x (t.roots x (omega arith, omega arith))
  ];
}

-- ---- sizes

-- the size of a node, its extra included; there is none above the roots
abbrev pub size_at : List Node → ℕ → ℕ
size_at nodes zero = 0
size_at nodes (suc i) = node_size (node_at nodes (suc i))

size_is : (nodes : List Node) (k i : ℕ) → k ≡ i + 1 → size_at nodes k ≡ node_size (get_or nodes i no_node)
size_is nodes zero i e = absurd (omega arith)
size_is nodes (suc j) i e = ap node_size (node_is nodes (suc j) i e)

pub total_size : (nodes : List Node) → IsTree nodes → total (size_at nodes) (length nodes + 1) ≤ most_total
total_size nodes t =
    let e = total_nodes (size_at nodes) node_size nodes refl (λ k i e lt. sym (size_is nodes k i e)) in
    let b = t.total in
    omega arith

pub out-le-size : (nodes : List Node) (x : ℕ) → out_at nodes x ≤ size_at nodes x
out-le-size nodes zero = omega arith
out-le-size nodes (suc i) = omega arith

pub need-le-size : (nodes : List Node) (x : ℕ) → need_at nodes x ≤ size_at nodes x
need-le-size nodes zero = omega arith
need-le-size nodes (suc i) = omega arith

pub size-past : (nodes : List Node) (x : ℕ) → length nodes < x → size_at nodes x ≡ 0
size-past nodes x past = size_is nodes x (x - 1) (omega arith) ∙ ap node_size (get_or_past nodes (x - 1) no_node (omega arith))

pub total_children : (nodes : List Node) (x : ℕ)
    → children_out nodes x ≡ total (λ w. bit (eqb x (parent_of_node nodes w)) (out_at nodes w)) (length nodes + 1)
total_children nodes x =
    total_nodes (λ w. bit (eqb x (parent_of_node nodes w)) (out_at nodes w)) (out_below x) nodes (zero_bit (eqb x 0) 0 refl)
    (λ k i e lt. below (get_or nodes i no_node) ∙ ap₂ (λ p o. bit (eqb x p) o) (sym (parent_at nodes k i e)) (sym (out_is nodes k i e)))
  where
    below : (m : Node) → out_below x m ≡ bit (eqb x m.parent) m.out
    below m = elim (cases_eq m.parent x) [
      | inl e ↦ rw (eq-eqb m.parent x e, eq-eqb x m.parent (sym e)) refl
      | inr ne ↦ rw (ne_eqb m.parent x ne, ne_eqb x m.parent (λ q. ne (sym q))) refl
    ]
