-- The best postorder is a postorder, its peak is that of its rows, and no postorder has a lower one.
use Rattle.std.proofs.Common.{◌≡◌, ◌∙◌, ◌⊎◌, ◌↔◌, inl, inr, sym, ap, ℕ, zero, suc, ◌+◌, ◌-◌, ◌<◌, ◌≤◌, List, [], ◌∷◌, length, arith, refl}
use Rattle.mp_system.specs.System.{need_of}
use Rattle.mp_system.specs.Memory.{peak_of}
use Rattle.trees.specs.declared.node.Node.{Node}
use Rattle.trees.specs.Tree as tree
use Rattle.trees.specs.Tree.{IsTree, node_at, parent_of_node, children_out, system_of_nodes}
use Rattle.postorder_best.specs.Postorder.{Member}
use Rattle.postorder_best.specs.BestPostorder as best
use Rattle.postorder_best.specs.BestPostorder.{out_at, need_at, subtrees_of, ComesBefore, ComesBeforeAll}
use Rattle.postorder_best.specs.BestPostorder.{IsBestRow, Listed, ListedAll, IsBestPostorder}
use Rattle.postorder_best.specs.Rows.{Once, IsBest, sum_out}
use Rattle.postorder_best.proofs.Forest.{IsNode, IsBestAt, IsFalling, LeadsAll, IsPostorder, peak_from}
use Rattle.postorder_best.proofs.Least.{sum_children}
use Rattle.postorder_best.proofs.BestPeak.{row_above, best_theorem, alone_peak}
use Rattle.postorder_best.proofs.Listings.{one_members, pos_under}
use Rattle.postorder_best.proofs.TreeLinks.{forest_of, total_children, peak_link}
use Rattle.postorder_best.proofs.OrderLinks.{inner, outer, to_public, from_public, member_node}

-- ---- rows

not_before : (peak out : ℕ → ℕ) (a b : ℕ) → a ≡ b → ComesBefore peak out a b → ⊥
not_before peak out a b e (inl l) = let s : peak a - out a ≡ peak b - out b = ap (λ c. peak c - out c) e in absurd (omega arith)
not_before peak out a b e (inr w) = let l = w.1 in absurd (omega arith)

not_among : (peak out : ℕ → ℕ) (a : ℕ) (cs : List ℕ) → ComesBeforeAll peak out a cs → Member a cs → ⊥
not_among peak out a [] h m = m
not_among peak out a (c ∷ cs) h (inl e) = not_before peak out a c e h.0
not_among peak out a (c ∷ cs) h (inr m) = not_among peak out a cs h.1 m

pub best_once : (peak out : ℕ → ℕ) (cs : List ℕ) → IsBestRow peak out cs → Once cs
best_once peak out [] h = tt
best_once peak out (c ∷ cs) h = (not_among peak out c cs h.0, best_once peak out cs h.1)

precedes : (p o q r : ℕ) (rest : Type 0) → o ≤ p → r ≤ q → (q - r < p - o) ⊎ ((p - o ≡ q - r) × rest) → q + o ≤ p + r
precedes p o q r rest lp lq (inl l) = omega arith
precedes p o q r rest lp lq (inr w) = let e = w.0 in omega arith

leads : (peak out : ℕ → ℕ) (a : ℕ) (cs : List ℕ) → out a ≤ peak a → ((c : ℕ) → Member c cs → out c ≤ peak c)
    → ComesBeforeAll peak out a cs → LeadsAll (record { peak = peak a; out = out a }) (subtrees_of peak out cs)
leads peak out a [] la low h = tt
leads peak out a (c ∷ cs) la low h =
    (precedes (peak a) (out a) (peak c) (out c) (a < c) la (low c (inl refl)) h.0, leads peak out a cs la (λ d m. low d (inr m)) h.1)

falls : (peak out : ℕ → ℕ) (cs : List ℕ) → ((c : ℕ) → Member c cs → out c ≤ peak c)
    → IsBestRow peak out cs → IsFalling (subtrees_of peak out cs)
falls peak out [] low h = tt
falls peak out (c ∷ cs) low h =
    (leads peak out c cs (low c (inl refl)) (λ d m. low d (inr m)) h.0, falls peak out cs (λ d m. low d (inr m)) h.1)

-- ---- what a node leaves

fits : (a b c d s : ℕ) → s ≤ c → s ≤ a + b → d ≡ a + b - s → b ≤ d + c
fits a b c d s l h e = omega arith

-- a node leaves no more than it needs together with the blocks of its children
pub node_covered : (nodes : List Node) → IsTree nodes → (x : ℕ) (row : List ℕ) → tree.IsNode nodes x
    → Once row → ((c : ℕ) → Member c row ↔ (IsNode (length nodes + 1) c × (parent_of_node nodes c ≡ x)))
    → out_at nodes x ≤ need_at nodes x + sum_out (out_at nodes) row
node_covered nodes t zero row node once exact = absurd (let l = node.0 in omega arith)
node_covered nodes t (suc i) row node once exact =
    let s = sum_children (length nodes + 1) (parent_of_node nodes) (out_at nodes) (suc i) row refl once exact in
    let c = total_children nodes (suc i) in
    let share = t.shares (suc i) node in
    let f = fits (node_at nodes (suc i)).extra (node_at nodes (suc i)).out (children_out nodes (suc i))
    (need_at nodes (suc i)) (node_at nodes (suc i)).share share.0 share.1 refl in
    omega arith

-- ---- the theorem

abbrev pub NeedLaw : List Node → Type 0
NeedLaw nodes = (v : ℕ) → tree.IsNode nodes v
    → need_of (system_of_nodes nodes) v ≡ (node_at nodes v).extra + (node_at nodes v).out - (node_at nodes v).share

module _ (nodes : List Node) (tree_is : IsTree nodes) (peak : ℕ → ℕ) (row : ℕ → List ℕ)
    (each : (x : ℕ) → x ≤ length nodes → best.IsBestAt nodes peak row x) where
  once : (x : ℕ) → x ≤ length nodes → Once (row x)
  once x le = best_once peak (out_at nodes) (row x) (each x le).in_order

  exact : (x : ℕ) → x ≤ length nodes → (c : ℕ) → Member c (row x) ↔ (IsNode (length nodes + 1) c × (parent_of_node nodes c ≡ x))
  exact x le c =
      let b = (each x le).children c in (
        (λ m. let h = b.0 m in (inner nodes c h.0, h.1)),
        (λ h. b.1 (outer nodes c h.0, h.1)),
      )

  -- the peak of a subtree is no less than what its root leaves
  covered : (x : ℕ) → tree.IsNode nodes x → out_at nodes x ≤ peak x
  covered x node =
      let le = node.1 in
      let b = (each x le).reaches in
      let above = row_above (need_at nodes x) peak (out_at nodes) (row x) in
      let low = node_covered nodes tree_is x (row x) node (once x le) (exact x le) in
      omega arith

  pub best_at : (x : ℕ) → x < length nodes + 1
      → IsBestAt (length nodes + 1) (parent_of_node nodes) (out_at nodes) (need_at nodes) peak row x
  best_at x l =
      let le : x ≤ length nodes = omega arith in
      let b = each x le in
      record {
        once = once x le;
        exact = exact x le;
        falling = falls peak (out_at nodes) (row x) (λ c m. let h = (b.children c).0 m in covered c h.0) b.in_order;
        peak = b.reaches;
      }

  module _ (need_law : NeedLaw nodes) (order : List ℕ) (listed : ListedAll row (row 0) order) where
    linked : (other : List ℕ) → IsPostorder (length nodes + 1) (parent_of_node nodes) other
        → peak_from (length nodes + 1) (parent_of_node nodes) (out_at nodes) (need_at nodes) [] other
        ≡ peak_of (system_of_nodes nodes) other
    linked other p = peak_link nodes need_law [] other (λ m. m) (member_node nodes other p.traversal)

    pub is_best : IsBest nodes order (peak 0)
    is_best =
        let t = best_theorem (length nodes + 1) (parent_of_node nodes) (out_at nodes)
        (need_at nodes) peak row (forest_of nodes tree_is) refl best_at order refl listed in
        record {
          best = record { peak = peak; row = row; each = each; listed = listed };
          postorder = to_public nodes order t.0;
          peak_is = sym t.1 ∙ linked order t.0;
          least = λ other p. (let f = from_public nodes other p in let l = t.2 other f in let s = linked other f in omega arith);
        }

  -- a subtree that runs alone, as the rows list it, has its peak
  pub subtree_peak : NeedLaw nodes → (x : ℕ) (o : List ℕ) → tree.IsNode nodes x
      → Listed row x o → peak x ≡ peak_of (system_of_nodes nodes) o
  subtree_peak need_law x o real listed =
      let nx = inner nodes x real in
      let is = alone_peak (length nodes + 1) (parent_of_node nodes) (out_at nodes)
      (need_at nodes) peak row (forest_of nodes tree_is) refl best_at x o nx (covered x real) listed in
      let linked_o = peak_link nodes need_law [] o (λ m. m) (λ v m.
      let h = (one_members (length nodes + 1) (parent_of_node nodes) row (forest_of nodes tree_is)
      (λ y l. exact y (omega arith)) (λ y l. once y (omega arith)) x o listed nx.1 v).0 m in
      outer nodes v (pos_under h.1 nx.0, h.0)) in
      sym is ∙ linked_o

pub best_law : (nodes : List Node) (order : List ℕ) → IsTree nodes → NeedLaw nodes
    → (b : IsBestPostorder nodes order) → IsBest nodes order (b.peak 0)
best_law nodes order t law b = is_best nodes t b.peak b.row b.each law order b.listed
