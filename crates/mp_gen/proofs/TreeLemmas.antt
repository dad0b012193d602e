-- What is drawn as a tree is one: each parent comes after its node.
use Rattle.std.proofs.Common.{◌≡◌, ℕ, zero, suc, ◌+◌, ◌-◌, ◌<◌, ◌≤◌, ◌⊎◌, inl, inr, Bool, true, false, cond, lit<, List}
use Rattle.std.proofs.Common.{[], ◌∷◌, ◌++◌, length, get_or, refl, sym, ap, subst, ◌∙◌, arith, length-append}
use Rattle.std.specs.Prelude.{min, nat_lt}
use Rattle.std.proofs.Math.ListN.{get_or-append}
use Rattle.std.proofs.Math.Seq.{get_or-append_seam}
use Rattle.std.proofs.lemmas.Bool.{cases_eq, ltb-true}
use Rattle.std.proofs.lemmas.List.Sums.{sum_by-le}
use Rattle.limits.specs.Limits.{most_tasks}
use Rattle.rand_pcg.specs.Lcg.{Lcg}
use Rattle.trees.specs.declared.node.Node.{Node}
use Rattle.trees.specs.Tree.{IsTree, ancestor, parent_of_node, node_size}
use Rattle.mp_gen.specs.Dice.{dice_of, draw}
use Rattle.mp_gen.specs.RandomTree.{draw_parent, draw_node, draw_nodes, tree_of}
use Rattle.mp_gen.proofs.DrawLemmas.{draw-below}

-- none, or a node after this one
abbrev pub IsLater : ℕ → ℕ → ℕ → Type 0
IsLater n i parent = (parent ≡ 0) ⊎ ((i < parent) × (parent ≤ n))

-- what is drawn as node i of n
pub record IsDrawn (n i : ℕ) (node : Node) : Type 0 where
  pub parent : IsLater n i node.parent
  pub out : node.out ≤ 1000
  pub extra : node.extra ≤ 999
  pub share : node.share ≡ 0
  pub time : (1 ≤ node.time) × (node.time ≤ 16)

parent-drawn : (n i : ℕ) (dice : Lcg) → IsLater n i (draw_parent n i dice).0
unfolding draw_parent
parent-drawn n i dice = go (nat_lt i n) refl
  where
    go : (b : Bool) → nat_lt i n ≡ b
        → let steps : ℕ × Lcg = draw (min (n - i) 8) dice in
        let p : ℕ × Lcg = cond b (i + 1 + steps.0, steps.1) (0, dice) in
        IsLater n i p.0
    go true e =
        let lt = ltb-true i n e in
        let below = draw-below (min (n - i) 8) dice (omega arith) in
        inr (omega arith, omega arith)
    go false e = inl refl

node-drawn : (n i : ℕ) (dice : Lcg) → IsDrawn n i (draw_node n i dice).0
unfolding draw_node
node-drawn n i dice =
    let one = (draw_parent n i dice).1 in
    let two = (draw 1000 one).1 in
    let three = (draw 1000 two).1 in
    record {
      parent = parent-drawn n i dice;
      out = omega (arith, draw-below 1000 one (lit< tt));
      extra = omega (arith, draw-below 1000 two (lit< tt));
      share = refl;
      time = (omega arith, omega (arith, draw-below 16 three (lit< tt)));
    }

-- what is drawn as the first i nodes of n
pub record AreDrawn (n i : ℕ) (nodes : List Node) : Type 0 where
  pub len : length nodes ≡ i
  pub each : (k : ℕ) (d : Node) → k < length nodes → IsDrawn n (k + 1) (get_or nodes k d)

one-more : (n i : ℕ) (nodes : List Node) (node : Node) → AreDrawn n i nodes → IsDrawn n (suc i) node
    → AreDrawn n (suc i) (nodes ++ node ∷ [])
one-more n i nodes node before own = record {
  len = length-append nodes (node ∷ []) ∙ omega (arith, before.len);
  each = λ k d lt. elim (cases_eq k (length nodes)) [
    | inl same ↦ (
        let at : suc i ≡ k + 1 = omega (arith, before.len, same) in
        let read : get_or (nodes ++ node ∷ []) k d ≡ node
        = ap (λ (m : ℕ). get_or (nodes ++ node ∷ []) m d) same ∙ get_or-append_seam nodes node [] d in
        subst (IsDrawn n (k + 1)) (sym read) (subst (λ (m : ℕ). IsDrawn n m node) at own)
        )
    | inr other ↦ (
        let low : k < length nodes = omega (arith, length-append nodes (node ∷ [])) in
        subst (IsDrawn n (k + 1)) (sym (get_or-append nodes (node ∷ []) d k low)) (before.each k d low)
        )
  ];
}

nodes-drawn : (n i : ℕ) (dice : Lcg) → AreDrawn n i (draw_nodes n i dice).0
unfolding draw_nodes
nodes-drawn n zero dice = record { len = refl; each = λ k d lt. absurd (omega arith) }
nodes-drawn n (suc i) dice =
    one-more n i (draw_nodes n i dice).0 _ (nodes-drawn n i dice) (node-drawn n (suc i) (draw_nodes n i dice).1)

abbrev blank : Node
blank = record { parent = 0; out = 0; extra = 0; share = 0; time = 0 }

module _ (n : ℕ) (nodes : List Node) (h : AreDrawn n n nodes) where
  -- each step up passes a node
  climbs : (k v : ℕ) → v ≤ n → (v ≡ 0) ⊎ (n < v + k) → ancestor nodes k v ≡ 0
  unfolding ancestor
  climbs zero v le (inl e) = e
  climbs zero v le (inr lt) = absurd (omega arith)
  climbs (suc k) zero le o = climbs k 0 le (inl refl)
  climbs (suc k) (suc i) le (inl e) = absurd (omega arith)
  climbs (suc k) (suc i) le (inr lt) =
      let at : suc i - 1 ≡ i = omega arith in
      let same : parent_of_node nodes (suc i) ≡ (get_or nodes i blank).parent = ap (λ (m : ℕ). (get_or nodes m blank).parent) at in
      elim (h.each i blank (omega (arith, h.len))).parent [
        | inl none ↦ climbs k (parent_of_node nodes (suc i)) (omega (arith, same, none)) (inl (same ∙ none))
        | inr later ↦ climbs k (parent_of_node nodes (suc i)) (omega (arith, same, later.1)) (inr (omega (arith, same, later.0)))
      ]

  pub drawn-tree : 1 ≤ n → n ≤ most_tasks → IsTree nodes
  drawn-tree some few = record {
    some = omega (arith, h.len);
    few = omega (arith, h.len);
    each = λ k d lt. let own = h.each k d lt in record {
      parent = within own.parent;
      out = omega (arith, own.out);
      extra = omega (arith, own.extra);
      time = (own.time.0, omega (arith, own.time.1));
    };
    total = omega (arith, h.len, sum_by-le node_size 1999 nodes (λ k d lt. let own = h.each k d lt in omega (arith, own.out, own.extra)));
    roots = λ v is. climbs (length nodes) v (omega (arith, is.1, h.len)) (inr (omega (arith, is.0, h.len)));
    shares = λ v is. let own = (h.each (v - 1) blank (omega (arith, is.0, is.1))).share in (omega (arith, own), omega (arith, own));
  } where
    within : {i parent : ℕ} → IsLater n i parent → parent ≤ length nodes
    within (inl none) = omega (arith, none)
    within (inr later) = omega (arith, later.1, h.len)

pub tree_of-tree : (seed n : ℕ) → 1 ≤ n → n ≤ most_tasks → IsTree (tree_of seed n)
unfolding tree_of
tree_of-tree seed n some few = drawn-tree n _ (nodes-drawn n n (dice_of seed)) some few

-- ---- the loop over the nodes

-- one node further
pub nodes-more : (n i : ℕ) (start : Lcg) (nodes : List Node) (dice : Lcg) (node : Node) (left : Lcg) (all : List Node)
    → nodes ≡ (draw_nodes n i start).0 → dice ≡ (draw_nodes n i start).1
    → (node, left) ≡ draw_node n (i + 1) dice → all ≡ nodes ++ node ∷ []
    → (all ≡ (draw_nodes n (i + 1) start).0) × (left ≡ (draw_nodes n (i + 1) start).1)
unfolding draw_nodes
nodes-more n i start nodes dice node left all before after own more =
    let next : i + 1 ≡ suc i = omega arith in
    let drawn : (node, left) ≡ draw_node n (suc i) (draw_nodes n i start).1 = own ∙ (λ k. draw_node n (next k) (after k)) in
    let here = ap (λ (k : ℕ). draw_nodes n k start) (sym next) in
    (more ∙ (λ k. before k ++ (drawn k).0 ∷ []) ∙ (λ k. (here k).0), (λ k. (drawn k).1) ∙ (λ k. (here k).1))

-- after the last node
pub all-nodes : (seed n i : ℕ) (nodes : List Node) → n ≤ i → i ≤ n → nodes ≡ (draw_nodes n i (dice_of seed)).0 → nodes ≡ tree_of seed n
unfolding tree_of
all-nodes seed n i nodes low high e = let end : i ≡ n = omega arith in e ∙ ap (λ (k : ℕ). (draw_nodes n k (dice_of seed)).0) end
