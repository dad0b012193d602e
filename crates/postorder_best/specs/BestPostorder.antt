-- The best postorder of a tree (Liu 1986, On the storage requirement in the out-of-core multifrontal method): the children of each
-- node, and the roots, by falling peak minus out, a tie to the lower number.
use Rattle.std.specs.Prelude.{◌≡◌, ◌⊎◌, ◌↔◌, ℕ, zero, suc, ◌+◌, ◌-◌, ◌<◌, ◌≤◌, max, List, [], ◌∷◌, ◌++◌, length, map}
use Rattle.trees.specs.declared.node.Node.{Node}
use Rattle.trees.specs.Tree.{IsNode, node_at, parent_of_node}
use Rattle.postorder_best.specs.Postorder.{Member}

-- the block that a node leaves; the place 0 above the roots leaves none
abbrev pub out_at : List Node → ℕ → ℕ
out_at nodes zero = 0
out_at nodes (suc i) = (node_at nodes (suc i)).out

-- what a node needs while it runs, beside the blocks of its children
abbrev pub need_at : List Node → ℕ → ℕ
need_at nodes zero = 0
need_at nodes (suc i) = (node_at nodes (suc i)).extra + (node_at nodes (suc i)).out - (node_at nodes (suc i)).share

-- a subtree: its peak when it runs alone, and what its root leaves
pub record Child : Type 0 where
  pub peak : ℕ
  pub out : ℕ

-- the peak of subtrees that run one after the other, with `need` on top of all that they leave at the end
abbrev pub children_peak : ℕ → List Child → ℕ
children_peak need [] = need
children_peak need (c ∷ cs) = max (c.peak) (c.out + children_peak need cs)

-- the subtrees of these children
abbrev pub subtrees_of : (ℕ → ℕ) → (ℕ → ℕ) → List ℕ → List Child
subtrees_of peak out = map (λ c. record { peak = peak c; out = out c })

-- a comes before b: its peak minus its out is greater, or as great and its number is lower
abbrev pub ComesBefore : (ℕ → ℕ) → (ℕ → ℕ) → ℕ → ℕ → Type 0
ComesBefore peak out a b = (peak b - out b < peak a - out a) ⊎ ((peak a - out a ≡ peak b - out b) × (a < b))

-- a comes before each of the list
abbrev pub ComesBeforeAll : (ℕ → ℕ) → (ℕ → ℕ) → ℕ → List ℕ → Type 0
ComesBeforeAll peak out a [] = Unit {0}
ComesBeforeAll peak out a (b ∷ bs) = ComesBefore peak out a b × ComesBeforeAll peak out a bs

-- each of the list comes before those that stand after it
abbrev pub IsBestRow : (ℕ → ℕ) → (ℕ → ℕ) → List ℕ → Type 0
IsBestRow peak out [] = Unit {0}
IsBestRow peak out (a ∷ cs) = ComesBeforeAll peak out a cs × IsBestRow peak out cs

-- row x has the children of x in the best order, those of 0 being the roots, and peak x is the peak of their subtrees in that order and of
-- x after them
pub record IsBestAt (nodes : List Node) (peak : ℕ → ℕ) (row : ℕ → List ℕ) (x : ℕ) : Type 0 where
  pub children : (c : ℕ) → Member c (row x) ↔ (IsNode nodes c × (parent_of_node nodes c ≡ x))
  pub in_order : IsBestRow peak (out_at nodes) (row x)
  pub reaches : peak x ≡ children_peak (need_at nodes x) (subtrees_of peak (out_at nodes) (row x))

-- what rows of children list: the subtree of each in turn, and after its children a node
mutual
  pub data Listed (row : ℕ → List ℕ) : ℕ → List ℕ → Type 0 where
    node : {x : ℕ} {o : List ℕ} → ListedAll row (row x) o → Listed row x (o ++ x ∷ [])

  pub data ListedAll (row : ℕ → List ℕ) : List ℕ → List ℕ → Type 0 where
    none : ListedAll row [] []
    more : {c : ℕ} {cs o os : List ℕ} → Listed row c o → ListedAll row cs os → ListedAll row (c ∷ cs) (o ++ os)

-- the best postorder: the roots' subtrees as the best rows list them
pub record IsBestPostorder (nodes : List Node) (order : List ℕ) : Type 0 where
  pub peak : ℕ → ℕ
  pub row : ℕ → List ℕ
  pub each : (x : ℕ) → x ≤ length nodes → IsBestAt nodes peak row x
  pub listed : ListedAll row (row 0) order
