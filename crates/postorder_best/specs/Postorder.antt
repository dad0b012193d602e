-- Postorders of a tree: traversals of its system in which the tasks of each subtree stand together (Liu 1986, On the storage
-- requirement in the out-of-core multifrontal method).
use Rattle.std.specs.Prelude.{◌≡◌, ◌⊎◌, ◌↔◌, ℕ, ◌<◌, List, [], ◌∷◌, ◌++◌}
use Rattle.mp_system.specs.Traversal.{IsTraversal}
use Rattle.trees.specs.declared.node.Node.{Node}
use Rattle.trees.specs.Tree.{IsNode, parent_of_node, system_of_nodes}

-- x stands in the list
abbrev pub Member : ℕ → List ℕ → Type 0
Member x [] = ⊥
Member x (y ∷ ys) = (x ≡ y) ⊎ Member x ys

-- y is x, or the parent of y is in the subtree of x: y is in the subtree of x
pub data IsUnder (parent : ℕ → ℕ) : ℕ → ℕ → Type 0 where
  self : {x : ℕ} → IsUnder parent x x
  step : {y x : ℕ} → 0 < y → IsUnder parent (parent y) x → IsUnder parent y x

-- the subtree of x stands together: the order is cut into three, and the part in the middle has the nodes of the subtree
pub record StandsTogether (parent : ℕ → ℕ) (order : List ℕ) (x : ℕ) : Type 0 where
  pub before : List ℕ
  pub block : List ℕ
  pub after : List ℕ
  pub parts : order ≡ before ++ (block ++ after)
  pub exact : (y : ℕ) → Member y block ↔ (Member y order × IsUnder parent y x)

-- a postorder of the tree
pub record IsTreePostorder (nodes : List Node) (order : List ℕ) : Type 0 where
  pub traversal : IsTraversal (system_of_nodes nodes) order
  pub together : (x : ℕ) → IsNode nodes x → StandsTogether (parent_of_node nodes) order x
