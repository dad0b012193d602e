-- Postorders of an elimination tree: the columns of each subtree stand together, its root last.
use Rattle.std.specs.Prelude.{◌≡◌, ◌≢◌, ℕ, ◌<◌, ◌≤◌, Bool, List, length, map}
use Rattle.permutations.specs.Perm.{IsPerm, IsVertex, vertex_at, place_of}
use Rattle.ordering.specs.Fill.{renumbered, parents_of}
use Rattle.elim_tree.specs.Trees.{parent_at, IsAbove}

-- a comes before b: it is below b, or the ways up from a and b come to two children of one column, or to two roots, the lesser from a
pub data Precedes (parents : List ℕ) : ℕ → ℕ → Type 0 where
  below : {a b : ℕ} → IsAbove parents a b → a ≢ b → Precedes parents a b
  beside : {a b c d : ℕ} → IsAbove parents a c → IsAbove parents b d → c < d → parent_at parents c ≡ parent_at parents d
      → Precedes parents a b

-- the postorder in which roots, and the children of a column, come by rising number
pub record IsPostorder (parents order : List ℕ) : Type 0 where
  pub perm : IsPerm (length parents) order
  pub before : (a b : ℕ) → IsVertex (length parents) a → IsVertex (length parents) b → Precedes parents a b
      → place_of order a < place_of order b

-- the columns are numbered in postorder: whoever stands between a column and one above it is below that one too
abbrev pub IsNumberedInPostorder : List ℕ → Type 0
IsNumberedInPostorder parents = (a b x : ℕ) → IsAbove parents a x → a ≤ b → b ≤ x → IsAbove parents b x

-- the new order of elimination is the old one along the postorder of its elimination tree
pub record IsPostordered (joined : ℕ → ℕ → Bool) (old new : List ℕ) : Type 0 where
  pub post : List ℕ
  pub postorder : IsPostorder (parents_of (renumbered joined old) (length old)) post
  pub along : new ≡ map (vertex_at old) post
