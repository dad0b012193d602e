-- No public clause names this.
-- The forest of the columns so far, as it grows: what holds of the two tables in which it is kept.
use Rattle.std.specs.Prelude.{◌≡◌, ◌⊎◌, ℕ, ◌<◌, ◌≤◌, Bool, List, length, slice_index}
use Rattle.ordering.specs.Fill.{IsAdjacency}
use Rattle.permutations.specs.Perm.{place_of}
use Rattle.elim_tree.specs.Reaches.{Reaches, IsFirstReached}

-- a pattern, and the root of each column in the forest so far
pub record Rooted : Type 0 where
  pub joined : ℕ → ℕ → Bool
  pub root : ℕ → ℕ

-- beyond a, x reaches only what a reaches
abbrev pub Covers : (ℕ → ℕ → Bool) → ℕ → ℕ → Type 0
Covers joined x a = (m : ℕ) → a < m → Reaches joined x m → Reaches joined a m

-- the forest of the columns below k, while column k takes its children
pub record IsGrown (joined : ℕ → ℕ → Bool) (k : ℕ) (root parent ancestor : ℕ → ℕ) : Type 0 where
  -- a root reaches none of the columns so far
  pub bare : (x : ℕ) → x < k → parent x ≡ 0 → (root x ≡ x) × (ancestor x ≡ 0) × ((i : ℕ) → i < k → ¬ (Reaches joined x i))
  -- whoever has a parent has the right one
  pub tied : (x : ℕ) → x < k → 0 < parent x
      → IsFirstReached joined x (parent x) × (parent x ≤ k) × (root x ≡ root (parent x)) × (0 < ancestor x)
  -- an ancestor stands in the same tree, and reaches what is reached past it
  pub ancestors : (x : ℕ) → x < k → 0 < ancestor x
      → (x < ancestor x) × (ancestor x ≤ k) × Covers joined x (ancestor x) × (root x ≡ root (ancestor x))
  -- of the other columns nothing is known
  pub fresh : (x : ℕ) → k ≤ x → (parent x ≡ 0) × (ancestor x ≡ 0) × (root x ≡ x)

-- the same on the way from `start` to its root, at c: whoever was passed has k for its ancestor already
pub record IsOnWay (joined : ℕ → ℕ → Bool) (k start c : ℕ) (root parent ancestor : ℕ → ℕ) : Type 0 where
  pub below : c < k
  pub reach : Reaches joined c k
  pub same : root c ≡ root start
  pub bare : (x : ℕ) → x < k → parent x ≡ 0 → (root x ≡ x) × (ancestor x ≡ 0) × ((i : ℕ) → i < k → ¬ (Reaches joined x i))
  pub tied : (x : ℕ) → x < k → 0 < parent x
      → IsFirstReached joined x (parent x) × (parent x ≤ k) × (root x ≡ root (parent x)) × (0 < ancestor x)
  pub ancestors : (x : ℕ) → x < k → 0 < ancestor x → (x < ancestor x) × (ancestor x ≤ k) × Covers joined x (ancestor x)
      × ((root x ≡ root (ancestor x)) ⊎ ((x < c) × (ancestor x ≡ k) × (root x ≡ root start)))
  pub fresh : (x : ℕ) → k ≤ x → (parent x ≡ 0) × (ancestor x ≡ 0) × (root x ≡ x)

-- the tree of `start` may be put under k
abbrev pub CanLink : Rooted → ℕ → ℕ → List ℕ → List ℕ → Type 0
CanLink forest k start parents ancestors =
    IsAdjacency forest.joined × (start < k) × Reaches forest.joined start k
    × IsGrown forest.joined k forest.root (slice_index parents) (slice_index ancestors)

-- it is under k, and whoever was there is still there
abbrev pub IsLinked : Rooted → ℕ → ℕ → List ℕ → List ℕ → Type 0
IsLinked forest k start parents ancestors =
    (root : ℕ → ℕ) × IsGrown forest.joined k root (slice_index parents) (slice_index ancestors) × (root start ≡ k)
    × ((x : ℕ) → forest.root x ≡ k → root x ≡ k)

-- the column of the j-th vertex of a row
abbrev pub column_in : List ℕ → List ℕ → ℕ → ℕ
column_in row order j = place_of order (slice_index row j)

-- the trees of the earlier columns of a row may be put under k
abbrev pub CanTake : Rooted → ℕ → List ℕ → List ℕ → List ℕ → List ℕ → Type 0
CanTake forest k row order parents ancestors =
    IsAdjacency forest.joined
    × ((j : ℕ) → j < length row → column_in row order j < k → Reaches forest.joined (column_in row order j) k)
    × IsGrown forest.joined k forest.root (slice_index parents) (slice_index ancestors)

-- those of the first n of the row are under k
abbrev pub IsTaken : Rooted → ℕ → List ℕ → List ℕ → ℕ → List ℕ → List ℕ → Type 0
IsTaken forest k row order n parents ancestors =
    (root : ℕ → ℕ) × IsGrown forest.joined k root (slice_index parents) (slice_index ancestors)
    × ((j : ℕ) → j < n → column_in row order j < k → root (column_in row order j) ≡ k)

-- the vertices of a row are their own columns
abbrev pub IsInTurn : List ℕ → List ℕ → Type 0
IsInTurn row order = (j : ℕ) → j < length row → column_in row order j ≡ slice_index row j
