-- Forests by functions of numbers, where 0 stands above the roots: their postorders, the memory along them, and rows of children.
use Rattle.std.specs.Prelude.{◌≡◌, ◌↔◌, ℕ, zero, suc, ◌+◌, ◌<◌, ◌≤◌, max, Bool, ◌&&◌, not, nat_eq}
use Rattle.std.specs.Prelude.{if◌then◌else◌, List, [], ◌∷◌, ◌++◌, length, slice_index}
use Rattle.std.specs.List.{list_any}
use Rattle.postorder_best.specs.Postorder.{Member, StandsTogether}
use Rattle.postorder_best.specs.BestPostorder.{Child, children_peak, subtrees_of}
use Rattle.postorder_best.specs.Rows.{Once}

-- the nodes have the numbers from 1 to n - 1
abbrev pub IsNode : ℕ → ℕ → Type 0
IsNode n x = (0 < x) × (x < n)

-- each node once, children before their parent
pub record IsTraversal (n : ℕ) (parent : ℕ → ℕ) (order : List ℕ) : Type 0 where
  pub once : Once order
  pub all : (x : ℕ) → IsNode n x ↔ Member x order
  pub early : (i j : ℕ) → i < length order → j < length order → parent (slice_index order i) ≡ slice_index order j → i < j

pub record IsPostorder (n : ℕ) (parent : ℕ → ℕ) (order : List ℕ) : Type 0 where
  pub traversal : IsTraversal n parent order
  pub together : (x : ℕ) → IsNode n x → StandsTogether parent order x

-- each parent is a node or 0, and leads to 0
pub data Rooted (parent : ℕ → ℕ) : ℕ → Type 0 where
  top : Rooted parent 0
  raise : {x : ℕ} → 0 < x → Rooted parent (parent x) → Rooted parent x

pub record IsForest (n : ℕ) (parent : ℕ → ℕ) : Type 0 where
  pub some : 0 < n
  pub inside : (x : ℕ) → IsNode n x → parent x < n
  pub rooted : (x : ℕ) → x < n → Rooted parent x

-- a may come before b: its peak minus its out is no less
abbrev pub MayPrecede : Child → Child → Type 0
MayPrecede a b = b.peak + a.out ≤ a.peak + b.out

-- all of the list may come after a
abbrev pub LeadsAll : Child → List Child → Type 0
LeadsAll a [] = Unit {0}
LeadsAll a (b ∷ bs) = MayPrecede a b × LeadsAll a bs

abbrev pub IsFalling : List Child → Type 0
IsFalling [] = Unit {0}
IsFalling (a ∷ cs) = LeadsAll a cs × IsFalling cs

-- ys has the elements of xs in some order
abbrev pub Rearranged : List Child → List Child → Type 0
Rearranged [] xs = xs ≡ []
Rearranged (y ∷ ys) xs = (before : List Child) × (after : List Child) × (xs ≡ before ++ (y ∷ after)) × Rearranged ys (before ++ after)

abbrev pub stands : ℕ → List ℕ → Bool
stands v vs = list_any (λ u. nat_eq u v) vs

-- f at each number below n, together
abbrev pub total : (ℕ → ℕ) → ℕ → ℕ
total f zero = 0
total f (suc m) = total f m + f m

abbrev pub bit : Bool → ℕ → ℕ
bit b size = if b then size else 0

-- what is there after the tasks of the list: each node's out, until its parent has run
abbrev pub memory : ℕ → (ℕ → ℕ) → (ℕ → ℕ) → List ℕ → ℕ
memory n parent out done = total (λ v. bit (stands v done && not (stands (parent v) done)) (out v)) n

-- the greatest memory from the state after done on
abbrev pub peak_from : ℕ → (ℕ → ℕ) → (ℕ → ℕ) → (ℕ → ℕ) → List ℕ → List ℕ → ℕ
peak_from n parent out need done [] = memory n parent out done
peak_from n parent out need done (v ∷ vs) =
    max (memory n parent out done) (max (memory n parent out done + need v) (peak_from n parent out need (done ++ v ∷ []) vs))

-- kids x are the children of x, by falling peak minus out, and best x is the peak of their best orders, x after them
pub record IsBestAt (n : ℕ) (parent out need best : ℕ → ℕ) (kids : ℕ → List ℕ) (x : ℕ) : Type 0 where
  pub once : Once (kids x)
  pub exact : (c : ℕ) → Member c (kids x) ↔ (IsNode n c × (parent c ≡ x))
  pub falling : IsFalling (subtrees_of best out (kids x))
  pub peak : best x ≡ children_peak (need x) (subtrees_of best out (kids x))
