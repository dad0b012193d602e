-- How the neighbours of a vertex are gathered: each is marked as it is listed. No public clause names this.
use Rattle.std.specs.Prelude.{◌≡◌, ◌≢◌, ◌⊎◌, ℕ, ◌+◌, ◌<◌, ◌≤◌, Bool, false, IsTrue, List, length, slice_index_or}
use Rattle.std.specs.List.{All}
use Rattle.elimination.specs.Elimination.{IsVertex, times}
use Rattle.patterns.specs.Pattern.{has}
use Rattle.elimination.specs.Quotients.{Quotient, IsQuotient, IsParted, at}

-- whether x is marked
abbrev pub mark_at : List Bool → ℕ → Bool
mark_at seen x = slice_index_or seen x false

-- what is listed so far for u: vertices that are left and stand for their groups, each once; of all that are left, those are marked, and
-- u, and all for which others stand
pub record IsTracked (n u : ℕ) (turn rep : ℕ → ℕ) (near : List ℕ) (seen : List Bool) : Type 0 where
  pub vertices : All (IsVertex n) near
  pub once : (x : ℕ) → times near x ≤ 1
  pub left : (x : ℕ) → IsTrue (has near x) → (turn x ≡ 0) × (x ≢ u)
  pub stands : (x : ℕ) → IsTrue (has near x) → rep x ≡ x
  pub marked : (x : ℕ) → IsTrue (has near x) → IsTrue (mark_at seen x)
  pub marks : (x : ℕ) → turn x ≡ 0 → IsTrue (mark_at seen x) → ((x ≡ u) ⊎ IsTrue (has near x)) ⊎ (rep x ≢ x)
  pub hidden : (x : ℕ) → rep x ≢ x → IsTrue (mark_at seen x)
  pub own : IsTrue (mark_at seen u)

-- the numbers of a list are vertices that are left
abbrev pub AreLeft : ℕ → (ℕ → ℕ) → List ℕ → Type 0
AreLeft n turn list = (x : ℕ) → IsTrue (has list x) → IsVertex n x × (turn x ≡ 0)

-- a list was visited: what it has and stands for its group is listed now, but for u
pub record IsVisited (n u : ℕ) (turn rep : ℕ → ℕ) (list near near' : List ℕ) (seen seen' : List Bool) : Type 0 where
  pub tracked : IsTracked n u turn rep near' seen'
  pub from : (x : ℕ) → IsTrue (has near' x) → IsTrue (has near x) ⊎ (IsTrue (has list x) × (x ≢ u))
  pub old : (x : ℕ) → IsTrue (has near x) → IsTrue (has near' x)
  pub new : (x : ℕ) → IsTrue (has list x) → x ≢ u → rep x ≡ x → IsTrue (has near' x)
  pub others : (x : ℕ) → 0 < turn x → mark_at seen' x ≡ mark_at seen x

-- whatever can be visited was
abbrev pub Visits : List ℕ → List ℕ → List ℕ → List Bool → List Bool → Type 0
Visits list near near' seen seen' =
    (n u : ℕ) (turn rep : ℕ → ℕ) → IsTracked n u turn rep near seen → AreLeft n turn list
    → IsVisited n u turn rep list near near' seen seen'

-- the first i of a row were looked at, that of u
pub record IsScanned (q : Quotient) (turn : ℕ → ℕ) (rim : ℕ → List ℕ) (u : ℕ) (row : List ℕ) (i : ℕ) (near touched : List ℕ)
    (seen : List Bool) : Type 0 where
  pub tracked : IsTracked q.order u turn q.rep near seen
  pub sound : (x : ℕ) → IsTrue (has near x) → IsTrue (q.left u x)
  pub beside : (j : ℕ) → j < i → turn (at row j) ≡ 0 → q.rep (at row j) ≡ at row j → IsTrue (has near (at row j))
  pub through : (p x : ℕ) → IsTrue (has touched p) → IsTrue (has (rim p) x) → x ≢ u → q.rep x ≡ x → IsTrue (has near x)
  pub marks : (p : ℕ) → 0 < turn p → IsTrue (mark_at seen p) → IsTrue (has touched p)
  pub from : (p : ℕ) → IsTrue (has touched p) → (c : ℕ) × (0 < turn c) × IsTrue (q.joined u c) × (q.part c ≡ p)
  pub to : (j : ℕ) → j < i → 0 < turn (at row j) → IsTrue (has touched (q.part (at row j)))

-- the i-th of the row was eliminated, and is in this part
pub record CanEnter (q : Quotient) (turn : ℕ → ℕ) (rim : ℕ → List ℕ) (u : ℕ) (row : List ℕ) (i part : ℕ) : Type 0 where
  pub parted : IsParted q.joined q.left turn q.part q.rim
  pub listed : (d x : ℕ) → 0 < turn d → IsTrue (has (rim (q.part d)) x) → IsTrue (q.rim (q.part d) x)
  pub within : (a b : ℕ) → IsTrue (q.joined a b) → IsVertex q.order b
  pub here : turn u ≡ 0
  pub gone : 0 < turn (at row i)
  pub joined : IsTrue (q.joined u (at row i))
  pub is : part ≡ q.part (at row i)

-- one more of a row is looked at, which leads to this part
abbrev pub Enters : (ℕ → List ℕ) → ℕ → List ℕ → List ℕ → List ℕ → List ℕ → List Bool → List Bool → Type 0
Enters rim part near near' touched touched' seen seen' =
    (q : Quotient) (turn : ℕ → ℕ) (u : ℕ) (row : List ℕ) (i : ℕ) → CanEnter q turn rim u row i part
    → IsScanned q turn rim u row i near touched seen → IsScanned q turn rim u row (i + 1) near' touched' seen'

-- the row lists the neighbours of u in the file, and u is left and stands for its group
pub record IsRowOf (q : Quotient) (turn : ℕ → ℕ) (u : ℕ) (list : List ℕ) : Type 0 where
  pub here : turn u ≡ 0
  pub stands : q.rep u ≡ u
  pub vertex : IsVertex q.order u
  pub row : (x : ℕ) → has list x ≡ q.joined u x

-- a whole row is looked at, by links that stay right
abbrev pub Scans : (ℕ → ℕ) → (ℕ → List ℕ) → List ℕ → List ℕ → List ℕ → List ℕ → List ℕ → List ℕ → List ℕ → List Bool → List Bool → Type 0
Scans turn rim row links links' near near' touched touched' seen seen' =
    (q : Quotient) (u : ℕ) → IsQuotient q turn links rim → IsRowOf q turn u row → IsScanned q turn rim u row 0 near touched seen
    → IsQuotient q turn links' rim × IsScanned q turn rim u row (length row) near' touched' seen'

-- the neighbours of u in what is left that stand for their groups, each once, and the parts that u touches
pub record IsHood (q : Quotient) (turn : ℕ → ℕ) (u : ℕ) (list parts : List ℕ) : Type 0 where
  pub vertices : All (IsVertex q.order) list
  pub once : (x : ℕ) → times list x ≤ 1
  pub sound : (x : ℕ) → IsTrue (has list x) → IsTrue (q.left u x) × (q.rep x ≡ x)
  pub complete : (x : ℕ) → IsTrue (q.left u x) → q.rep x ≡ x → IsTrue (has list x)
  pub from : (p : ℕ) → IsTrue (has parts p) → (c : ℕ) × (0 < turn c) × IsTrue (q.joined u c) × (q.part c ≡ p)
  pub to : (c : ℕ) → 0 < turn c → IsTrue (q.joined u c) → IsTrue (has parts (q.part c))

-- just those are marked that others stand for
pub record AreHidden (q : Quotient) (turn : ℕ → ℕ) (seen : List Bool) : Type 0 where
  pub gone : (x : ℕ) → 0 < turn x → q.rep x ≡ x
  pub marked : (x : ℕ) → q.rep x ≢ x → IsTrue (mark_at seen x)
  pub marks : (x : ℕ) → IsTrue (mark_at seen x) → q.rep x ≢ x

-- .. and besides them u, its neighbours and the parts that it touches
pub record AreMarked (q : Quotient) (turn : ℕ → ℕ) (u : ℕ) (near touched : List ℕ) (seen : List Bool) : Type 0 where
  pub gone : (x : ℕ) → 0 < turn x → q.rep x ≡ x
  pub marked : (x : ℕ) → q.rep x ≢ x → IsTrue (mark_at seen x)
  pub left : (x : ℕ) → turn x ≡ 0 → IsTrue (mark_at seen x) → ((x ≡ u) ⊎ IsTrue (has near x)) ⊎ (q.rep x ≢ x)
  pub parts : (p : ℕ) → 0 < turn p → IsTrue (mark_at seen p) → IsTrue (has touched p)

-- the neighbours of u are gathered and marked
pub record IsGathered (q : Quotient) (turn : ℕ → ℕ) (links : List ℕ) (rim : ℕ → List ℕ) (u : ℕ) (near touched : List ℕ)
    (seen : List Bool) : Type 0 where
  pub quotient : IsQuotient q turn links rim
  pub here : turn u ≡ 0
  pub stands : q.rep u ≡ u
  pub vertex : IsVertex q.order u
  pub hood : IsHood q turn u near touched
  pub marks : AreMarked q turn u near touched seen
