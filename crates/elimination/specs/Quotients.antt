-- The pattern that is left during an elimination, kept in place of its pairs as parts: eliminated vertices that hang together, and for
-- each part the vertices that are left and touch it, its rim. Two vertices are joined where the file joins them or some part touches
-- both. George and Liu 1989 (quotient graphs). No public clause names this.
use Rattle.std.specs.Prelude.{◌≡◌, ◌≢◌, ◌⊎◌, ℕ, zero, suc, ◌+◌, ◌<◌, Bool, IsTrue, List, [], ◌∷◌, length, slice_index, Vec}
use Rattle.std.specs.declared.alloc.Global.{Global}
use Rattle.elimination.specs.Elimination.{IsVertex, IsAdjacency}
use Rattle.patterns.specs.Pattern.{has}

-- a table as a function
abbrev pub at : List ℕ → ℕ → ℕ
at table x = slice_index table x

-- a table of lists as a function
abbrev pub inner_at : List (Vec ℕ Global) → ℕ → List ℕ
inner_at [] x = []
inner_at (v ∷ vs) zero = v.items
inner_at (v ∷ vs) (suc x) = inner_at vs x

-- a and b hang together by the pattern, or by a part that both touch
abbrev pub IsNear : (ℕ → ℕ → Bool) → (ℕ → ℕ) → (ℕ → ℕ) → (ℕ → ℕ → Bool) → ℕ → ℕ → Type 0
IsNear joined turn part rim a b =
    IsTrue (joined a b) ⊎ ((d : ℕ) × (0 < turn d) × IsTrue (joined a d) × IsTrue (rim (part d) b))

-- the parts stand for the pattern that is left. A vertex is eliminated in its turn, from 1 on, and has the turn 0 while it is left
pub record IsParted (joined left : ℕ → ℕ → Bool) (turn part : ℕ → ℕ) (rim : ℕ → ℕ → Bool) : Type 0 where
  pub alive : (a b : ℕ) → IsTrue (left a b) → (turn a ≡ 0) × (turn b ≡ 0)
  pub part_gone : (d : ℕ) → 0 < turn d → 0 < turn (part d)
  -- the rim of a part is what its vertices touch
  pub rim_left : (d b : ℕ) → 0 < turn d → IsTrue (rim (part d) b) → turn b ≡ 0
  pub rim_to : (d b : ℕ) → 0 < turn d → turn b ≡ 0 → IsTrue (joined d b) → IsTrue (rim (part d) b)
  pub rim_from : (d b : ℕ) → 0 < turn d → IsTrue (rim (part d) b) → (c : ℕ) × (0 < turn c) × (part c ≡ part d) × IsTrue (joined c b)
  pub near : (a b : ℕ) → IsTrue (left a b) → IsNear joined turn part rim a b
  pub joins : (a b : ℕ) → turn a ≡ 0 → turn b ≡ 0 → a ≢ b → IsNear joined turn part rim a b → IsTrue (left a b)

-- from an eliminated vertex the links lead to eliminated vertices, each to a later one or to itself, within the table
pub record AreLinks (turn : ℕ → ℕ) (links : List ℕ) : Type 0 where
  pub inside : (x : ℕ) → 0 < turn x → (at links x < length links) × (0 < turn (at links x))
  pub rises : (x : ℕ) → 0 < turn x → at links x ≢ x → turn x < turn (at links x)

-- the links lead to the last vertex of each part
pub record LeadsTo (turn part : ℕ → ℕ) (links : List ℕ) : Type 0 where
  pub last : (x : ℕ) → 0 < turn x → at links x ≡ x → part x ≡ x
  pub same : (x : ℕ) → 0 < turn x → part (at links x) ≡ part x
  pub root : (x : ℕ) → 0 < turn x → part (part x) ≡ part x

-- an elimination as it goes on: the pattern of the file, what is left of it, the number of the part of each eliminated vertex, the vertices
-- that are left and touch a part, and of each group of twins the vertex that stands for them
pub record Quotient : Type 0 where
  pub order : ℕ
  pub joined : ℕ → ℕ → Bool
  pub left : ℕ → ℕ → Bool
  pub part : ℕ → ℕ
  pub rim : ℕ → ℕ → Bool
  pub rep : ℕ → ℕ

-- the tables stand for what is left
pub record IsQuotient (q : Quotient) (turn : ℕ → ℕ) (links : List ℕ) (rim : ℕ → List ℕ) : Type 0 where
  pub size : length links ≡ q.order + 1
  pub pattern : IsAdjacency q.joined
  pub plain : IsAdjacency q.left
  pub within : (a b : ℕ) → IsTrue (q.joined a b) → IsVertex q.order b
  pub gone : (x : ℕ) → 0 < turn x → IsVertex q.order x
  pub rims : (p x : ℕ) → IsTrue (has (rim p) x) → IsVertex q.order x
  pub parted : IsParted q.joined q.left turn q.part q.rim
  -- of each group of twins that touch a part, its list has the one that stands for them
  pub listed_from : (d x : ℕ) → 0 < turn d → IsTrue (has (rim (q.part d)) x) → IsTrue (q.rim (q.part d) x)
  pub listed_to : (d x : ℕ) → 0 < turn d → IsTrue (q.rim (q.part d) x) → q.rep x ≡ x → IsTrue (has (rim (q.part d)) x)
  pub linked : AreLinks turn links
  pub leads : LeadsTo turn q.part links
