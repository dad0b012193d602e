-- Twins: vertices with the same neighbours, each being one of the other. The least of a group of twins stands for them; the others are
-- listed with it, and have no part in the search until it is eliminated. No public clause names this.
use Rattle.std.specs.Prelude.{◌≡◌, ◌≢◌, ◌==◌, ◌||◌, ◌⊎◌, ℕ, ◌+◌, ◌<◌, ◌≤◌, Bool, false, IsTrue, List, [], ◌∷◌, ◌++◌, length}
use Rattle.elimination.specs.Elimination.{IsVertex, times}
use Rattle.patterns.specs.Pattern.{has, neighbours_of}
use Rattle.elimination.specs.Quotients.{Quotient, LeadsTo, at}
use Rattle.elimination.specs.Hoods.{mark_at}
use Rattle.elimination.specs.Tables.{Tables}

-- b is a itself or one of its neighbours
abbrev pub is_near : (ℕ → ℕ → Bool) → ℕ → ℕ → Bool
is_near left a b = a == b || left a b

-- the groups of twins, and how many are in each
pub record IsGrouped (q : Quotient) (turn : ℕ → ℕ) (groups : ℕ → List ℕ) (sizes : List ℕ) : Type 0 where
  pub vertex : (x : ℕ) → q.rep x ≢ x → IsVertex q.order x × IsVertex q.order (q.rep x)
  pub left : (x : ℕ) → turn x ≡ 0 → turn (q.rep x) ≡ 0
  pub gone : (x : ℕ) → 0 < turn x → q.rep x ≡ x
  pub stands : (x : ℕ) → q.rep (q.rep x) ≡ q.rep x
  pub least : (x : ℕ) → q.rep x ≤ x
  pub twins : (x z : ℕ) → turn x ≡ 0 → is_near q.left x z ≡ is_near q.left (q.rep x) z
  pub members : (r x : ℕ) → IsTrue (has (groups r) x) → (q.rep x ≡ r) × (x ≢ r)
  pub listed : (x : ℕ) → q.rep x ≢ x → IsTrue (has (groups (q.rep x)) x)
  pub once : (r x : ℕ) → times (groups r) x ≤ 1
  pub weights : (r : ℕ) → IsVertex q.order r → turn r ≡ 0 → q.rep r ≡ r → at sizes r ≡ length (groups r) + 1

-- all of a row are marked, those that were eliminated by their parts
abbrev pub AreRowsMarked : (ℕ → ℕ) → (ℕ → ℕ) → List ℕ → List Bool → Type 0
AreRowsMarked turn part row seen =
    (j : ℕ) → j < length row
    → (turn (at row j) ≡ 0 → IsTrue (mark_at seen (at row j))) × (0 < turn (at row j) → IsTrue (mark_at seen (part (at row j))))

-- x was put into the rims of the parts of its row
pub record IsTouched (turn part : ℕ → ℕ) (x : ℕ) (row : List ℕ) (n : ℕ) (rim rim' : ℕ → List ℕ) : Type 0 where
  pub old : (p y : ℕ) → IsTrue (has (rim p) y) → IsTrue (has (rim' p) y)
  pub from : (p y : ℕ) → IsTrue (has (rim' p) y)
      → IsTrue (has (rim p) y) ⊎ ((y ≡ x) × ((j : ℕ) × (j < n) × (0 < turn (at row j)) × (part (at row j) ≡ p)))
  pub to : (j : ℕ) → j < n → 0 < turn (at row j) → IsTrue (has (rim' (part (at row j))) x)

-- .. and so was each of a list
pub record AreTouched (joined : ℕ → ℕ → Bool) (turn part : ℕ → ℕ) (list : List ℕ) (n : ℕ) (rim rim' : ℕ → List ℕ) : Type 0 where
  pub old : (p y : ℕ) → IsTrue (has (rim p) y) → IsTrue (has (rim' p) y)
  pub from : (p y : ℕ) → IsTrue (has (rim' p) y)
      → IsTrue (has (rim p) y) ⊎ (IsTrue (has list y) × ((d : ℕ) × (0 < turn d) × IsTrue (joined y d) × (part d ≡ p)))
  pub to : (i d : ℕ) → i < n → 0 < turn d → IsTrue (joined (at list i) d) → IsTrue (has (rim' (part d)) (at list i))

-- the twin is a neighbour whose own neighbours are all marked, and whose degree is not below this
pub record IsTwinFound (t : Tables) (rows : List (List ℕ)) (degree twin : ℕ) : Type 0 where
  pub near_it : IsTrue (has t.near twin)
  pub most : degree ≤ at t.bounds twin
  pub marked : (part : ℕ → ℕ) → LeadsTo t.turn part t.links → AreRowsMarked t.turn part (neighbours_of rows twin) t.seen

-- the group of `other` went over to that of `least`
pub record IsJoinedTo (least other : ℕ) (groups groups' : ℕ → List ℕ) (sizes sizes' : List ℕ) (seen seen' : List Bool) : Type 0 where
  pub taken : groups' least ≡ groups least ++ (other ∷ groups other)
  pub empty : groups' other ≡ []
  pub others : (r : ℕ) → r ≢ least → r ≢ other → groups' r ≡ groups r
  pub size : at sizes' least ≡ at sizes least + at sizes other
  pub sizes_same : (r : ℕ) → r ≢ least → at sizes' r ≡ at sizes r
  pub marked : IsTrue (mark_at seen' other)
  pub marks : (x : ℕ) → x ≢ other → mark_at seen' x ≡ mark_at seen x

-- these are no longer stood for
pub record AreReopened (list : List ℕ) (bound : ℕ) (sizes sizes' : List ℕ) (seen seen' : List Bool) (keys keys' : List ℕ) : Type 0 where
  pub ones : (x : ℕ) → IsTrue (has list x) → at sizes' x ≡ 1
  pub sizes_same : (x : ℕ) → has list x ≡ false → at sizes' x ≡ at sizes x
  pub opened : (x : ℕ) → IsTrue (has list x) → mark_at seen' x ≡ false
  pub marks : (x : ℕ) → has list x ≡ false → mark_at seen' x ≡ mark_at seen x
  pub len : length keys' ≡ length keys
  pub bounds : (x : ℕ) → IsTrue (has list x) → at keys' x ≡ bound
  pub keys_same : (x : ℕ) → has list x ≡ false → at keys' x ≡ at keys x
