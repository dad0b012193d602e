-- How the next vertex is found: by a number for each vertex that is left, not above its degree. No public clause names this.
use Rattle.std.specs.Prelude.{◌≡◌, ◌≢◌, ◌⊎◌, ℕ, ◌+◌, ◌<◌, ◌≤◌, Bool, false, IsTrue, List, [], length}
use Rattle.limits.specs.Limits.{most_order}
use Rattle.patterns.specs.Pattern.{has, is_joined}
use Rattle.min_tree.specs.Least.{greatest}
use Rattle.elimination.specs.Elimination.{IsVertex, eliminate, degree_of, IsAhead}
use Rattle.elimination.specs.Quotients.{Quotient, IsQuotient, AreLinks, LeadsTo, at}
use Rattle.elimination.specs.Hoods.{AreHidden, IsHood, IsRowOf, IsGathered}
use Rattle.elimination.specs.Twins.{IsGrouped, is_near, AreTouched, AreReopened}
use Rattle.elimination.specs.Tables.{Tables}

-- bounds of degrees: none is above the degree; of a number that is no vertex that is left and stands for its group, the bound is greater
-- than
-- all degrees
pub record AreBounds (q : Quotient) (turn : ℕ → ℕ) (keys : List ℕ) : Type 0 where
  pub len : length keys ≡ q.order + 1
  pub low : (w : ℕ) → IsVertex q.order w → turn w ≡ 0 → q.rep w ≡ w → at keys w ≤ degree_of q.left q.order w
  pub off : (w : ℕ) → w ≤ q.order → ((w ≡ 0) ⊎ (0 < turn w)) ⊎ (q.rep w ≢ w) → at keys w ≡ greatest

-- an elimination of which the pattern in the file and what is left are known
abbrev pub quotient_of : List (List ℕ) → (ℕ → ℕ → Bool) → (ℕ → ℕ) → (ℕ → ℕ → Bool) → (ℕ → ℕ) → Quotient
quotient_of rows left part rim rep = record { order = length rows; joined = is_joined rows; left = left; part = part; rim = rim; rep = rep }

-- the tables stand for an elimination
pub record StandFor (q : Quotient) (t : Tables) : Type 0 where
  pub quotient : IsQuotient q t.turn t.links t.rims
  pub hidden : AreHidden q t.turn t.seen
  pub grouped : IsGrouped q t.turn t.groups t.sizes
  pub bounds : AreBounds q t.turn t.bounds

-- the neighbours of u, whose row in the file this is, can be gathered
pub record CanGather (q : Quotient) (t : Tables) (u : ℕ) (row : List ℕ) : Type 0 where
  pub stand : StandFor q t
  pub listed : IsRowOf q t.turn u row

-- they were, and are marked
pub record HasMarks (q : Quotient) (t : Tables) (u : ℕ) : Type 0 where
  pub gathered : IsGathered q t.turn t.links t.rims u t.near t.touched t.seen
  pub grouped : IsGrouped q t.turn t.groups t.sizes
  pub bounds : AreBounds q t.turn t.bounds

-- .. and are no longer marked
pub record IsReleased (q : Quotient) (t : Tables) (u : ℕ) : Type 0 where
  pub stand : StandFor q t
  pub vertex : IsVertex q.order u
  pub here : t.turn u ≡ 0
  pub stands : q.rep u ≡ u
  pub hood : IsHood q t.turn u t.near t.touched

-- two twins that stand for their groups, the lesser first
pub record CanPair (q : Quotient) (t : Tables) (least other : ℕ) : Type 0 where
  pub stand : StandFor q t
  pub few : q.order ≤ most_order
  pub before : least < other
  pub vertices : IsVertex q.order least × IsVertex q.order other
  pub here : (t.turn least ≡ 0) × (t.turn other ≡ 0)
  pub stands : (q.rep least ≡ least) × (q.rep other ≡ other)
  pub twins : (z : ℕ) → is_near q.left other z ≡ is_near q.left least z

-- .. but for who stands for whom, the tables stand for the same elimination
pub record StandForOthers (q : Quotient) (t : Tables) : Type 0 where
  pub rep : ℕ → ℕ
  pub stand : StandFor (record q { rep = rep }) t

-- the tables stand for what is left
pub record IsSearch (rows : List (List ℕ)) (left : ℕ → ℕ → Bool) (t : Tables) : Type 0 where
  pub part : ℕ → ℕ
  pub rim : ℕ → ℕ → Bool
  pub rep : ℕ → ℕ
  pub stand : StandFor (quotient_of rows left part rim rep) t

-- .. and v is the first of all that are left, by degree and number, and its neighbours are gathered
pub record IsChosen (rows : List (List ℕ)) (left : ℕ → ℕ → Bool) (t : Tables) (v : ℕ) : Type 0 where
  pub part : ℕ → ℕ
  pub rim : ℕ → ℕ → Bool
  pub rep : ℕ → ℕ
  pub released : IsReleased (quotient_of rows left part rim rep) t v
  pub first : (u : ℕ) → IsVertex (length rows) u → t.turn u ≡ 0 → IsAhead (degree_of left (length rows)) v u

-- v and the parts that it touched are one part now, by these links and rims
pub record IsAbsorbed (v : ℕ) (near touched : List ℕ) (links links' : List ℕ) (lists lists' : ℕ → List ℕ) : Type 0 where
  pub own : at links' v ≡ v
  pub under : (p : ℕ) → p ≢ v → IsTrue (has touched p) → at links' p ≡ v
  pub others : (p : ℕ) → p ≢ v → has touched p ≡ false → at links' p ≡ at links p
  pub made : lists' v ≡ near
  pub emptied : (p : ℕ) → p ≢ v → IsTrue (has touched p) → lists' p ≡ []
  pub kept : (p : ℕ) → p ≢ v → has touched p ≡ false → lists' p ≡ lists p

-- those for which v stood are given back to the search, with this bound
pub record AreBack (joined : ℕ → ℕ → Bool) (v bound : ℕ) (t t' : Tables) : Type 0 where
  pub empty : t'.groups v ≡ []
  pub others : (r : ℕ) → r ≢ v → t'.groups r ≡ t.groups r
  pub linked : AreLinks t.turn t'.links
  pub leads : (part : ℕ → ℕ) → LeadsTo t.turn part t.links → LeadsTo t.turn part t'.links
  pub touched : (part : ℕ → ℕ) → LeadsTo t.turn part t.links
      → AreTouched joined t.turn part (t.groups v) (length (t.groups v)) t.rims t'.rims
  pub opened : AreReopened (t.groups v) bound t.sizes t'.sizes t.seen t'.seen t.bounds t'.bounds

-- v, which was left and the first, is eliminated
pub record IsEliminated (rows : List (List ℕ)) (left : ℕ → ℕ → Bool) (turn : ℕ → ℕ) (t : Tables) (v : ℕ) : Type 0 where
  pub vertex : IsVertex (length rows) v
  pub here : turn v ≡ 0
  pub first : (u : ℕ) → IsVertex (length rows) u → turn u ≡ 0 → IsAhead (degree_of left (length rows)) v u
  pub search : IsSearch rows (eliminate left v) t
