-- From the quotient graph to rows of bits, for which the vertices that are left are numbered anew. No public clause names this.
use Rattle.std.specs.Prelude.{◌≡◌, ◌≢◌, ℕ, ◌-◌, ◌<◌, Bool, IsTrue, List, [], length}
use Rattle.patterns.specs.Pattern.{has, is_joined}
use Rattle.elimination.specs.Elimination.{IsVertex, IsRemaining, times, eliminated}
use Rattle.elimination.specs.Quotients.{Quotient, at}
use Rattle.elimination.specs.Tables.{Tables}
use Rattle.elimination.specs.Turns.{StandFor}
use Rattle.elimination.specs.Progress.{IsBegun}
use Rattle.elimination.specs.Dense.{Stage, IsDense}
use Rattle.elimination.specs.declared.switch.Rest.{Rest}

-- a list of vertices has a 0 and then the vertex of each new number, up to this one
abbrev pub most_of : List ℕ → ℕ
most_of vertices = length vertices - 1

-- a pattern by new numbers
abbrev pub renumbered : (ℕ → ℕ → Bool) → List ℕ → ℕ → ℕ → Bool
renumbered left vertices a b = left (at vertices a) (at vertices b)

-- the vertices of n that have had no turn are numbered anew, by rising number
pub record AreNumbered (turn : ℕ → ℕ) (n : ℕ) (vertices : List ℕ) : Type 0 where
  pub some : 0 < length vertices
  pub first : at vertices 0 ≡ 0
  pub rises : (j k : ℕ) → j < k → k < length vertices → at vertices j < at vertices k
  pub left : (k : ℕ) → IsVertex (most_of vertices) k → IsVertex n (at vertices k) × (turn (at vertices k) ≡ 0)
  pub all : (x : ℕ) → IsVertex n x → turn x ≡ 0 → (k : ℕ) × IsVertex (most_of vertices) k × (at vertices k ≡ x)

-- .. and a table has the new number of each, and 0 for all others
pub record AreNumbers (turn : ℕ → ℕ) (n : ℕ) (vertices numbers : List ℕ) : Type 0 where
  pub numbered : AreNumbered turn n vertices
  pub here : (x : ℕ) → IsVertex n x → turn x ≡ 0 → at numbers x ≢ 0
  pub back : (x : ℕ) → at numbers x ≢ 0 → at vertices (at numbers x) ≡ x
  pub most : (x : ℕ) → at numbers x < length vertices

-- what is left, by new numbers
abbrev pub stage_at : (ℕ → ℕ → Bool) → List ℕ → Stage
stage_at left vertices = record { order = most_of vertices; left = renumbered left vertices; gone = [] }

-- a new number is that of a vertex of a list
abbrev pub IsNumberIn : List ℕ → List ℕ → ℕ → Type 0
IsNumberIn numbers list y = (x : ℕ) × IsTrue (has list x) × (at numbers x ≡ y)

-- .. or of a vertex in one of the groups of a list
abbrev pub IsNumberInGroups : List ℕ → (ℕ → List ℕ) → List ℕ → ℕ → Type 0
IsNumberInGroups numbers groups list y = (r : ℕ) × IsTrue (has list r) × IsNumberIn numbers (groups r) y

-- the tables stand for an elimination of this pattern
pub record CanFill (rows : List (List ℕ)) (q : Quotient) (t : Tables) : Type 0 where
  pub stand : StandFor q t
  pub joined : (a b : ℕ) → is_joined rows a b ≡ q.joined a b
  pub order : q.order ≡ length rows

-- these came first, each in its turn, and a search by new numbers stands for what is left
pub record IsRestAfter (joined : ℕ → ℕ → Bool) (n : ℕ) (gone : List ℕ) (rest : Rest) : Type 0 where
  pub begun : IsBegun joined n gone
  pub within : (a b : ℕ) → IsTrue (eliminated joined gone a b) → IsRemaining n gone b
  pub numbered : AreNumbered (times gone) n rest.vertices.items
  pub dense : IsDense (stage_at (eliminated joined gone) rest.vertices.items) rest.search
