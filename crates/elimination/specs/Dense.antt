-- What is left of a pattern as rows of bits: the row of a vertex that is left has its neighbours as far as it was looked at, and itself; an
-- eliminated vertex that is open keeps its row, whose vertices are all joined to each other. No public clause names this.
use Rattle.std.specs.Prelude.{◌≡◌, ◌≢◌, ◌⊎◌, ℕ, ◌+◌, ◌<◌, ◌≤◌, Bool, false, not, IsTrue, List, [], ◌∷◌, ◌++◌, length}
use Rattle.std.specs.Prelude.{slice_index, slice_index_or}
use Rattle.bit_rows.specs.Bits.{bit_in}
use Rattle.limits.specs.Limits.{most_order}
use Rattle.patterns.specs.Pattern.{has}
use Rattle.min_tree.specs.Least.{greatest}
use Rattle.elimination.specs.Elimination.{IsVertex, IsRemaining, IsAhead, IsAdjacency, times, eliminate, eliminated, degree_of}
use Rattle.elimination.specs.Twins.{is_near}
use Rattle.elimination.specs.Progress.{IsBegun}
use Rattle.elimination.specs.declared.dense.DenseSearch.{DenseSearch}

-- how many numbers a row of n vertices has: those of the vertices, and 0
abbrev pub width_of : ℕ → ℕ
width_of n = n + 1

-- a list of rows as a function
abbrev pub row_of : List (List Bool) → ℕ → List Bool
row_of rows x = slice_index_or rows x []

-- an elimination as it goes on: of how many vertices, what is left of the pattern, and which vertices are gone
pub record Stage : Type 0 where
  pub order : ℕ
  pub left : ℕ → ℕ → Bool
  pub gone : List ℕ

abbrev pub IsStanding : Stage → ℕ → Type 0
IsStanding stage x = IsRemaining stage.order stage.gone x

-- whether the row of p lacks v
abbrev pub lacks : (ℕ → List Bool) → ℕ → ℕ → Bool
lacks row v p = not (bit_in (row p) v)

-- some open row has both
abbrev pub IsInOpen : (ℕ → List Bool) → List ℕ → ℕ → ℕ → Type 0
IsInOpen row opened a b = (p : ℕ) × IsTrue (has opened p) × IsTrue (bit_in (row p) a) × IsTrue (bit_in (row p) b)

-- the rows stand for what is left
pub record AreBitRows (stage : Stage) (row : ℕ → List Bool) (opened : List ℕ) (alive : List Bool) : Type 0 where
  pub plain : IsAdjacency stage.left
  pub within : (a b : ℕ) → IsTrue (stage.left a b) → IsStanding stage a
  pub from : (a b : ℕ) → IsStanding stage a → IsStanding stage b → IsTrue (is_near stage.left a b)
      → IsTrue (bit_in (row a) b) ⊎ IsInOpen row opened a b
  pub to : (a b : ℕ) → IsStanding stage a → IsStanding stage b → IsTrue (bit_in (row a) b) ⊎ IsInOpen row opened a b
      → IsTrue (is_near stage.left a b)
  pub alive_from : (x : ℕ) → IsTrue (bit_in alive x) → IsStanding stage x
  pub alive_to : (x : ℕ) → IsStanding stage x → IsTrue (bit_in alive x)
  pub open_gone : (p : ℕ) → IsTrue (has opened p) → IsVertex stage.order p × (0 < times stage.gone p)
  pub alive_width : length alive ≡ width_of stage.order
  pub row_width : (x : ℕ) → IsStanding stage x → length (row x) ≡ width_of stage.order
  pub open_width : (p : ℕ) → IsTrue (has opened p) → length (row p) ≡ width_of stage.order

-- .. and v was looked at: its row has just its neighbours and itself, of those that are left
pub record IsLookedAt (stage : Stage) (row : ℕ → List Bool) (opened : List ℕ) (alive : List Bool) (v degree : ℕ) : Type 0 where
  pub rows : AreBitRows stage row opened alive
  pub exact : (x : ℕ) → IsStanding stage x → bit_in (row v) x ≡ is_near stage.left v x
  pub degree_is : degree ≡ degree_of stage.left stage.order v

-- none of the bounds is above the degree; that of a number that is no vertex that is left is greater than all degrees
pub record AreLowBounds (stage : Stage) (bounds : List ℕ) : Type 0 where
  pub len : length bounds ≡ stage.order + 1
  pub low : (x : ℕ) → IsStanding stage x → slice_index bounds x ≤ degree_of stage.left stage.order x
  pub off : (x : ℕ) → x ≤ stage.order → ¬ (IsStanding stage x) → slice_index bounds x ≡ greatest

-- the search stands for what is left
pub record IsDense (stage : Stage) (search : DenseSearch) : Type 0 where
  pub order_is : search.order ≡ stage.order
  pub few : stage.order ≤ most_order
  pub rows_len : length search.rows.items ≡ stage.order + 1
  pub rows : AreBitRows stage (row_of search.rows.items) search.pivots.items search.alive
  pub bounds : AreLowBounds stage search.bounds

-- .. and v, whose row is exact, is the first of all that are left, by degree and number
pub record IsDenseChoice (stage : Stage) (search : DenseSearch) (v : ℕ) : Type 0 where
  pub dense : IsDense stage search
  pub here : IsStanding stage v
  pub exact : (x : ℕ) → IsStanding stage x → bit_in (row_of search.rows.items v) x ≡ is_near stage.left v x
  pub first : (u : ℕ) → IsStanding stage u → IsAhead (degree_of stage.left stage.order) v u

-- the stage after v
abbrev pub stage_after : Stage → ℕ → Stage
stage_after stage v = record { order = stage.order; left = eliminate stage.left v; gone = stage.gone ++ v ∷ [] }

-- the stage of an elimination of a pattern of n vertices once these are eliminated
abbrev pub stage_of : (ℕ → ℕ → Bool) → ℕ → List ℕ → Stage
stage_of joined n vertices = record { order = n; left = eliminated joined vertices; gone = vertices }

-- each of these vertices came first of all that were left, and the search stands for what is left now
pub record IsDenseUnderWay (joined : ℕ → ℕ → Bool) (vertices : List ℕ) (search : DenseSearch) : Type 0 where
  pub begun : IsBegun joined search.order vertices
  pub dense : IsDense (stage_of joined search.order vertices) search

-- all vertices, each once, in the order in which they are eliminated by least degree
pub record IsLeastDegreeOrder (joined : ℕ → ℕ → Bool) (n : ℕ) (order : List ℕ) : Type 0 where
  pub len : length order ≡ n
  pub begun : IsBegun joined n order

-- all that are left are joined to each other; those below v are gone, and from v on the row `alive` says who is left
pub record IsDenseRest (joined : ℕ → ℕ → Bool) (n : ℕ) (alive : List Bool) (vertices : List ℕ) (v : ℕ) : Type 0 where
  pub begun : IsBegun joined n vertices
  pub plain : IsAdjacency (eliminated joined vertices)
  pub within : (a b : ℕ) → IsTrue (eliminated joined vertices a b) → IsRemaining n vertices a
  pub all : (a b : ℕ) → IsRemaining n vertices a → IsRemaining n vertices b → a ≢ b → IsTrue (eliminated joined vertices a b)
  pub passed : (u : ℕ) → IsVertex n u → u < v → times vertices u ≢ 0
  pub alive_from : (u : ℕ) → v ≤ u → IsTrue (bit_in alive u) → IsRemaining n vertices u
  pub alive_to : (u : ℕ) → v ≤ u → IsRemaining n vertices u → IsTrue (bit_in alive u)

-- the row of v, before any is eliminated in the search: just its neighbours and itself, of those that are left
pub record IsFullRow (stage : Stage) (v : ℕ) (row : List Bool) : Type 0 where
  pub width : length row ≡ width_of stage.order
  pub exact : (x : ℕ) → IsStanding stage x → bit_in row x ≡ is_near stage.left v x

-- the search is being filled: it stands for what is left, as far as vertices were put into it
pub record IsFilling (stage : Stage) (search : DenseSearch) : Type 0 where
  pub order_is : search.order ≡ stage.order
  pub few : stage.order ≤ most_order
  pub rows_len : length search.rows.items ≡ stage.order + 1
  pub none_open : search.pivots.items ≡ []
  pub alive_width : length search.alive ≡ width_of stage.order
  pub alive_from : (x : ℕ) → IsTrue (bit_in search.alive x) → IsStanding stage x
  pub full : (x : ℕ) → IsTrue (bit_in search.alive x) → IsFullRow stage x (row_of search.rows.items x)
  pub bounds_len : length search.bounds ≡ stage.order + 1
  pub low : (x : ℕ) → IsTrue (bit_in search.alive x) → slice_index search.bounds x ≤ degree_of stage.left stage.order x
  pub off : (x : ℕ) → x ≤ stage.order → bit_in search.alive x ≡ false → slice_index search.bounds x ≡ greatest
