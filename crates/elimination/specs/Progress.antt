-- How far an elimination has come. No public clause names this.
use Rattle.std.specs.Prelude.{◌≡◌, ◌≢◌, ℕ, ◌+◌, ◌<◌, ◌≤◌, Bool, IsTrue, List, length}
use Rattle.std.specs.List.{All}
use Rattle.patterns.specs.Pattern.{is_joined}
use Rattle.elimination.specs.Elimination.{IsVertex, times, IsAdjacency, eliminated, IsRemaining, GoByLeastDegree}
use Rattle.elimination.specs.Tables.{Tables}
use Rattle.elimination.specs.Turns.{IsSearch}

-- vertices of n, none twice, and each was the first of all that were left
pub record IsBegun (joined : ℕ → ℕ → Bool) (n : ℕ) (gone : List ℕ) : Type 0 where
  pub vertices : All (IsVertex n) gone
  pub once : (v : ℕ) → times gone v ≤ 1
  pub least : GoByLeastDegree joined n gone

-- the vertices before this place are chosen, and the tables stand for what is left
pub record IsUnderWay (rows : List (List ℕ)) (vertices : List ℕ) (t : Tables) (place : ℕ) : Type 0 where
  pub here : length vertices + 1 ≡ place
  pub begun : IsBegun (is_joined rows) (length rows) vertices
  -- the vertices that are left, and no others, have the turn 0
  pub unturned : (v : ℕ) → times vertices v ≡ 0 → t.turn v ≡ 0
  pub unlisted : (v : ℕ) → t.turn v ≡ 0 → times vertices v ≡ 0
  pub latest : (v : ℕ) → t.turn v < place
  pub search : IsSearch rows (eliminated (is_joined rows) vertices) t

-- all that are left are joined to each other, and those below v are gone
pub record IsFinishing (rows : List (List ℕ)) (vertices : List ℕ) (turn : ℕ → ℕ) (v : ℕ) : Type 0 where
  pub begun : IsBegun (is_joined rows) (length rows) vertices
  pub unturned : (u : ℕ) → v ≤ u → times vertices u ≡ 0 → turn u ≡ 0
  pub unlisted : (u : ℕ) → v ≤ u → turn u ≡ 0 → times vertices u ≡ 0
  pub plain : IsAdjacency (eliminated (is_joined rows) vertices)
  pub alive : (a b : ℕ) → IsTrue (eliminated (is_joined rows) vertices a b) → IsRemaining (length rows) vertices b
  pub all : (a b : ℕ) → IsRemaining (length rows) vertices a → IsRemaining (length rows) vertices b → a ≢ b
      → IsTrue (eliminated (is_joined rows) vertices a b)
  pub passed : (u : ℕ) → IsVertex (length rows) u → u < v → times vertices u ≢ 0
