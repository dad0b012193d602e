-- No public clause names this.
-- What holds of counts and marks while the columns of a row are marked.
use Rattle.std.specs.Prelude.{◌≡◌, ◌≢◌, ◌⊎◌, ◌==◌, ℕ, ◌+◌, ◌^◌, ◌<◌, ◌≤◌, Bool, cond, IsTrue, List, length, slice_index}
use Rattle.elim_tree.specs.Forests.{column_in}
use Rattle.elim_tree.specs.Trees.{parent_at}

-- one, where a test holds
abbrev pub bit : Bool → ℕ
bit b = cond b 1 0

-- a row of the factor, as a test of columns, and how often each column was counted before
pub record Row : Type 0 where
  pub holds : ℕ → Bool
  pub before : ℕ → ℕ

-- row i holds i, and with a column before i the parent of that
pub record IsFactorRow (parent : ℕ → ℕ) (i : ℕ) (holds : ℕ → Bool) : Type 0 where
  pub own : IsTrue (holds i)
  pub up : (x : ℕ) → IsTrue (holds x) → x ≢ i → (x < i) × (x < parent x) × (parent x ≤ i) × IsTrue (holds (parent x))

-- marked columns are in row i, and were counted once more; with each of them its parent is marked, or is c
pub record IsMarked (row : Row) (parent : ℕ → ℕ) (i c : ℕ) (counts marks : ℕ → ℕ) : Type 0 where
  pub count : (x : ℕ) → counts x ≡ row.before x + bit (marks x == i)
  pub sound : (x : ℕ) → marks x ≡ i → IsTrue (row.holds x)
  pub closed : (x : ℕ) → marks x ≡ i → x ≢ i → (marks (parent x) ≡ i) ⊎ (parent x ≡ c)
  pub own : marks i ≡ i
  pub low : (x : ℕ) → marks x ≤ i

-- a way up can go on from c: where c is not marked, its parent is at most i, and there is room for a count
abbrev pub CanGoOn : ℕ → ℕ → (ℕ → ℕ) → (ℕ → ℕ) → (ℕ → ℕ) → Type 0
CanGoOn i c parent counts marks = (c ≤ i) × ((marks c ≡ i → ⊥) → (c < i) × (c < parent c) × (parent c ≤ i) × (counts c + 1 < 2 ^ 32))

-- the way up from `start` may be marked
abbrev pub CanMarkUp : Row → ℕ → ℕ → List ℕ → List ℕ → List ℕ → Type 0
CanMarkUp row i start parents counts marks =
    IsFactorRow (parent_at parents) i row.holds × ((x : ℕ) → row.before x + 1 < 2 ^ 32) × IsTrue (row.holds start)
    × IsMarked row (parent_at parents) i i (slice_index counts) (slice_index marks)

-- it is marked, and whoever was marked still is
abbrev pub IsMarkedUp : Row → ℕ → ℕ → List ℕ → List ℕ → List ℕ → List ℕ → Type 0
IsMarkedUp row i start parents marked counts marks =
    IsMarked row (parent_at parents) i i (slice_index counts) (slice_index marks) × (slice_index marks start ≡ i)
    × ((x : ℕ) → slice_index marked x ≡ i → slice_index marks x ≡ i)

-- row i may be marked from this list of neighbours
abbrev pub CanMarkRow : Row → ℕ → List ℕ → List ℕ → List ℕ → List ℕ → List ℕ → Type 0
CanMarkRow row i list order parents counts marks =
    IsFactorRow (parent_at parents) i row.holds × ((x : ℕ) → row.before x + 1 < 2 ^ 32)
    × ((j : ℕ) → j < length list → column_in list order j < i → IsTrue (row.holds (column_in list order j)))
    × ((x : ℕ) → (slice_index counts x ≡ row.before x) × (slice_index marks x < i))

-- the ways up from the earlier ones among the first k of the list are marked
abbrev pub IsMarkedRow : Row → ℕ → List ℕ → List ℕ → ℕ → List ℕ → List ℕ → List ℕ → Type 0
IsMarkedRow row i list order k parents counts marks =
    IsMarked row (parent_at parents) i i (slice_index counts) (slice_index marks)
    × ((j : ℕ) → j < k → column_in list order j < i → slice_index marks (column_in list order j) ≡ i)
