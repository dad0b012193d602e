-- No public clause names this.
-- Row subtrees by their leaves: what holds of the tables while columns are taken into rows one after another. Where the columns are
-- numbered in postorder, the subtree of column x is a span, from the first column below x to x itself. Gilbert, Ng and Peyton 1994.
-- Columns are counted from 1, and n is one more than there are.
use Rattle.std.specs.Prelude.{◌≡◌, ◌⊎◌, ◌↔◌, ◌==◌, ℕ, suc, ◌+◌, ◌-◌, ◌*◌, ◌<◌, ◌≤◌, Bool, true, ◌&&◌, ◌||◌, IsTrue, List, length}
use Rattle.std.specs.Prelude.{slice_index}
use Rattle.std.specs.Prelude.{count_by, sum_by}
use Rattle.std.specs.List.{list_any, range_with_len}
use Rattle.ordering.specs.Fill.{count_of}
use Rattle.limits.specs.Limits.{most_order}
use Rattle.permutations.specs.Perm.{vertex_at}
use Rattle.elim_tree.specs.Forests.{column_in}
use Rattle.elim_tree.specs.Trees.{parent_at, IsAbove}
use Rattle.column_counts.specs.declared.leaves.Leaves.{Leaves}

-- whether some y with a ≤ y < n passes the test
unfoldable pub any_in : (ℕ → Bool) → ℕ → ℕ → Bool
any_in test a n = list_any test (range_with_len a (n - a))

-- the sum of h y over a ≤ y < n
unfoldable pub sum_in : (ℕ → ℕ) → ℕ → ℕ → ℕ
sum_in h a n = sum_by h (range_with_len a (n - a))

-- how many i below n pass the test
unfoldable pub passing : (ℕ → Bool) → ℕ → ℕ
passing test n = count_by test (range_with_len 0 n)

-- ---- subtrees as spans

-- the first of the columns from which the ways up come to x
abbrev pub IsFirsts : List ℕ → List ℕ → Type 0
IsFirsts parents firsts = (x y : ℕ) → x ≤ length parents → IsAbove parents y x ↔ ((slice_index firsts x ≤ y) × (y ≤ x))

-- x itself is in its span; spans are nested or apart
pub record AreSpans (first : ℕ → ℕ) : Type 0 where
  pub own : (x : ℕ) → first x ≤ x
  pub nested : (x y : ℕ) → first x ≤ y → y ≤ x → first x ≤ first y

-- ---- least common ancestors

-- from a column below j the ancestors lead up the tree, and pass over none that is not below j
pub record AreAncestors (first : ℕ → ℕ) (n j : ℕ) (ancestor : ℕ → ℕ) : Type 0 where
  pub rises : (z : ℕ) → 0 < ancestor z → (z < ancestor z) × (first (ancestor z) ≤ z)
  pub nearest : (z w : ℕ) → z < w → w < n → first w ≤ z → j ≤ w → (0 < ancestor z) × (ancestor z ≤ w)

-- and so in a table of them
abbrev pub LeadUp : (ℕ → ℕ) → ℕ → List ℕ → Type 0
LeadUp first j ancestors = AreAncestors first (length ancestors) j (slice_index ancestors)

-- q is the least common ancestor of a column and a later one, j: the least above the column that is not below j
pub record IsCommonAncestor (first : ℕ → ℕ) (n column j q : ℕ) : Type 0 where
  pub from : j ≤ q
  pub above : first q ≤ column
  pub least : (z : ℕ) → z < n → j ≤ z → first z ≤ column → q ≤ z

-- ---- leaves

-- row i of the pattern, with the diagonal, as far as that
abbrev pub IsInRow : (ℕ → ℕ → Bool) → ℕ → ℕ → Type 0
IsInRow joined i y = (y ≡ i) ⊎ (IsTrue (joined i y) × (y < i))

-- column j was taken into row k besides
unfoldable pub with_entry : (ℕ → ℕ → Bool) → ℕ → ℕ → ℕ → ℕ → Bool
with_entry taken k j i y = taken i y || (i == k && y == j)

-- columns up to j were taken into rows: over the span of x, the leaves of rows less the places where their ways up meet come to the number
-- of the rows that have a column in that span. `last` has the last leaf of each row, or 0.
pub record AreLeaves (first : ℕ → ℕ) (n j : ℕ) (taken : ℕ → ℕ → Bool) (last leaves meetings : ℕ → ℕ) : Type 0 where
  pub balance : (x : ℕ) → x < n →
      sum_in leaves (first x) (suc x) ≡ passing (λ i. any_in (taken i) (first x) (suc x)) n + sum_in meetings (first x) (suc x)
  pub until : (i y : ℕ) → taken i y ≡ true → y ≤ j
  pub none : (i : ℕ) → last i ≡ 0 → (y : ℕ) → ¬ (taken i y ≡ true)
  pub leaf : (i : ℕ) → 0 < last i → taken i (last i) ≡ true
  pub covers : (i y x : ℕ) → taken i y ≡ true → j ≤ x → first x ≤ y → first x ≤ last i

-- only columns of a row were taken into it, and of those before j all
pub record AreTaken (joined : ℕ → ℕ → Bool) (n j : ℕ) (taken : ℕ → ℕ → Bool) : Type 0 where
  pub sound : (i y : ℕ) → taken i y ≡ true → IsInRow joined i y × (0 < y)
  pub whole : (i y : ℕ) → 0 < y → y < j → i < n → IsInRow joined i y → taken i y ≡ true

-- ---- the tables

-- each has so many places
pub record HaveLength (n : ℕ) (t : Leaves) : Type 0 where
  pub ancestors : length t.ancestors.table.items ≡ n
  pub last : length t.last.items ≡ n
  pub leaves : length t.leaves.items ≡ n
  pub meetings : length t.meetings.items ≡ n

-- nothing is in them, and the ancestors are the parents
pub record AreEmpty (parents : List ℕ) (t : Leaves) : Type 0 where
  pub long : HaveLength (length parents + 1) t
  pub ancestors : (x : ℕ) → x ≤ length parents → slice_index t.ancestors.table.items x ≡ parent_at parents x
  pub clear : (x : ℕ) → (slice_index t.last.items x ≡ 0) × (slice_index t.leaves.items x ≡ 0) × (slice_index t.meetings.items x ≡ 0)

-- column j may be taken
pub record AreReady (firsts : List ℕ) (j : ℕ) (t : Leaves) : Type 0 where
  pub long : HaveLength (length firsts) t
  pub inside : (x : ℕ) → slice_index t.ancestors.table.items x < length firsts
  pub ancestors : AreAncestors (slice_index firsts) (length firsts) j (slice_index t.ancestors.table.items)

-- no entry is above a bound
abbrev pub AreAtMost : ℕ → Leaves → Type 0
AreAtMost bound t = (x : ℕ) → (slice_index t.leaves.items x ≤ bound) × (slice_index t.meetings.items x ≤ bound)

-- a column is taken into its own row and at most 10^6 others, so that an entry grows by no more
abbrev pub growth : ℕ → ℕ
growth j = (most_order + 1) * j

-- the last leaf of each row, of a table by the vertices of the rows
abbrev pub last_of : List ℕ → Leaves → ℕ → ℕ
last_of order t = λ i. slice_index t.last.items (vertex_at order i)

-- these columns were taken, and none after j
abbrev pub HoldLeaves : List ℕ → List ℕ → ℕ → (ℕ → ℕ → Bool) → Leaves → Type 0
HoldLeaves firsts order j taken t =
    AreLeaves (slice_index firsts) (length firsts) j taken
    (last_of order t) (slice_index t.leaves.items) (slice_index t.meetings.items)

-- the columns before j were taken into all of their rows
abbrev pub AreLeavesBefore : (ℕ → ℕ → Bool) → List ℕ → List ℕ → ℕ → Leaves → Type 0
AreLeavesBefore joined firsts order j t = (taken : ℕ → ℕ → Bool) ×
    HoldLeaves firsts order j taken t × AreTaken joined (length firsts) j taken

-- column j, with this list of neighbours, may be taken into its rows
pub record CanTakeColumn (joined : ℕ → ℕ → Bool) (firsts list order : List ℕ) (j : ℕ) (t : Leaves) : Type 0 where
  pub below : (i y : ℕ) → i < length firsts → IsInRow joined i y → slice_index firsts i ≤ y
  pub sound : (k : ℕ) → k < length list → j < column_in list order k → IsTrue (joined (column_in list order k) j)
  pub whole : (i : ℕ) → j < i → IsTrue (joined i j) → (k : ℕ) × (k < length list) × (column_in list order k ≡ i)
  pub before : AreLeavesBefore joined firsts order j t

-- it was taken into its own row and those of the first k of the list
abbrev pub AreLeavesWith : (ℕ → ℕ → Bool) → List ℕ → List ℕ → List ℕ → ℕ → ℕ → Leaves → Type 0
AreLeavesWith joined firsts list order j k t =
    (taken : ℕ → ℕ → Bool) × HoldLeaves firsts order j taken t × AreTaken joined (length firsts) j taken
    × (taken j j ≡ true) × ((e : ℕ) → e < k → j < column_in list order e → taken (column_in list order e) j ≡ true)

-- ---- the counts

-- over the span of x, leaves less meetings come to the count of x and one for each column below it
abbrev pub AreBalanced : (ℕ → ℕ → Bool) → ℕ → List ℕ → Leaves → Type 0
AreBalanced joined n firsts t = (x : ℕ) → 0 < x → x ≤ n →
    sum_in (slice_index t.leaves.items) (slice_index firsts x) (suc x)
    ≡ count_of joined n x + (x - slice_index firsts x) + sum_in (slice_index t.meetings.items) (slice_index firsts x) (suc x)

-- a table as its sums: at x that of the entries up to x
abbrev pub AreSums : List ℕ → List ℕ → Type 0
AreSums table sums = (length sums ≡ length table) × ((x : ℕ) → x < length table → slice_index sums x ≡ sum_in (slice_index table) 0 (suc x))

-- over the span of x, the difference of the sums of leaves less that of meetings is the count and one for each column below x
pub record HasCount (firsts : List ℕ) (t : Leaves) (x count : ℕ) : Type 0 where
  pub some : 0 < slice_index firsts x
  pub own : slice_index firsts x ≤ x
  pub rising : (slice_index t.leaves.items (slice_index firsts x - 1) ≤ slice_index t.leaves.items x)
      × (slice_index t.meetings.items (slice_index firsts x - 1) ≤ slice_index t.meetings.items x)
  pub is : slice_index t.leaves.items x + slice_index t.meetings.items (slice_index firsts x - 1)
      ≡ count + (x - slice_index firsts x) + slice_index t.meetings.items x + slice_index t.leaves.items (slice_index firsts x - 1)
  pub few : count ≤ most_order
