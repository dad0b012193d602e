-- The fundamental supernodes of a factor, by its elimination tree and the counts of its columns: the longest runs of columns that have one
-- structure below them, of which each but the first has the one before it as its only child. Liu, Ng and Peyton, On finding supernodes for
-- sparse matrix computations, 1993.
use Rattle.std.specs.Prelude.{◌≡◌, ℕ, ◌+◌, ◌-◌, ◌<◌, ◌≤◌, List, length, slice_index_or, take}
use Rattle.std.specs.List.{sum_by}
use Rattle.permutations.specs.Perm.{IsVertex}
use Rattle.elim_tree.specs.Trees.{parent_at}
use Rattle.assembly_tree.specs.declared.assembly.Super.{Super}
use Rattle.assembly_tree.specs.Assembly.{AssemblyTree, IsSuper, super_at, super_of, columns_in, front_of}

-- the count of a column
abbrev pub count_at : List ℕ → ℕ → ℕ
count_at counts j = slice_index_or counts (j - 1) 0

-- what the counts of a factor meet: a column counts itself, a root only itself, and all else in a column is in its parent too
pub record IsColumnCount (parents counts : List ℕ) (j : ℕ) : Type 0 where
  pub some : 1 ≤ count_at counts j
  pub root : parent_at parents j ≡ 0 → count_at counts j ≡ 1
  pub child : 0 < parent_at parents j → count_at counts j ≤ count_at counts (parent_at parents j) + 1

pub record AreColumnCounts (parents counts : List ℕ) : Type 0 where
  pub len : length counts ≡ length parents
  pub each : (j : ℕ) → IsVertex (length parents) j → IsColumnCount parents counts j

-- column j + 1 goes on with the supernode of column j: j is its only child, and has one row more
pub record Continues (parents counts : List ℕ) (j : ℕ) : Type 0 where
  pub parent : parent_at parents j ≡ j + 1
  pub only : (c : ℕ) → IsVertex (length parents) c → parent_at parents c ≡ j + 1 → c ≡ j
  pub count : count_at counts j ≡ count_at counts (j + 1) + 1

-- the last column of a supernode, where the supernodes have the columns one after another: they have that many columns up to it
abbrev pub last_of : List Super → ℕ → ℕ
last_of supers s = sum_by columns_in (take s supers)

-- its first column
abbrev pub first_of : List Super → ℕ → ℕ
first_of supers s = last_of supers (s - 1) + 1

-- the fundamental supernodes, numbered by rising first column
pub record AreSupernodes (parents counts : List ℕ) (assembly : AssemblyTree) : Type 0 where
  -- each column is in one of them, and each has at least one
  pub total : last_of assembly.supers (length assembly.supers) ≡ length parents
  pub some : (s : ℕ) → IsSuper assembly.supers s → first_of assembly.supers s ≤ last_of assembly.supers s
  pub len : length assembly.nodes ≡ length parents
  pub nodes : (s j : ℕ) → IsSuper assembly.supers s → first_of assembly.supers s ≤ j → j ≤ last_of assembly.supers s →
      super_of assembly.nodes j ≡ s
  -- they are runs, and none is longer
  pub runs : (s j : ℕ) → IsSuper assembly.supers s → first_of assembly.supers s ≤ j → j < last_of assembly.supers s →
      Continues parents counts j
  pub longest : (s : ℕ) → IsSuper assembly.supers s → ¬ (Continues parents counts (last_of assembly.supers s))
  -- the front of a supernode has the rows of its first column, and its parent has the parent of its last column
  pub front : (s : ℕ) → IsSuper assembly.supers s → front_of (super_at assembly.supers s) ≡ count_at counts (first_of assembly.supers s)
  pub parent : (s : ℕ) → IsSuper assembly.supers s →
      (super_at assembly.supers s).parent ≡ super_of assembly.nodes (parent_at parents (last_of assembly.supers s))
