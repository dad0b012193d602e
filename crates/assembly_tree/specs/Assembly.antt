-- Assembly trees. A supernode is a set of columns of the factor that share one front: a dense matrix of its columns and of the further rows
-- below them. Duff and Reid, The multifrontal solution of indefinite sparse symmetric linear equations, 1983; Liu, The multifrontal method
-- for sparse matrix solution, 1992.
use Rattle.std.specs.Prelude.{◌≡◌, ◌==◌, ℕ, zero, suc, ◌+◌, ◌-◌, ◌<◌, ◌≤◌, List, length, slice_index_or}
use Rattle.std.specs.List.{sum_by, count_by}
use Rattle.limits.specs.Limits.{most_order}
use Rattle.permutations.specs.Perm.{IsVertex}
use Rattle.assembly_tree.specs.declared.assembly.Super.{Super}

-- the supernodes by number, and the number of the supernode of each column; both count from 1
pub record AssemblyTree : Type 0 where
  pub supers : List Super
  pub nodes : List ℕ

abbrev pub IsSuper : List Super → ℕ → Type 0
IsSuper supers s = (1 ≤ s) × (s ≤ length supers)

abbrev pub no_super : Super
no_super = record { columns = 0; rest = 0; parent = 0 }

-- the supernode with a number
abbrev pub super_at : List Super → ℕ → Super
super_at supers s = slice_index_or supers (s - 1) no_super

-- the number of the supernode that has a column; column 0 is in none
abbrev pub super_of : List ℕ → ℕ → ℕ
super_of nodes zero = 0
super_of nodes (suc i) = slice_index_or nodes i 0

abbrev pub columns_in : Super → ℕ
columns_in x = x.columns

-- the order of the front
abbrev pub front_of : Super → ℕ
front_of x = x.columns + x.rest

-- the supernode with another parent
abbrev pub reparented : (ℕ → ℕ) → Super → Super
reparented name x = record x { parent = name x.parent }

-- as many columns stand in each supernode as it says
abbrev pub HaveColumns : List Super → List ℕ → Type 0
HaveColumns supers nodes = (s : ℕ) → IsSuper supers s → count_by (λ t. t == s) nodes ≡ (super_at supers s).columns

-- what each supernode keeps to
pub record IsSuperWithin (supers : List Super) (s : ℕ) : Type 0 where
  pub some : 1 ≤ (super_at supers s).columns
  -- the parent has a greater number
  pub parent : 0 < (super_at supers s).parent → (s < (super_at supers s).parent) × ((super_at supers s).parent ≤ length supers)
  -- the parent's front holds the further rows of its child
  pub rest : 0 < (super_at supers s).parent → (super_at supers s).rest ≤ front_of (super_at supers ((super_at supers s).parent))
  -- a root has none
  pub root : (super_at supers s).parent ≡ 0 → (super_at supers s).rest ≡ 0

-- an assembly tree of 1 column up to the limit of rows, each of which has its supernode
pub record IsAssembly (assembly : AssemblyTree) : Type 0 where
  pub some : 1 ≤ length assembly.nodes
  pub few : length assembly.nodes ≤ most_order
  pub each : (s : ℕ) → IsSuper assembly.supers s → IsSuperWithin assembly.supers s
  pub total : sum_by columns_in assembly.supers ≡ length assembly.nodes
  pub held : HaveColumns assembly.supers assembly.nodes
  pub fits : (s : ℕ) → IsSuper assembly.supers s → front_of (super_at assembly.supers s) ≤ length assembly.nodes
  pub nodes : (j : ℕ) → IsVertex (length assembly.nodes) j → IsSuper assembly.supers (super_of assembly.nodes j)
