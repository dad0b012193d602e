-- The columns of the fronts of a matrix, one front after another. Liu, The multifrontal method for sparse matrix solution, 1992.
use Rattle.std.specs.Prelude.{◌==◌, ℕ, ◌<◌, List, length, map, filter}
use Rattle.std.specs.List.{range_with_len, flat_map}
use Rattle.permutations.specs.Perm.{IsPerm, vertex_at, place_of}
use Rattle.assembly_tree.specs.declared.assembly.Super.{Super}
use Rattle.assembly_tree.specs.Assembly.{AssemblyTree, IsSuper, super_at, super_of}

-- the columns of a front, by rising number
abbrev pub columns_in_front : AssemblyTree → ℕ → List ℕ
columns_in_front assembly s = filter (λ j. super_of assembly.nodes j == s) (range_with_len 1 (length assembly.nodes))

-- their vertices, where the columns are numbered in this order
abbrev pub vertices_in_front : List ℕ → AssemblyTree → ℕ → List ℕ
vertices_in_front perm assembly s = map (vertex_at perm) (columns_in_front assembly s)

-- those of fronts one after another
abbrev pub vertices_along : List ℕ → AssemblyTree → List ℕ → List ℕ
vertices_along perm assembly fronts = flat_map (vertices_in_front perm assembly) fronts

-- the front in which a vertex is eliminated
abbrev pub front_of_vertex : List ℕ → AssemblyTree → ℕ → ℕ
front_of_vertex perm assembly v = super_of assembly.nodes (place_of perm v)

-- all fronts, each of them before its parent
pub record IsFrontOrder (supers : List Super) (fronts : List ℕ) : Type 0 where
  pub perm : IsPerm (length supers) fronts
  pub before : (s : ℕ) → IsSuper supers s → 0 < (super_at supers s).parent
      → place_of fronts s < place_of fronts ((super_at supers s).parent)
