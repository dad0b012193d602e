-- The fronts of an assembly tree, as a tree of tasks: the front of a supernode is assembled from the contribution blocks of its children,
-- its columns are eliminated, and its own block is left to its parent. Duff and Reid, The multifrontal solution of indefinite sparse
-- symmetric linear equations, 1983; Liu, The multifrontal method for sparse matrix solution, 1992.
use Rattle.std.specs.Prelude.{◌==◌, ℕ, ◌+◌, ◌-◌, ◌*◌, ◌/◌, Bool, if◌then◌else◌, max, List, length, map, filter, fold}
use Rattle.std.specs.List.{range_with_len}
use Rattle.trees.specs.declared.node.Node.{Node}
use Rattle.assembly_tree.specs.declared.assembly.Super.{Super}
use Rattle.assembly_tree.specs.declared.front.Shape.{Shape}
use Rattle.assembly_tree.specs.declared.front.Shape.TheVariants.{Triangle, Square}
use Rattle.assembly_tree.specs.Assembly.{super_at, front_of}

-- the entries of a matrix of order r that are kept
abbrev pub kept_entries : Shape → ℕ → ℕ
kept_entries Triangle r = r * (r + 1) / 2
kept_entries Square r = r * r

-- the contribution block
abbrev pub block_of : Shape → Super → ℕ
block_of shape x = kept_entries shape x.rest

-- the supernodes whose parent is s
abbrev pub child_supers : List Super → ℕ → List Super
child_supers supers s = filter (λ x. x.parent == s) supers

-- the greatest block of the children of s, 0 where it has none
abbrev pub share_of : Shape → List Super → ℕ → ℕ
share_of shape supers s = fold max 0 (map (block_of shape) (child_supers supers s))

-- the front of a supernode, as a task: its block is left, the rest of it is needed while its columns are eliminated
abbrev pub front_node : Shape → ℕ → Super → Node
front_node shape share x = record {
  parent = x.parent;
  out = block_of shape x;
  extra = kept_entries shape (front_of x) - block_of shape x;
  share = share;
  time = x.columns;
}

-- that of supernode s. With in-place assembly it takes over the greatest block of its children; without, nothing
abbrev pub front_at : Shape → Bool → List Super → ℕ → Node
front_at shape inplace supers s = front_node shape (if inplace then share_of shape supers s else 0) (super_at supers s)

-- the fronts by number
abbrev pub nodes_of_fronts : Shape → Bool → List Super → List Node
nodes_of_fronts shape inplace supers = map (front_at shape inplace supers) (range_with_len 1 (length supers))
