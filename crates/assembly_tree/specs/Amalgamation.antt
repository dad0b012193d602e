-- Relaxed supernodes: supernodes are merged into their parents where that puts few explicit zeros into the factor. Duff and Reid, The
-- multifrontal solution of indefinite sparse symmetric linear equations, 1983; Ashcraft and Grimes, The influence of relaxed supernode
-- partitions on the multifrontal method, 1989.
--
-- A merged supernode keeps its number until the end, and has no columns any more.
use Rattle.std.specs.Prelude.{◌==◌, ℕ, ◌+◌, ◌-◌, ◌*◌, Bool, not, ◌||◌, nat_lt, if◌then◌else◌, List, length, map, take, filter, fold}
use Rattle.std.specs.List.{range_with_len, count_by, slice_set}
use Rattle.assembly_tree.specs.declared.assembly.Super.{Super}
use Rattle.assembly_tree.specs.Assembly.{AssemblyTree, super_at, front_of, reparented}

-- the explicit zeros that merging a child into its parent puts into the factor: each of its columns gets the rows of the parent's front
-- that it has not
abbrev pub zeros_of : Super → Super → ℕ
zeros_of child parent = child.columns * (front_of parent - child.rest)

-- p in place of s
abbrev pub merged_number : ℕ → ℕ → ℕ → ℕ
merged_number s p x = if x == s then p else x

-- the supernodes, where s gives its columns to p
abbrev pub merged_supers : List Super → ℕ → ℕ → List Super
merged_supers supers s p =
    let child = super_at supers s in
    let parent = super_at supers p in
    slice_set (slice_set supers (p - 1) (record parent { columns = parent.columns + child.columns })) (s - 1) (record child { columns = 0 })

-- supernode s, merged into p: its columns and its children are those of p
abbrev pub merged : AssemblyTree → ℕ → ℕ → AssemblyTree
merged assembly s p = record {
  supers = map (reparented (merged_number s p)) (merged_supers assembly.supers s p);
  nodes = map (merged_number s p) assembly.nodes;
}

-- supernode s is merged into its parent, where that takes at most so many zeros
abbrev pub visited : ℕ → AssemblyTree → ℕ → AssemblyTree
visited zeros assembly s =
    let child = super_at assembly.supers s in
    if child.parent == 0 || nat_lt zeros (zeros_of child (super_at assembly.supers child.parent)) then assembly
    else merged assembly s child.parent

abbrev pub is_left : Super → Bool
is_left x = not (x.columns == 0)

-- the number of supernode s among those that are left
abbrev pub new_number : List Super → ℕ → ℕ
new_number supers s = count_by is_left (take s supers)

-- those that are left, in their old order
abbrev pub numbered : AssemblyTree → AssemblyTree
numbered assembly = record {
  supers = map (reparented (new_number assembly.supers)) (filter is_left assembly.supers);
  nodes = map (new_number assembly.supers) assembly.nodes;
}

-- the supernodes are visited by rising number, each as it then stands
abbrev pub amalgamated : ℕ → AssemblyTree → AssemblyTree
amalgamated zeros assembly = numbered (fold (visited zeros) assembly (range_with_len 1 (length assembly.supers)))
