-- No public clause names this.
-- How the code amalgamates: supernodes keep the parents that they had at first, and those that were merged have no columns.
use Rattle.std.specs.Prelude.{◌≡◌, ◌==◌, ℕ, ◌<◌, ◌≤◌, Bool, nat_lt, ◌||◌, if◌then◌else◌, List, length, map, filter, fold, slice_index}
use Rattle.std.specs.List.{range_with_len, sum_by}
use Rattle.assembly_tree.specs.declared.assembly.Super.{Super}
use Rattle.assembly_tree.specs.Assembly.{AssemblyTree, IsSuper, HaveColumns, super_at, columns_in, front_of, reparented}
use Rattle.assembly_tree.specs.Amalgamation.{zeros_of, merged_supers, visited, is_left, new_number}

-- whether supernode s stays as it is when it is visited
abbrev pub stays : ℕ → List Super → ℕ → Bool
stays zeros supers s =
    let child = super_at supers s in
    child.parent == 0 || nat_lt zeros (zeros_of child (super_at supers child.parent))

-- the supernodes once s was visited, and once the first `done` of them were
abbrev pub gathered_at : ℕ → List Super → ℕ → List Super
gathered_at zeros supers s = if stays zeros supers s then supers else merged_supers supers s (super_at supers s).parent

abbrev pub gathered : ℕ → List Super → ℕ → List Super
gathered zeros supers done = fold (gathered_at zeros) supers (range_with_len 1 done)

-- each supernode stands in the one that `name` names: itself, or that of its parent where it was merged
pub record AreNames (supers : List Super) (name : ℕ → ℕ) : Type 0 where
  pub none : name 0 ≡ 0
  pub left : (s : ℕ) → IsSuper supers s → 0 < (super_at supers s).columns → name s ≡ s
  pub gone : (s : ℕ) → IsSuper supers s → (super_at supers s).columns ≡ 0 → let parent = (super_at supers s).parent in
      (s < parent) × (parent ≤ length supers) × (name s ≡ name parent)

-- the assembly tree that the code's supernodes stand for, and that of those that are left
abbrev pub named : (ℕ → ℕ) → List Super → List ℕ → AssemblyTree
named name supers nodes = record { supers = map (reparented name) supers; nodes = map name nodes }

abbrev pub left_of : (ℕ → ℕ) → List Super → List ℕ → AssemblyTree
left_of name supers nodes = record {
  supers = map (reparented (λ s. new_number supers (name s))) (filter is_left supers);
  nodes = map (λ s. new_number supers (name s)) nodes;
}

-- the first `done` of the supernodes were visited: only columns change, and those that were not visited have all of theirs
pub record IsMerging (zeros : ℕ) (old new : List Super) (done : ℕ) : Type 0 where
  pub is : new ≡ gathered zeros old done
  pub len : length new ≡ length old
  pub rest : (s : ℕ) → 1 ≤ s → (super_at new s).rest ≡ (super_at old s).rest
  pub parent : (s : ℕ) → 1 ≤ s → (super_at new s).parent ≡ (super_at old s).parent
  pub grown : (s : ℕ) → done < s → (super_at old s).columns ≤ (super_at new s).columns
  pub total : sum_by columns_in new ≡ sum_by columns_in old

-- and each stands in the one that `name` names
pub record AreStanding (zeros : ℕ) (old new : List Super) (done : ℕ) : Type 0 where
  pub name : ℕ → ℕ
  pub names : AreNames new name
  pub stands : (nodes : List ℕ) →
      fold (visited zeros) (record { supers = old; nodes = nodes }) (range_with_len 1 done) ≡ named name new nodes
  pub held : (nodes : List ℕ) → HaveColumns old nodes → HaveColumns new (map name nodes)
  -- where its parent stands, the front holds the further rows of a supernode
  pub fits : (s : ℕ) → IsSuper old s → 0 < (super_at old s).parent →
      (super_at old s).rest ≤ front_of (super_at new (name ((super_at old s).parent)))

-- by old number, the new number of where each supernode stands
abbrev pub AreNewNumbers : List Super → List ℕ → Type 0
AreNewNumbers supers numbers = (name : ℕ → ℕ) → AreNames supers name →
    (s : ℕ) → s ≤ length supers → slice_index numbers s ≡ new_number supers (name s)

-- the numbers of the supernodes that are left, by old number; from above `done` on, merged ones have the number of where they stand
pub record AreNumbersSoFar (supers : List Super) (numbers : List ℕ) (name : ℕ → ℕ) (done : ℕ) : Type 0 where
  pub earlier : (s : ℕ) → s ≤ done → slice_index numbers s ≡ new_number supers s
  pub later : (s : ℕ) → done < s → s ≤ length supers → slice_index numbers s ≡ new_number supers (name s)
