-- No public clause names this.
-- How the code finds supernodes: tables that it keeps, and what it has cut so far.
use Rattle.std.specs.Prelude.{◌≡◌, ◌==◌, ℕ, ◌+◌, ◌<◌, ◌≤◌, List, length, slice_index}
use Rattle.std.specs.List.{count_by}
use Rattle.permutations.specs.Perm.{IsVertex}
use Rattle.elim_tree.specs.Trees.{parent_at}
use Rattle.assembly_tree.specs.declared.assembly.Super.{Super}
use Rattle.assembly_tree.specs.Assembly.{IsSuper, HaveColumns, super_at, super_of, front_of}
use Rattle.assembly_tree.specs.Supernodes.{count_at, Continues, first_of, last_of}

-- of the columns above `done`, the least child of each column; 0 where it has none. Column 0 has a place too
pub record AreFirstChildren (parents children : List ℕ) (done : ℕ) : Type 0 where
  pub len : length children ≡ length parents + 1
  pub least : (c : ℕ) → IsVertex (length parents) c → done < c → let first = slice_index children (parent_at parents c) in
      (1 ≤ first) × (first ≤ c)
  pub child : (p : ℕ) → 0 < p → p ≤ length parents → let first = slice_index children p in
      0 < first → IsVertex (length parents) first × (parent_at parents first ≡ p)

-- the first `done` columns are cut into supernodes and one run of `running` columns that may go on; the parent of a supernode stands as the
-- column that it has
pub record AreRuns (parents counts : List ℕ) (supers : List Super) (nodes : List ℕ) (running done : ℕ) : Type 0 where
  pub total : last_of supers (length supers) + running ≡ done
  pub some : (s : ℕ) → IsSuper supers s → 1 ≤ (super_at supers s).columns
  pub len : length nodes ≡ done
  pub nodes_closed : (s j : ℕ) → IsSuper supers s → first_of supers s ≤ j → j ≤ last_of supers s → super_of nodes j ≡ s
  pub nodes_open : (j : ℕ) → last_of supers (length supers) < j → j ≤ done → super_of nodes j ≡ length supers + 1
  pub held_closed : HaveColumns supers nodes
  pub held_open : count_by (λ t. t == length supers + 1) nodes ≡ running
  pub held_later : (s : ℕ) → length supers + 1 < s → count_by (λ t. t == s) nodes ≡ 0
  pub runs_closed : (s j : ℕ) → IsSuper supers s → first_of supers s ≤ j → j < last_of supers s → Continues parents counts j
  pub runs_open : (j : ℕ) → last_of supers (length supers) < j → j ≤ done → Continues parents counts j
  pub longest : (s : ℕ) → IsSuper supers s → ¬ (Continues parents counts (last_of supers s))
  pub front : (s : ℕ) → IsSuper supers s → front_of (super_at supers s) ≡ count_at counts (first_of supers s)
  pub parent : (s : ℕ) → IsSuper supers s → (super_at supers s).parent ≡ parent_at parents (last_of supers s)
  pub fall : 0 < running → count_at counts done + running ≡ count_at counts (last_of supers (length supers) + 1) + 1
