-- Relaxed supernodes, told without the visits that find them: which supernodes go into their parents, what those that stay are then, and
-- where each column is. Duff and Reid 1983; Ashcraft and Grimes 1989.
use Rattle.std.specs.Prelude.{◌≡◌, ◌==◌, ◌↔◌, ℕ, ◌+◌, ◌-◌, ◌<◌, ◌≤◌, Bool, not, ◌&&◌, if◌then◌else◌, IsTrue, List, length, map, filter}
use Rattle.std.specs.List.{range_with_len, sum_by, count_by}
use Rattle.assembly_tree.specs.declared.assembly.Super.{Super}
use Rattle.assembly_tree.specs.Assembly.{AssemblyTree, IsSuper, super_at}
use Rattle.assembly_tree.specs.Amalgamation.{zeros_of}

-- supernode s with the columns of those of its children, among the first k supernodes, that go into it
abbrev pub enlarged : (ℕ → Bool) → (ℕ → ℕ) → List Super → ℕ → ℕ → Super
enlarged goes width supers k s = record (super_at supers s) {
  columns = (super_at supers s).columns + sum_by width (filter (λ c. goes c && (super_at supers c).parent == s) (range_with_len 1 k));
}

-- the number of supernode s among those that stay
abbrev pub number_among : (ℕ → Bool) → ℕ → ℕ
number_among goes s = count_by (λ t. not (goes t)) (range_with_len 1 s)

-- what merging supernodes of old into their parents yields
pub record IsRelaxed (zeros : ℕ) (old new : AssemblyTree) : Type 0 where
  -- whether a supernode goes into its parent, and how many columns it has by then
  pub goes : ℕ → Bool
  pub width : ℕ → ℕ
  pub widths : (s : ℕ) → IsSuper old.supers s → width s ≡ (enlarged goes width old.supers (s - 1) s).columns
  -- it goes where it has a parent and that puts at most so many zeros into the factor, as both are after all that have lower numbers
  pub rule : (s : ℕ) → IsSuper old.supers s →
      let parent = (super_at old.supers s).parent in
      let so_far = enlarged goes width old.supers (s - 1) in
      IsTrue (goes s) ↔ ((0 < parent) × (zeros_of (so_far s) (so_far parent) ≤ zeros))
  -- where it stands in the end: a union of supernodes that are joined by parent links stands in the last of them
  pub home : ℕ → ℕ
  pub none : home 0 ≡ 0
  pub homes : (s : ℕ) → IsSuper old.supers s → home s ≡ (if goes s then home ((super_at old.supers s).parent) else s)
  -- those that stay are numbered in their old order
  pub supers :
      let n = length old.supers in
      let parent = λ (s : ℕ). number_among goes (home ((super_at old.supers s).parent)) in
      let kept = λ (s : ℕ). record (enlarged goes width old.supers n s) { parent = parent s } in
      new.supers ≡ map kept (filter (λ s. not (goes s)) (range_with_len 1 n))
  pub nodes : new.nodes ≡ map (λ s. number_among goes (home s)) old.nodes
