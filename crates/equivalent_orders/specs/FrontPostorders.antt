-- Postorders of the fronts of a matrix, in which a solver makes one front after another and keeps on a stack what it hands on. Duff and
-- Reid 1983; Liu, The multifrontal method for sparse matrix solution, 1992.
use Rattle.std.specs.Prelude.{◌≡◌, ◌↔◌, ℕ, ◌≤◌, List, ◌++◌, map}
use Rattle.std.specs.List.{flat_map}
use Rattle.permutations.specs.Perm.{place_of, times}
use Rattle.elim_tree.specs.Trees.{IsAbove}
use Rattle.assembly_tree.specs.declared.assembly.Super.{Super}
use Rattle.assembly_tree.specs.Assembly.{AssemblyTree, IsSuper, super_at, super_of, reparented}
use Rattle.equivalent_orders.specs.Fronts.{columns_in_front, IsFrontOrder}

-- the parent of each front, or 0 where it has none: the tree of the fronts
abbrev pub front_parents : List Super → List ℕ
front_parents supers = map (λ x. x.parent) supers

-- all fronts, each before its parent, and those of each subtree stand together, its root last: whoever stands between a front and one that
-- is above it is below that one too. The children of a front may come in any order.
pub record IsFrontPostorder (supers : List Super) (fronts : List ℕ) : Type 0 where
  pub order : IsFrontOrder supers fronts
  pub together : (a b s : ℕ) → IsSuper supers a → IsSuper supers b → IsAbove (front_parents supers) a s
      → place_of fronts a ≤ place_of fronts b → place_of fronts b ≤ place_of fronts s → IsAbove (front_parents supers) b s

-- the fronts of the subtree of s are some in a row: the order is cut into three, and the part in the middle has them
pub record StandTogether (supers : List Super) (fronts : List ℕ) (s : ℕ) : Type 0 where
  pub before : List ℕ
  pub block : List ℕ
  pub after : List ℕ
  pub parts : fronts ≡ before ++ (block ++ after)
  pub exact : (t : ℕ) → IsSuper supers t → (1 ≤ times block t) ↔ IsAbove (front_parents supers) t s

-- the same fronts, numbered in this order, and their columns one front after another
abbrev pub fronts_along : AssemblyTree → List ℕ → AssemblyTree
fronts_along assembly fronts = record {
  supers = map (λ s. reparented (place_of fronts) (super_at assembly.supers s)) fronts;
  nodes = map (λ j. place_of fronts (super_of assembly.nodes j)) (flat_map (columns_in_front assembly) fronts);
}
