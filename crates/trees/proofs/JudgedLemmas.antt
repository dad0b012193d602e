-- Nodes that pass all tests are within the limits; where their parents lead to roots and their shares fit, they are a tree.
use Rattle.std.proofs.Common.{◌≡◌, ℕ, ◌+◌, ◌-◌, ◌<◌, ◌≤◌, List, length, get_or, subst, arith}
use Rattle.std.proofs.lemmas.List.{get_or_default}
use Rattle.std.proofs.lemmas.List.Elements.{All-from_get_or}
use Rattle.limits.specs.Limits.{most_size, most_time}
use Rattle.trees.specs.declared.node.Node.{Node}
use Rattle.trees.specs.declared.judged.NodeTest.TheVariants as tests
use Rattle.trees.specs.Tree.{IsNode, IsNodeWithin, IsTree, NodeShareFits}
use Rattle.trees.specs.Judged.{AllLead, AllPass, AreNodesWithin, HasTotal, PassAll}

abbrev pub none : Node
none = record { parent = 0; out = 0; extra = 0; share = 0; time = 0 }

-- what holds of each node by its number holds at each place
at_place : (nodes : List Node) (P : Node → Type 0) (i : ℕ) (d : Node) → i < length nodes
    → ((v : ℕ) → IsNode nodes v → P (get_or nodes (v - 1) none)) → P (get_or nodes i d)
at_place nodes P i d inside each =
    let e : i + 1 - 1 ≡ i = omega arith in
    subst P (get_or_default nodes i none d inside)
    (subst (λ (k : ℕ). P (get_or nodes k none)) e (each (i + 1) (omega arith, omega (arith, inside))))

pub parents_fit : (nodes : List Node) → AllPass nodes tests.Parent
    → (i : ℕ) (d : Node) → i < length nodes → (get_or nodes i d).parent ≤ length nodes
parents_fit nodes each i d inside = at_place nodes (λ n. n.parent ≤ length nodes) i d inside each

pub sizes_fit : (nodes : List Node) → AllPass nodes tests.Size
    → (i : ℕ) (d : Node) → i < length nodes → ((get_or nodes i d).out ≤ most_size) × ((get_or nodes i d).extra ≤ most_size)
sizes_fit nodes each i d inside = at_place nodes (λ n. (n.out ≤ most_size) × (n.extra ≤ most_size)) i d inside each

times_fit : (nodes : List Node) → AllPass nodes tests.Time → AllPass nodes tests.LongTime
    → (i : ℕ) (d : Node) → i < length nodes → (1 ≤ (get_or nodes i d).time) × ((get_or nodes i d).time ≤ most_time)
times_fit nodes some short i d inside =
    (at_place nodes (λ n. 1 ≤ n.time) i d inside some, at_place nodes (λ n. n.time ≤ most_time) i d inside short)

pub are_within : (nodes : List Node) → PassAll nodes → HasTotal nodes → AreNodesWithin nodes
are_within nodes pass total = record {
  some = pass.counted.0;
  few = pass.counted.1;
  each =
      All-from_get_or (IsNodeWithin nodes) nodes none (λ i inside. let s = sizes_fit nodes (pass.each tests.Size) i none inside in record {
        parent = parents_fit nodes (pass.each tests.Parent) i none inside;
        out = s.0;
        extra = s.1;
        time = times_fit nodes (pass.each tests.Time) (pass.each tests.LongTime) i none inside;
      });
  total = total;
}

pub are_tree : (nodes : List Node) → AreNodesWithin nodes → AllLead nodes
    → ((v : ℕ) → IsNode nodes v → NodeShareFits nodes v) → IsTree nodes
are_tree nodes within roots shares = record {
  some = within.some;
  few = within.few;
  each = within.each;
  total = within.total;
  roots = roots;
  shares = shares;
}
