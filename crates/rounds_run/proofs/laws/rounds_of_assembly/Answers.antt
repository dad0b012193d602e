use Rattle.std.proofs.Common.{◌≤◌, ℕ, List, map, refl, arith}
use Rattle.activation.specs.Machine.{IsSetting, start_state}
use Rattle.activation.specs.Schedule.{HoldsEach}
use Rattle.assembly_tree.specs.Assembly.{AssemblyTree, IsAssembly}
use Rattle.mp_system.specs.System.{IsSystem}
use Rattle.trees.specs.declared.node.Node.{Node}
use Rattle.trees.specs.Tree.{IsTree, system_of_nodes}
use Rattle.rounds_run.specs.RowSystem.{row_node, row_system, row_order, row_peak, row_setting}
use Rattle.shared_systems.specs.OneReader.{shared_of}
use Rattle.shared_systems.proofs.SameSystems.{from_own, peak_same}
use Rattle.shared_systems.proofs.OneReader.{traversal_within}
use Rattle.rounds_run.proofs.MostUsed.{most_within}
use Rattle.rounds_run.proofs.PlanLemmas.{holds_each}
use Rattle.rounds_run.proofs.RowTrees.{row_tree, row_traversal}
use Rattle.rounds_run.proofs.laws.rounds_of_assembly.Goals as goal

module _ (systems : (nodes : List Node) → IsTree nodes → IsSystem (system_of_nodes nodes))
    (assembly : AssemblyTree) (is : IsAssembly assembly) where
  is_setting : (bound workers : ℕ) → row_peak assembly.supers ≤ bound → 1 ≤ workers → IsSetting (row_setting assembly.supers bound workers)
  is_setting bound workers within some =
      let system = row_system assembly.supers in
      let order = row_order assembly.supers in
      record {
        system = traversal_within system (systems (map row_node assembly.supers) (row_tree assembly is)) order
            (row_traversal assembly is);
        traversal = from_own system order (row_traversal assembly is);
        bound = omega (arith, peak_same system order, within);
        workers = some;
      }

  holds : HoldsEach (shared_of (row_system assembly.supers)) (row_order assembly.supers)
  holds = holds_each (shared_of (row_system assembly.supers)) (row_system assembly.supers)
      (row_order assembly.supers) (row_order assembly.supers) refl refl (row_traversal assembly is)

pub returns-clause-rounds : goal.returns-clause-rounds
returns-clause-rounds c = λ assembly bound workers one two used more is within some first second.
    c.one_list_of_rounds.ensures.rounds (row_setting assembly.supers bound workers) one two used more
    (is_setting c.tree_system.ensures.system assembly is bound workers within some)
    (holds c.tree_system.ensures.system assembly is) first second

pub returns-clause-used : goal.returns-clause-used
returns-clause-used c = λ assembly bound workers one two used more is within some first second.
    c.one_list_of_rounds.ensures.used (row_setting assembly.supers bound workers) one two used more
    (is_setting c.tree_system.ensures.system assembly is bound workers within some)
    (holds c.tree_system.ensures.system assembly is) first second

pub returns-clause-within : goal.returns-clause-within
returns-clause-within c = λ setting rounds used are.
    let most = most_within setting are.events (start_state setting) are.stays_within in
    omega (arith, most, are.used_is)
