-- Why a file whose lines pass is refused: what its graph is judged by has a fault.
use Rattle.std.proofs.Common.{◌≡◌, ℕ, ◌-◌, List, length, get_or, inl, inr, sym, ap, subst}
use Rattle.mp_text.specs.declared.refusals.Refusal.{Refusal}
use Rattle.mp_text.specs.Grammar.{fault_at}
use Rattle.mp_system.specs.declared.system.Task.{Task}
use Rattle.lists.specs.Numbers.{IsFirstWithout}
use Rattle.graphs.specs.declared.arc.Arc.{Arc}
use Rattle.graphs.specs.declared.judged.GraphFault.TheVariants as faults
use Rattle.graphs.specs.Graph.{TaskGraph, CanBeOrdered, TaskShareFits}
use Rattle.graphs.specs.Judged.{HasFewArcs, IsOrdered, IsGraphFault}
use Rattle.graph_files.specs.declared.kind.GraphKind.{GraphKind}
use Rattle.graph_files.specs.declared.kind.GraphKind.TheVariants as kinds
use Rattle.graph_files.specs.GraphFile.{IsGraphRefusal}
use Rattle.graph_files.specs.Stated.{IsStated}

-- tasks and arcs that the lines of a file state, and the numbers of the lines that state the tasks
module _ (bytes : List ℕ) (tasks : List Task) (arcs : List Arc) (lines : List ℕ)
    (stated : IsStated bytes (record { tasks = tasks; arcs = arcs }) lines) where
  pub refuses-cycle : (task : ℕ) (refusal : Refusal GraphKind) → refusal ≡ fault_at (get_or lines (task - 1) 0) kinds.Cycle
      → IsGraphFault (record { tasks = tasks; arcs = arcs }) (faults.Cycle task) → IsGraphRefusal bytes refusal
  refuses-cycle task refusal e fault =
      subst (IsGraphRefusal bytes) (sym e) (inr (inr (inl (record {
        form = stated.form;
        few = subst HasFewArcs stated.graph_is fault.0;
        task = task;
        first = subst (λ (g : TaskGraph). IsFirstWithout (length g.tasks) (CanBeOrdered g.arcs) task) stated.graph_is fault.1;
        refusal_is = ap (λ (line : ℕ). fault_at line kinds.Cycle) (stated.lines_are task fault.1.is_place);
      }))))

  pub refuses-share : (task : ℕ) (refusal : Refusal GraphKind) → refusal ≡ fault_at (get_or lines (task - 1) 0) kinds.Share
      → IsGraphFault (record { tasks = tasks; arcs = arcs }) (faults.Share task) → IsGraphRefusal bytes refusal
  refuses-share task refusal e fault =
      subst (IsGraphRefusal bytes) (sym e) (inr (inr (inr (record {
        form = stated.form;
        few = subst HasFewArcs stated.graph_is fault.0;
        ordered = subst IsOrdered stated.graph_is fault.1;
        task = task;
        first = subst (λ (g : TaskGraph). IsFirstWithout (length g.tasks) (TaskShareFits g.tasks g.arcs) task) stated.graph_is fault.2;
        refusal_is = ap (λ (line : ℕ). fault_at line kinds.Share) (stated.lines_are task fault.2.is_place);
      }))))
