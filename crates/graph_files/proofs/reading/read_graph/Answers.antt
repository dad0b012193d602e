use Rattle.std.proofs.Common.{◌-◌, ℕ, List, get_or, ap, subst, ◌∙◌}
use Rattle.mp_text.specs.Grammar.{fault_at}
use Rattle.graphs.specs.declared.arc.Arc.{Arc}
use Rattle.graphs.specs.declared.judged.GraphFault.TheVariants as faults
use Rattle.graphs.specs.Judged.{IsGraphFault}
use Rattle.graph_files.specs.declared.kind.GraphKind.TheVariants as kinds
use Rattle.graph_files.proofs.ReadLemmas.{refuses-cycle, refuses-share}
use Rattle.graph_files.proofs.reading.read_graph.Goals as goal

pub returns-in-Err-Cycle : goal.returns-in-Err-Cycle
returns-in-Err-Cycle c =
    let s = c.in_ok-tasks.field-0 in
    let task = c.in-Err-Cycle.task in
    let told = rw c.in-Err-Cycle.field-0-is at c.in-Err-Cycle.ensures.refused in
    let fault : IsGraphFault (record { tasks = s.tasks.items; arcs = s.arcs.items }) (faults.Cycle task) =
    subst (λ (arcs : List Arc). IsGraphFault (record { tasks = s.tasks.items; arcs = arcs }) (faults.Cycle task))
    c.deref.ensures.value told in
    refuses-cycle c.args.bytes.now s.tasks.items s.arcs.items s.lines.items c.in_ok-tasks.ensures.stated task c.fault_of.result
    (c.fault_of.ensures ∙ ap (λ (lines : List ℕ). fault_at (get_or lines (task - 1) 0) kinds.Cycle) c.deref-in-Err-Cycle.ensures.value)
    fault

pub returns-in-Err-Share : goal.returns-in-Err-Share
returns-in-Err-Share c =
    let s = c.in_ok-tasks.field-0 in
    let task = c.in-Err-Share.task in
    let told = rw c.in-Err-Share.field-0-is at c.in-Err-Share.ensures.refused in
    let fault : IsGraphFault (record { tasks = s.tasks.items; arcs = s.arcs.items }) (faults.Share task) =
    subst (λ (arcs : List Arc). IsGraphFault (record { tasks = s.tasks.items; arcs = arcs }) (faults.Share task))
    c.deref.ensures.value told in
    refuses-share c.args.bytes.now s.tasks.items s.arcs.items s.lines.items c.in_ok-tasks.ensures.stated task c.fault_of-in-Err-Share.result
    (c.fault_of-in-Err-Share.ensures
    ∙ ap (λ (lines : List ℕ). fault_at (get_or lines (task - 1) 0) kinds.Share) c.deref-in-Err-Share.ensures.value) fault
