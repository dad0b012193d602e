use Rattle.std.proofs.Common.{ℕ, ◌∙◌, ap}
use Rattle.mp_text.specs.Grammar.{fault_at}
use Rattle.shared_systems.specs.Shared.{SharedTaskSystem}
use Rattle.graph_files.specs.declared.kind.GraphKind.TheVariants as kinds
use Rattle.shared_graph_files.proofs.ReadLemmas.{refuses-share}
use Rattle.shared_graph_files.proofs.reading.read_items.Goals as goal

pub returns-in-Err-Share : goal.returns-in-Err-Share
returns-in-Err-Share c =
    let system : SharedTaskSystem = record { tasks = c.in_ok-tasks.tasks.items; items = c.in_ok-tasks.items } in
    refuses-share c.args.bytes.now system c.in_ok-tasks.ensures.stated c.in-Err-Share.task c.fault-in-Err-Share.result
    (c.fault-in-Err-Share.ensures ∙ ap (λ (line : ℕ). fault_at line kinds.Share) c.line_of-in-Err-Share.ensures)
    (rw c.in-Err-Share.field-0-is at c.in-Err-Share.ensures.refused)
