use Rattle.std.proofs.Common.{List, ◌++◌, sym, ap, ◌∙◌, arith}
use Rattle.graphs.specs.declared.arc.Arc.{Arc}
use Rattle.shared_systems.specs.Shared.{shared_item_at}
use Rattle.std.specs.Prelude.{slice_index}
use Rattle.carried_graphs.specs.Carried.{item_arcs}
use Rattle.carried_graphs.proofs.ArcSums.{carried_more}
use Rattle.carried_graphs.proofs.carrying.carried_arcs.Goals as goal

pub loop-i-preserved : goal.loop-i-preserved
loop-i-preserved c =
    c.in_ok-push_arcs.ensures
    ∙ ap (λ (l : List Arc). l ++ item_arcs (shared_item_at c.args.items.now c.loop-i.i) (slice_index c.args.lasts.now c.loop-i.i))
    c.loop-i.invariant
    ∙ sym (carried_more c.args.items.now c.args.lasts.now c.loop-i.i (omega arith) (omega arith))
