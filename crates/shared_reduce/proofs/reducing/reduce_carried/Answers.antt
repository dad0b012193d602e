use Rattle.std.proofs.Common.{subst}
use Rattle.graphs.specs.Graph.{TaskGraph}
use Rattle.carried_graphs.specs.Carried.{carried}
use Rattle.shared_reduce.specs.Refusal.{HasRest, carries}
use Rattle.shared_reduce.proofs.reducing.reduce_carried.Goals as goal

pub returns-in-Err-Arcs-clause-refused : goal.returns-in-Err-Arcs-clause-refused
returns-in-Err-Arcs-clause-refused c =
    let told = rw c.in-Err-Arcs.field-0-is at c.in-Err-Arcs.ensures.refused in
    (carried c.args.lasts.now c.args.system.now, carries c.requires, told)

pub returns-in-Err-Rest-clause-refused : goal.returns-in-Err-Rest-clause-refused
returns-in-Err-Rest-clause-refused c =
    let told = rw c.in-Err-Rest.field-0-is at c.in-Err-Rest.ensures.refused in (
      c.args.lasts.now,
      c.requires,
      subst (λ (g : TaskGraph). HasRest g c.in-Err-Rest.arcs.items) c.in-Ok.ensures.graph told,
    )
