use Rattle.std.proofs.Common.{subst}
use Rattle.graphs.specs.Graph.{TaskGraph}
use Rattle.shared_reduce.specs.Refusal.{HasRest, uses}
use Rattle.shared_reduce.specs.Uses.{uses_of}
use Rattle.shared_reduce.proofs.reducing.reduce_uses.Goals as goal

pub returns-in-Err-Arcs-clause-refused : goal.returns-in-Err-Arcs-clause-refused
returns-in-Err-Arcs-clause-refused c =
    let told = rw c.in-Err-Arcs.field-0-is at c.in-Err-Arcs.ensures.refused in
    (uses_of c.args.system.now, uses, told)

pub returns-in-Err-Rest-clause-refused : goal.returns-in-Err-Rest-clause-refused
returns-in-Err-Rest-clause-refused c =
    let told = rw c.in-Err-Rest.field-0-is at c.in-Err-Rest.ensures.refused in
    subst (λ (g : TaskGraph). HasRest g c.in-Err-Rest.arcs.items) c.in-Ok.ensures.graph told
