use Rattle.shared_systems.specs.Shared.{HasTask}
use Rattle.activation.proofs.Keeping.{place_found}
use Rattle.activation.proofs.cores.Core.place_of.Goals as goal

pub returns-clause-within : goal.returns-clause-within
returns-clause-within c =
    let is : HasTask c.self.inside.system.value c.args.task = rw (← c.self.view_is) at c.requires in
    rw (← c.self.view_is) (place_found c.self.invariant c.args.task c.index.result.now is c.index.ensures).0

pub returns-clause-there : goal.returns-clause-there
returns-clause-there c =
    let is : HasTask c.self.inside.system.value c.args.task = rw (← c.self.view_is) at c.requires in
    rw (← c.self.view_is) (place_found c.self.invariant c.args.task c.index.result.now is c.index.ensures).1
