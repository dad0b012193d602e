use Rattle.std.proofs.Common.{sym}
use Rattle.hill_valley.proofs.Staircases.{ends_last}
use Rattle.hill_valley.proofs.steps.ends_at.Goals as goal

pub returns-in-Some : goal.returns-in-Some
returns-in-Some c = ends_last c.args.bound c.args.steps.now c.in-Some.last.now (sym c.in-Some.ensures.value)
