use Rattle.hill_valley.proofs.Staircases.{steps_unique}
use Rattle.hill_valley.proofs.laws.staircases.Goals as goal

pub returns : goal.returns
returns c = steps_unique
