use Rattle.shared_systems.proofs.SameSystems.{shared_back, unshared_back, unshared_within}
use Rattle.shared_systems.proofs.laws.unshared_law.Goals as goal

pub returns-clause-shared : goal.returns-clause-shared
returns-clause-shared c = shared_back

pub returns-clause-back : goal.returns-clause-back
returns-clause-back c = unshared_back

pub returns-clause-within : goal.returns-clause-within
returns-clause-within c = unshared_within
