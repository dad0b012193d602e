use Rattle.std.proofs.Common.{get_or, arith}
use Rattle.limits.specs.Limits.{most_tasks}
use Rattle.shared_systems.proofs.KeySums.{last_small}
use Rattle.shared_systems.proofs.weaving.lasts_of.Goals as goal

pub overflow_cast-last_of : goal.overflow_cast-last_of
overflow_cast-last_of c =
    omega (
      arith,
      c.last_of.ensures,
      last_small (λ v. get_or c.args.places.now v 0) most_tasks c.requires.small c.readers-readers.result.now,
    )
