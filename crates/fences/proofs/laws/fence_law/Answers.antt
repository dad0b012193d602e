use Rattle.mp_system.specs.Memory.{peak_of}
use Rattle.fences.specs.Runs.{first_moment, moment_after_all}
use Rattle.fences.proofs.Cuts.{used-le}
use Rattle.fences.proofs.Along.{along-le}
use Rattle.fences.proofs.laws.fence_law.Goals as goal

pub returns-clause-moment : goal.returns-clause-moment
returns-clause-moment c = used-le

pub returns-clause-run : goal.returns-clause-run
returns-clause-run c = λ system amounts within is before rest run. used-le system amounts (moment_after_all first_moment before) within is (c.run_law.ensures.moments system before rest run)

pub returns-clause-traversal : goal.returns-clause-traversal
returns-clause-traversal c = λ system amounts order within is traversal. along-le c.ready_law.ensures system order traversal amounts within is (peak_of system order) (c.peak_law.ensures.attained system order)
