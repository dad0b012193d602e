use Rattle.std.proofs.Common.{arith}
use Rattle.std.proofs.Math.Nat.{mul-le-mul_left}
use Rattle.fences.specs.Runs.{first_moment, moment_after_all}
use Rattle.fences.proofs.SharedMoments.{run_is}
use Rattle.fences.proofs.SharedMemory.{all_for_tasks, lifted, lifted_is, used_least, count_least}
use Rattle.fences.proofs.SharedProgress.{goes_on}
use Rattle.fences.proofs.laws.shared_law.Goals as goal

pub returns-clause-bound : goal.returns-clause-bound
returns-clause-bound c = λ system fences room bound is each bounds before rest run.
    let moment = moment_after_all first_moment before in
    let at = run_is system fences before rest run in
    let for_tasks = all_for_tasks system fences each in
    omega (
      arith,
      used_least system is.items fences moment at for_tasks,
      bounds (lifted system is.items fences moment at) (lifted_is system is.items fences moment at for_tasks),
      mul-le-mul_left room (count_least system is.items fences moment at),
    )

pub returns-clause-goes_on : goal.returns-clause-goes_on
returns-clause-goes_on c = λ system fences order is traversal. goes_on c.ready_law.ensures system is.items fences order traversal
