use Rattle.std.proofs.Common.{◌≡◌, length, arith}
use Rattle.mp_system.proofs.Counts.{length-from_once}
use Rattle.sp_reduce.proofs.laws.names_law.Goals as goal

pub returns-clause-few : goal.returns-clause-few
returns-clause-few c = λ graph names t is h.
    let same : length names ≡ length graph.tasks =
    length-from_once (length graph.tasks) names h.within (λ v low high. h.once v (low, high)) in
    omega (arith, same, is.few_tasks)

pub returns-clause-within : goal.returns-clause-within
returns-clause-within c = λ graph names t is h i d lt. let w = h.within i d lt in omega (arith, w.1, is.few_tasks)
