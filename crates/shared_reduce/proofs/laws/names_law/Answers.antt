use Rattle.std.proofs.Common.{◌≡◌, length, arith}
use Rattle.mp_system.proofs.Counts.{length-from_once}
use Rattle.shared_reduce.proofs.laws.names_law.Goals as goal

pub returns-clause-few : goal.returns-clause-few
returns-clause-few c = λ system names t is term.
    let within = c.joined_law.ensures.within system term.joined is term.is_joined in
    let has = term.term.has in
    let same : length names ≡ length term.joined.tasks =
    length-from_once (length term.joined.tasks) names has.within (λ v low high. has.once v (low, high)) in
    omega (arith, same, within.few_tasks)

pub returns-clause-within : goal.returns-clause-within
returns-clause-within c = λ system names t is term i d lt.
    let within = c.joined_law.ensures.within system term.joined is term.is_joined in
    let w = term.term.has.within i d lt in
    omega (arith, w.1, within.few_tasks)
