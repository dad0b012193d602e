use Rattle.std.proofs.Common.{◌-◌, arith}
use Rattle.shared_systems.specs.Collected.{collected}
use Rattle.fences.specs.Runs.{first_moment, moment_after_all}
use Rattle.fences.specs.JudgedFences.{with_fences}
use Rattle.fences.specs.Certificates.{reserve_of, room_of}
use Rattle.fences.proofs.FencedLists.{fenced_system}
use Rattle.fences.proofs.Certifying.{fences_back, handed_back, order_back, within_bound}
use Rattle.fences.proofs.laws.certificate_law.Goals as goal

pub returns-clause-bound : goal.returns-clause-bound
returns-clause-bound c = λ system certificate is certifies before rest run served.
    let fences = certificate.fences in
    let room = room_of certificate.workers in
    let reserve = reserve_of certificate.workers in
    let certify = certifies.certify in
    let sys = c.system_law.ensures system is certifies.for_tasks.has_joins.room in
    let within = (fenced_system (collected system) fences (fences_back room (collected system) fences certify.leave.are_fences) sys).items in
    let amounts = handed_back room (collected system) fences certificate.amounts certify.accepted in
    let used = c.shared_law.ensures.bound system fences room (certificate.bound - reserve) is certifies.for_tasks.tasks
    (λ moment at. (
    let le = c.workers_law.ensures.moment (with_fences (collected system) fences) room certificate.amounts moment within amounts at in
    omega (arith, le, certify.within)))
    before rest run in
    within_bound certificate.workers system (moment_after_all first_moment before) certificate.bound _ certifies.for_tasks.reserve served used

pub returns-clause-goes_on : goal.returns-clause-goes_on
returns-clause-goes_on c = λ system certificate is certifies.
    c.shared_law.ensures.goes_on system certificate.fences certifies.certify.leave.order is
    (order_back (room_of certificate.workers) (collected system) certificate.fences certifies.certify.leave)
