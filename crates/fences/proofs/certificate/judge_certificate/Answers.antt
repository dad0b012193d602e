use Rattle.std.proofs.Common.{◌≡◌, ◌-◌, rules}
use Rattle.std.proofs.lemmas.Result.{err_from_is_err_and}
use Rattle.fences.specs.Certificates.{Certifies, IsForTasks, reserve_of, room_of}
use Rattle.fences.proofs.Certifying.{by_fences}
use Rattle.fences.proofs.certificate.judge_certificate.Goals as goal

pub returns-in_err-judge_fences-clause-refused : goal.returns-in_err-judge_fences-clause-refused
returns-in_err-judge_fences-clause-refused c =
    let system = c.args.system.now in
    let certificate = c.args.certificate.now in
    let tasks : IsForTasks system certificate = search rules in
    let room : c.room_of-room.result ≡ room_of certificate.workers = search rules in
    let left : c.in-Some.left ≡ certificate.bound - reserve_of certificate.workers = search rules in
    let fences : c.deref-2.result.now ≡ certificate.fences = search rules in
    let amounts : c.deref-3.result.now ≡ certificate.amounts = search rules in
    let said = rw (c.in_ok-collected.ensures.1, room, left, fences, amounts) at c.in_err-judge_fences.ensures.refused in
    let p = err_from_is_err_and c.from_residual-in_err-judge_fences.result c.from_residual-in_err-judge_fences.ensures.1 in
    rw (p.1, p.2) (by_fences system certificate tasks c.in_err-judge_fences.field-0.0 said)

pub returns-clause-goes_on : goal.returns-clause-goes_on
returns-clause-goes_on c =
    let certifies : Certifies c.args.system.now c.args.certificate.now = search rules in
    c.certificate_law.ensures.goes_on c.args.system.now c.args.certificate.now c.keeps.ensures certifies
