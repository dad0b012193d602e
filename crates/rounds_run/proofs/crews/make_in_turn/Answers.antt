use Rattle.std.proofs.Common.{◌+◌, refl, List, length, take, sym, subst}
use Rattle.std.proofs.lemmas.List.{take_all}
use Rattle.patterns.specs.Pattern.{is_joined}
use Rattle.ordering.specs.Fill.{renumbered}
use Rattle.rounds_run.specs.declared.front.Job.{Job}
use Rattle.rounds_run.specs.declared.front.Made.{Made}
use Rattle.rounds_run.specs.Holding.{AreHandedBack}
use Rattle.rounds_run.proofs.CrewLemmas.{none_back, task_back}
use Rattle.rounds_run.proofs.crews.make_in_turn.Goals as goal

pub loop-job-init : goal.loop-job-init
loop-job-init g c =
    none_back (renumbered (is_joined c.args.pattern.now) c.args.perm.now) (length c.args.perm.now) c.args.jobs.now
    c.in_ok-made.made.items 0 refl c.in_ok-made.ensures.items

pub loop-job-preserved : goal.loop-job-preserved
loop-job-preserved g c =
    let joined = renumbered (is_joined c.args.pattern.now) c.args.perm.now in
    let n = length c.args.perm.now in
    let k = c.loop-job.job-index in
    subst (λ (z : List Made). AreHandedBack joined n (take (k + 1) c.args.jobs.now) z) (sym c.in_ok-push.ensures.items)
    (task_back joined n c.args.jobs.now c.loop-job.made.items k c.job-item.result c.in_ok-front.front c.loop-job-test.true c.job-item.is
    c.loop-job.invariant c.in_ok-front.ensures)

pub returns : goal.returns
returns g c =
    let joined = renumbered (is_joined c.args.pattern.now) c.args.perm.now in
    let n = length c.args.perm.now in
    subst (λ (z : List Job). AreHandedBack joined n z c.loop-job.made.items)
    (take_all c.loop-job.job-index c.args.jobs.now c.loop-job-test.false) c.loop-job.invariant
