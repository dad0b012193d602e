use Rattle.std.proofs.Common.{◌≡◌, ℕ, ◌+◌, ◌-◌, ◌≤◌, get_or, subst, arith}
use Rattle.std.proofs.lemmas.List.{get_or_read}
use Rattle.limits.specs.Limits.{most_total}
use Rattle.mp_system.specs.declared.judged.TaskTest.TheVariants as task_tests
use Rattle.mp_system.proofs.Within.{extra_fits, no_task}
use Rattle.mp_system.proofs.shares.first_unfit_share.Goals as goal

pub fits-requires : goal.fits-requires
fits-requires c =
    let i = c.loop-i.i in
    let extra = extra_fits c.args.tasks.now (c.requires.plain.tasks_pass task_tests.Size) i no_task c.loop-i-test.true in
    let out = get_or_read c.in_ok-sums.sums.outputs.items i c.index-in-loop-i.result.now
    (omega (arith, c.in_ok-sums.ensures.len.1, c.loop-i-test.true)) c.index-in-loop-i.ensures 0 in
    let at : i + 1 - 1 ≡ i = omega arith in
    let small = subst (λ (k : ℕ). get_or c.in_ok-sums.sums.outputs.items k 0 ≤ most_total)
    at (c.in_ok-sums.ensures.small (i + 1) (omega arith, omega (arith, c.loop-i-test.true))) in
    omega (arith, extra, out, small)
