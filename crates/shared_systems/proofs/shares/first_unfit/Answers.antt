use Rattle.std.proofs.Common.{◌+◌, arith}
use Rattle.std.proofs.lemmas.List.Sums.{get_or-le-sum_by}
use Rattle.mp_system.specs.System.{extra_size}
use Rattle.shared_systems.specs.Shared.{is_made_by}
use Rattle.shared_systems.proofs.KeySums.{where-le}
use Rattle.shared_systems.proofs.PeakSteps.{no_task}
use Rattle.shared_systems.proofs.shares.first_unfit.Goals as goal

pub fits-requires : goal.fits-requires
fits-requires c =
    let i = c.loop-i.i in
    let own = get_or-le-sum_by extra_size c.args.tasks.now i no_task c.loop-i-test.true in
    omega (arith, c.requires.out.1 (i + 1), where-le (is_made_by (i + 1)) c.args.items.now, own, c.requires.plain.total)
