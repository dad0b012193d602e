use Rattle.std.proofs.Common.{◌+◌, arith}
use Rattle.std.proofs.lemmas.List.Sums.{get_or-le-sum_by, sum_by-le-sum_by}
use Rattle.mp_system.specs.System.{extra_size}
use Rattle.graphs.specs.Graph.{size_out_of, arc_size}
use Rattle.graphs.proofs.CountLemmas.{out-le}
use Rattle.graphs.proofs.shares.first_unfit.Goals as goal

pub fits-requires : goal.fits-requires
fits-requires c =
    let i = c.loop-i.i in
    let out = c.requires.out.1 (i + 1) in
    let part = sum_by-le-sum_by (size_out_of (i + 1)) arc_size c.args.arcs.now (out-le (i + 1)) in
    let own = get_or-le-sum_by extra_size c.args.tasks.now i (record { extra = 0; share = 0; time = 0 }) c.loop-i-test.true in
    omega (arith, out, part, own, c.requires.total)
