use Rattle.std.proofs.Common.{◌+◌, ◌-◌, ◌/◌, arith}
use Rattle.bound_check.proofs.Chunked.{first_of_all}
use Rattle.bound_check.proofs.chunks.first_failing.Goals as goal

pub returns : goal.returns
returns g c =
    first_of_all c.args.view.now.positions c.args.claims.now ((c.max.result - 1) / c.args.workers + 1) c.in_ok-firsts.firsts.items (omega arith)
    c.in_ok-firsts.ensures.len c.in_ok-firsts.ensures.each c.deref.result.now c.deref.ensures.value c.first_of.result c.first_of.ensures
