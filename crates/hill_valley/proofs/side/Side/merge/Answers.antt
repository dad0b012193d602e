use Rattle.std.proofs.lemmas.Result.{on_ok_weaker}
use Rattle.hill_valley.proofs.Weaving.{net_moved}
use Rattle.hill_valley.proofs.side.Side.merge.Goals as goal

pub returns-then-saturating_mul-len-clause-net : goal.returns-then-saturating_mul-len-clause-net
returns-then-saturating_mul-len-clause-net c =
    on_ok_weaker c.take_in.result
    (λ e. net_moved c.inserting.ensures.net c.args.before c.args.ropes.now c.take_in.new.ropes
    c.args.other c.args.self.now c.take_in.new.self e) c.take_in.ensures.segments

pub returns-else-saturating_mul-len-clause-net : goal.returns-else-saturating_mul-len-clause-net
returns-else-saturating_mul-len-clause-net c =
    on_ok_weaker c.weave.result
    (λ e. net_moved c.inserting.ensures.net c.args.before c.args.ropes.now c.weave.new.ropes
    c.args.other c.args.self.now c.weave.new.self e) c.weave.ensures.segments
