use Rattle.std.proofs.Common.{◌≡◌, OnOk}
use Rattle.std.proofs.lemmas.Result.{on_ok_weaker}
use Rattle.side_laws.specs.Merging.{insert_segment}
use Rattle.hill_valley.specs.Side.{profile, numbers}
use Rattle.hill_valley.proofs.Inserting.{profile_put, net_after, lowest_after, top_after}
use Rattle.hill_valley.proofs.side.Side.insert.Goals as goal

put_profile : (c : goal.After-put)
    → OnOk c.put.result (profile c.put.new.self ≡ insert_segment (numbers c.args.seg) (profile c.args.self.now))
put_profile c = on_ok_weaker c.put.result
    (λ e. profile_put c.args.ropes.now c.put.new.ropes c.args.before c.args.seg c.args.self.now c.put.new.self
    (rw c.make_room.ensures.same at e)) c.put.ensures.segments

pub returns-clause-net : goal.returns-clause-net
returns-clause-net c = on_ok_weaker c.put.result (λ e. net_after _ _ _ e c.keeps.ensures c.inserting.ensures.net) (put_profile c)

pub returns-clause-lowest : goal.returns-clause-lowest
returns-clause-lowest c = on_ok_weaker c.put.result
    (λ e. lowest_after _ _ _ e c.keeps.ensures c.inserting.ensures.net c.merging.ensures.one c.merging.ensures.lowest) (put_profile c)

pub returns-clause-top : goal.returns-clause-top
returns-clause-top c = on_ok_weaker c.put.result
    (λ e. top_after _ _ _ e c.keeps.ensures c.inserting.ensures.net c.merging.ensures.one c.merging.ensures.top) (put_profile c)
