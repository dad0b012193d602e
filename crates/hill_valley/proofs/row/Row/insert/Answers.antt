use Rattle.std.proofs.Common.{arith, ap, sym, ◌∙◌}
use Rattle.hill_valley.specs.Side.{runs_of}
use Rattle.hill_valley.proofs.InRow.{below_all}
use Rattle.hill_valley.proofs.row.Row.insert.Goals as goal

pub put_first-requires : goal.put_first-requires
put_first-requires c =
    let b = below_all c.args.ropes.now c.args.before c.args.seg c.in-Some.first c.args.self.now
    (sym c.first_up.ensures.value ∙ c.in-Some.is) c.if-seg-first.true in
    let net = c.requires.net in
    record { side = (omega arith, (c.requires.up, c.keeps.ensures.1), (b.0, c.keeps.ensures.2)) }

pub returns-in_ok-put_first-in-Some-clause-segments : goal.returns-in_ok-put_first-in-Some-clause-segments
returns-in_ok-put_first-in-Some-clause-segments c =
    ap (runs_of c.args.ropes.now) c.in_ok-put_first-in-Some.ensures.segments
    ∙ (below_all c.args.ropes.now c.args.before c.args.seg c.in-Some.first c.args.self.now
    (sym c.first_up.ensures.value ∙ c.in-Some.is) c.if-seg-first.true).1
