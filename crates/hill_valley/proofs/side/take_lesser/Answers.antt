use Rattle.std.proofs.Common.{arith}
use Rattle.hill_valley.proofs.Weaving.{from_other, from_own, lesser_of_other, of_both, rest_kept}
use Rattle.hill_valley.proofs.side.take_lesser.Goals as goal

pub returns-in_default-clause-next : goal.returns-in_default-clause-next
returns-in_default-clause-next c =
    from_other c.args.ropes.now c.args.before c.args.other.now c.args.own.now c.take_first.new.self
    c.take_first.result c.take_first.ensures.side.2 c.in_default.ensures.value c.take_first.ensures.first

pub returns-in_err-joined-in-Some-take_first-clause-other : goal.returns-in_err-joined-in-Some-take_first-clause-other
returns-in_err-joined-in-Some-take_first-clause-other c =
    rest_kept _ _ _ _ _ c.joined.ensures.kept c.requires.other c.in-Some-take_first_within.ensures.first.0

pub returns-in_err-joined-in-Some-take_first-clause-own : goal.returns-in_err-joined-in-Some-take_first-clause-own
returns-in_err-joined-in-Some-take_first-clause-own c =
    rest_kept _ _ _ _ _ c.joined.ensures.kept c.requires.own c.in-Some-take_first.ensures.first

pub returns-in-None-clause-next : goal.returns-in-None-clause-next
returns-in-None-clause-next c =
    from_own c.args.ropes.now c.args.before c.args.other.now c.args.own.now
    c.take_first_within.new.self c.take_first-in-None.new.self c.in-Some.up c.take_first-in-None.result
    c.take_first_within.ensures.side.2 c.in-Some.ensures.value c.in-None.ensures.first c.take_first-in-None.ensures.first

pub returns-in-Some-take_first_within-clause-next : goal.returns-in-Some-take_first_within-clause-next
returns-in-Some-take_first_within-clause-next c =
    lesser_of_other c.args.ropes.now c.args.before c.args.other.now c.args.own.now
    c.take_first_within.new.self c.in-Some.up c.in-Some-take_first_within.seg
    c.take_first_within.ensures.side.2 c.in-Some.ensures.value c.in-Some-take_first_within.ensures.first.0 c.if-seg-up.true

pub returns-in_ok-joined-in-Some-take_first-clause-next : goal.returns-in_ok-joined-in-Some-take_first-clause-next
returns-in_ok-joined-in-Some-take_first-clause-next c =
    let below = c.in-Some-take_first_within.ensures.first.1 in
    of_both c.args.ropes.now c.joined.new.ropes c.args.before c.args.other.now c.args.own.now
    c.take_first_within.new.self c.take_first-in-Some-2.new.self c.in-Some.up c.in-Some-take_first_within.seg
    c.in-Some-take_first.first c.in_ok-joined-in-Some-take_first.field-0 c.joined.ensures.kept
    c.requires.other c.requires.own c.take_first_within.ensures.side.2 c.in-Some.ensures.value
    c.in-Some-take_first_within.ensures.first.0 c.in-Some-take_first.ensures.first
    (omega arith) c.in_ok-joined-in-Some-take_first.ensures.run

pub returns-in_ok-joined-in-Some-take_first-clause-other : goal.returns-in_ok-joined-in-Some-take_first-clause-other
returns-in_ok-joined-in-Some-take_first-clause-other c =
    rest_kept _ _ _ _ _ c.joined.ensures.kept c.requires.other c.in-Some-take_first_within.ensures.first.0

pub returns-in_ok-joined-in-Some-take_first-clause-own : goal.returns-in_ok-joined-in-Some-take_first-clause-own
returns-in_ok-joined-in-Some-take_first-clause-own c =
    rest_kept _ _ _ _ _ c.joined.ensures.kept c.requires.own c.in-Some-take_first.ensures.first
