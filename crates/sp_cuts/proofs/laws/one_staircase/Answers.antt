use Rattle.sp_cuts.proofs.OneStaircase.{one_staircase, some_staircase, each_step, some_stairs}
use Rattle.sp_cuts.proofs.OneStaircase.{one_stairs_from}
use Rattle.std.proofs.Common.{sym, ◌∙◌}
use Rattle.sp_cuts.proofs.laws.one_staircase.Goals as goal

pub returns-clause-one : goal.returns-clause-one
returns-clause-one c = one_staircase c.staircases.ensures

pub returns-clause-each : goal.returns-clause-each
returns-clause-each c = each_step

pub returns-clause-some : goal.returns-clause-some
returns-clause-some c = some_staircase c.stands_law.ensures

pub returns-clause-some_of_all : goal.returns-clause-some_of_all
returns-clause-some_of_all c ps terms = some_stairs (returns-clause-some c) ps
    (λ k one le. c.position_law.ensures.allowed ps k terms one le)

pub returns-clause-one_of_all : goal.returns-clause-one_of_all
returns-clause-one_of_all c ps a b ha hb = one_stairs_from (returns-clause-one c) ps 0 a b
    (ha.many ∙ sym hb.many) ha.each hb.each
