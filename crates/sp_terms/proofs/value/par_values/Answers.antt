use Rattle.std.proofs.Common.{arith}
use Rattle.sp_terms.proofs.ValuesLemmas.{taken_none, taken_all, take_next}
use Rattle.sp_terms.proofs.value.par_values.Goals as goal

pub loop-left-init : goal.loop-left-init
loop-left-init c = taken_none _ _ _ c.requires.terms c.requires.at c.requires.par

pub overflow_add-all : goal.overflow_add-all
overflow_add-all c = let s =
    take_next _ _ _ _ _ _ c.requires.terms c.requires.at c.requires.known c.loop-left-test.true c.loop-left.invariant in
    omega (arith, s.initial)

pub overflow_add-all-in-loop-left : goal.overflow_add-all-in-loop-left
overflow_add-all-in-loop-left c = let s =
    take_next _ _ _ _ _ _ c.requires.terms c.requires.at c.requires.known c.loop-left-test.true c.loop-left.invariant in
    omega (arith, s.fin)

pub overflow_add-all-in-loop-left-2 : goal.overflow_add-all-in-loop-left-2
overflow_add-all-in-loop-left-2 c = let s =
    take_next _ _ _ _ _ _ c.requires.terms c.requires.at c.requires.known c.loop-left-test.true c.loop-left.invariant in
    omega (arith, s.least)

pub overflow_add-all-in-loop-left-3 : goal.overflow_add-all-in-loop-left-3
overflow_add-all-in-loop-left-3 c = let s =
    take_next _ _ _ _ _ _ c.requires.terms c.requires.at c.requires.known c.loop-left-test.true c.loop-left.invariant in
    omega (arith, s.few, c.requires.at, c.requires.terms.few)

pub overflow_sub-end : goal.overflow_sub-end
overflow_sub-end c = let s =
    take_next _ _ _ _ _ _ c.requires.terms c.requires.at c.requires.known c.loop-left-test.true c.loop-left.invariant in
    omega (arith, s.room)

pub loop-left-preserved : goal.loop-left-preserved
loop-left-preserved c =
    (take_next _ _ _ _ _ _ c.requires.terms c.requires.at c.requires.known c.loop-left-test.true c.loop-left.invariant).taken

pub returns : goal.returns
returns c = taken_all _ _ _ _ _ c.loop-left.invariant (omega arith)
