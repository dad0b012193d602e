use Rattle.std.proofs.Common.{arith}
use Rattle.sp_terms.proofs.ValuesLemmas.{series_at}
use Rattle.sp_terms.proofs.value.series_values.Goals as goal

pub overflow_sub-right : goal.overflow_sub-right
overflow_sub-right c = let s = series_at _ _ _ c.requires.terms c.requires.at c.requires.known c.requires.task in omega (arith, s.some)

pub bounds-before-at : goal.bounds-before-at
bounds-before-at c = let s = series_at _ _ _ c.requires.terms c.requires.at c.requires.known c.requires.task in
    omega (arith, s.some, c.requires.long)

pub overflow_sub-left : goal.overflow_sub-left
overflow_sub-left c = let s = series_at _ _ _ c.requires.terms c.requires.at c.requires.known c.requires.task in omega (arith, s.some)

pub overflow_sub-left-2 : goal.overflow_sub-left-2
overflow_sub-left-2 c = let s = series_at _ _ _ c.requires.terms c.requires.at c.requires.known c.requires.task in omega (arith, s.room)

pub bounds-before-at-2 : goal.bounds-before-at-2
bounds-before-at-2 c = let s = series_at _ _ _ c.requires.terms c.requires.at c.requires.known c.requires.task in
    omega (arith, s.some, s.room, c.requires.long)

pub overflow_add-result : goal.overflow_add-result
overflow_add-result c = let s = series_at _ _ _ c.requires.terms c.requires.at c.requires.known c.requires.task in
    omega (arith, s.few, c.requires.at, c.requires.terms.few)

pub overflow_add-result-2 : goal.overflow_add-result-2
overflow_add-result-2 c = let s = series_at _ _ _ c.requires.terms c.requires.at c.requires.known c.requires.task in
    omega (arith, s.few, c.requires.at, c.requires.terms.few)

pub returns : goal.returns
returns c = let s = series_at _ _ _ c.requires.terms c.requires.at c.requires.known c.requires.task in rw c.min.ensures s.own
