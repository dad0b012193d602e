use Rattle.sp_term_laws.proofs.Ways.{in_first, in_second, in_par, in_head, in_tail, ways_joined}
use Rattle.sp_term_laws.proofs.laws.part_way_law.Goals as goal

pub returns-clause-first : goal.returns-clause-first
returns-clause-first c = λ d base a v b s u xs h way. in_first v b way

pub returns-clause-second : goal.returns-clause-second
returns-clause-second c = λ d base a v b s u xs h way. in_second a v way

pub returns-clause-par : goal.returns-clause-par
returns-clause-par c = λ d base ts s u xs h ways. in_par ways

pub returns-clause-head : goal.returns-clause-head
returns-clause-head c = λ d base t ts s u others xs h way. in_head ts others way

pub returns-clause-tail : goal.returns-clause-tail
returns-clause-tail c = λ d base t ts s before after xs h ways. in_tail t s ways

pub returns-clause-parts_joined : goal.returns-clause-parts_joined
returns-clause-parts_joined c = λ d base ts s m u xs ys h k one two. ways_joined one two
