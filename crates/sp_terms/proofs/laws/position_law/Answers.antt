use Rattle.sp_terms.proofs.Positions.{own_at, parts_here, before_here, allowed_here, small_here, last_is}
use Rattle.sp_terms.proofs.laws.position_law.Goals as goal

pub returns-clause-parts : goal.returns-clause-parts
returns-clause-parts c = λ ps k terms low high. parts_here ps k terms low high

pub returns-clause-before : goal.returns-clause-before
returns-clause-before c = λ ps k terms low high. before_here ps k terms low high

pub returns-clause-last : goal.returns-clause-last
returns-clause-last c = λ ps terms. last_is ps terms

pub returns-clause-own : goal.returns-clause-own
returns-clause-own c = λ ps k d terms low high. own_at ps k terms low high d

pub returns-clause-allowed : goal.returns-clause-allowed
returns-clause-allowed c = λ ps k terms low high. allowed_here ps k terms low high

pub returns-clause-small : goal.returns-clause-small
returns-clause-small c = λ ps k a v b terms low high is. small_here ps k terms low high a v b is
