use Rattle.sp_term_laws.proofs.Parts.{has_parts}
use Rattle.sp_term_laws.proofs.InTurn.{first-state, last-state, least-states}
use Rattle.sp_term_laws.proofs.laws.value_law.Goals as goal

pub returns-clause-first : goal.returns-clause-first
returns-clause-first c = λ t allowed. first-state t (has_parts t allowed)

pub returns-clause-last : goal.returns-clause-last
returns-clause-last c = λ t allowed. last-state t (has_parts t allowed)

pub returns-clause-each : goal.returns-clause-each
returns-clause-each c = λ t allowed. (least-states t (has_parts t allowed)).each

pub returns-clause-some : goal.returns-clause-some
returns-clause-some c = λ t allowed. (least-states t (has_parts t allowed)).some
