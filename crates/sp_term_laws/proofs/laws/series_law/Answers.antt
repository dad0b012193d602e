use Rattle.sp_term_laws.proofs.Parts.{has_parts}
use Rattle.sp_term_laws.proofs.InTurn.{first-law, first-running-law, own-law, second-law, second-running-law}
use Rattle.sp_term_laws.proofs.laws.series_law.Goals as goal

pub returns-clause-first : goal.returns-clause-first
returns-clause-first c = first-law

pub returns-clause-first_running : goal.returns-clause-first_running
returns-clause-first_running c = first-running-law

pub returns-clause-own : goal.returns-clause-own
returns-clause-own c = λ a v b p allowed tr. own-law a v b p (has_parts a allowed) tr

pub returns-clause-second : goal.returns-clause-second
returns-clause-second c = second-law

pub returns-clause-second_running : goal.returns-clause-second_running
returns-clause-second_running c = second-running-law
