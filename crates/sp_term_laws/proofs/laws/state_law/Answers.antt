use Rattle.sp_term_laws.proofs.Walks.{mem-first, least-le, flipped}
use Rattle.sp_term_laws.proofs.InTurn.{lowest}
use Rattle.sp_term_laws.proofs.Runs.{step-running}
use Rattle.sp_term_laws.proofs.laws.state_law.Goals as goal

pub returns-clause-first : goal.returns-clause-first
returns-clause-first c = mem-first

pub returns-clause-least : goal.returns-clause-least
returns-clause-least c = least-le

pub returns-clause-some : goal.returns-clause-some
returns-clause-some c = lowest

pub returns-clause-back : goal.returns-clause-back
returns-clause-back c = λ d t s u r step. flipped d t s r u step

pub returns-clause-running : goal.returns-clause-running
returns-clause-running c = λ d t s u r allowed step. step-running d t s r u allowed step
