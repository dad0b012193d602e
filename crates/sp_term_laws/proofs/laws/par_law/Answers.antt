use Rattle.sp_term_laws.proofs.Composed.{par-states, par-running}
use Rattle.sp_term_laws.proofs.laws.par_law.Goals as goal

pub returns-clause-states : goal.returns-clause-states
returns-clause-states c = par-states

pub returns-clause-running : goal.returns-clause-running
returns-clause-running c = par-running
