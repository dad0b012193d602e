use Rattle.sp_term_laws.proofs.Ways.{way_joined, way_back}
use Rattle.sp_term_laws.proofs.Runs.{to_each, reached-ways, step-run, run-step}
use Rattle.sp_term_laws.proofs.laws.way_law.Goals as goal

pub returns-clause-joined : goal.returns-clause-joined
returns-clause-joined c = λ d base t s m u xs ys h k one two. way_joined one two

pub returns-clause-back : goal.returns-clause-back
returns-clause-back c = λ d base t s u xs h way. way_back d way

pub returns-clause-each : goal.returns-clause-each
returns-clause-each c = to_each

pub returns-clause-reached : goal.returns-clause-reached
returns-clause-reached c = reached-ways

pub returns-clause-step : goal.returns-clause-step
returns-clause-step c = λ d base t s u r. (step-run d base t s r u, λ (v, run). run-step d base t s v r u run)
