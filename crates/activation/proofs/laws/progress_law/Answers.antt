use Rattle.activation.specs.Machine.{start_state}
use Rattle.activation.specs.Runs.{state_after_all}
use Rattle.activation.proofs.Safety.{run_safe}
use Rattle.activation.proofs.Progress.{safe_goes_on, safe_begins}
use Rattle.activation.proofs.laws.progress_law.Goals as goal

pub returns-clause-safe : goal.returns-clause-safe
returns-clause-safe c = safe_goes_on

pub returns-clause-run : goal.returns-clause-run
returns-clause-run c = λ s set events h.
    safe_goes_on s set (state_after_all (start_state s) events)
    (run_safe c.event_law.ensures.kept s set (start_state s) (c.start_law.ensures.safe s set) events h)

pub returns-clause-idle_safe : goal.returns-clause-idle_safe
returns-clause-idle_safe c = safe_begins

pub returns-clause-idle_run : goal.returns-clause-idle_run
returns-clause-idle_run c = λ s set events h.
    safe_begins s set (state_after_all (start_state s) events)
    (run_safe c.event_law.ensures.kept s set (start_state s) (c.start_law.ensures.safe s set) events h)
