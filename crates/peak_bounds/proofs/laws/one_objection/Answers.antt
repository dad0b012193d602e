use Rattle.peak_bounds.proofs.Verdicts.{refuted}
use Rattle.peak_bounds.proofs.Objections.{same_objection}
use Rattle.peak_bounds.proofs.laws.one_objection.Goals as goal

pub returns-clause-none : goal.returns-clause-none
returns-clause-none c = λ system evidence bound objection holds said. refuted system evidence bound objection said holds

pub returns-clause-one : goal.returns-clause-one
returns-clause-one c = λ system evidence bound one other said also. same_objection system evidence bound one other said also
