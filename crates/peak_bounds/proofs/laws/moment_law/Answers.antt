use Rattle.peak_bounds.proofs.AtMoment.{marks_hold, moment-le}
use Rattle.peak_bounds.proofs.laws.moment_law.Goals as goal

pub returns-clause-marks : goal.returns-clause-marks
returns-clause-marks c = λ system order early late moment traversal. marks_hold system order traversal early late moment

pub returns-clause-peak : goal.returns-clause-peak
returns-clause-peak c = λ system order early late moment traversal. moment-le system order traversal early late moment
