use Rattle.sp_terms.specs.Term.{par, series}
use Rattle.sp_term_laws.proofs.Parts.{has_parts}
use Rattle.sp_term_laws.proofs.Trails.{series-walks, par-walks}
use Rattle.sp_term_laws.proofs.laws.traversal_law.Goals as goal

pub returns-clause-series : goal.returns-clause-series
returns-clause-series c = λ a v b allowed order. let parts = has_parts (series a v b) allowed in series-walks a v b parts.0 parts.1 order

pub returns-clause-par : goal.returns-clause-par
returns-clause-par c = λ ts allowed order. par-walks ts (has_parts (par ts) allowed) order
