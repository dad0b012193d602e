use Rattle.sp_term_laws.proofs.Parts.{has_parts}
use Rattle.sp_term_laws.proofs.Runs.{traversal-way, way-traversal, cut-ways, ways-cut}
use Rattle.sp_term_laws.proofs.laws.run_law.Goals as goal

pub returns-clause-traversal : goal.returns-clause-traversal
returns-clause-traversal c = λ t allowed. traversal-way t (has_parts t allowed)

pub returns-clause-way : goal.returns-clause-way
returns-clause-way c = λ t allowed. way-traversal t (has_parts t allowed)

pub returns-clause-cut : goal.returns-clause-cut
returns-clause-cut c = λ t allowed. cut-ways t (has_parts t allowed)

pub returns-clause-joined : goal.returns-clause-joined
returns-clause-joined c = λ t allowed s done rest before after w u. let z =
    ways-cut t (has_parts t allowed) done rest s before after w u in
    (z.traversal, z.memory, z.before, z.after)
