use Rattle.std.proofs.Common.{sym, subst, length}
use Rattle.std.specs.Prelude.{pos, ◌≤ℤ◌, ◌+ℤ◌}
use Rattle.mp_system.specs.Memory.{peak_of}
use Rattle.mp_system.specs.Traversal.{IsLeast}
use Rattle.sp_terms.specs.SystemOfTerm.{system_of_term}
use Rattle.sp_terms.specs.Values.{term_of}
use Rattle.claim_rules.specs.Claims.{IsSound}
use Rattle.plans.specs.Plan.{claim_at}
use Rattle.claim_check.proofs.Renamed.{least_of_renamed}
use Rattle.claim_check.proofs.laws.accepted_law.Goals as goal

pub returns-clause-own : goal.returns-clause-own
returns-clause-own c = λ ps plan terms accepted.
    let root = accepted.root in
    let stands = accepted.claims (length ps) root.0 root.1 in
    let system = system_of_term (term_of ps) in
    let sound = c.list_law.ensures.sound ps (claim_at plan.claims) terms
    (λ k claim low high is. (accepted.claims k claim is).2) (length ps) root.0 stands.0 stands.1 root.1 in
    let whole = subst (λ t. IsSound t root.0) (c.position_law.ensures.last ps terms) sound in
    let above : pos (peak_of system plan.order) ≤ℤ (root.0.bound +ℤ pos 1) =
    subst (λ n. pos n ≤ℤ (root.0.bound +ℤ pos 1)) (sym accepted.peak) root.2 in
    subst (IsLeast system) accepted.peak (c.least_law.ensures (term_of ps) root.0 plan.order accepted.traversal whole above)

pub returns-clause-renamed : goal.returns-clause-renamed
returns-clause-renamed c =
    least_of_renamed (record {
      each = c.renaming_law.ensures.each;
      peak = c.renaming_law.ensures.peak;
      least = c.renaming_law.ensures.least;
      own = returns-clause-own c;
    })
