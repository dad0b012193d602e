-- An accepted plan of a system that is the term's up to names.
use Rattle.std.proofs.Common.{◌≡◌, sym, ap, ◌∙◌, ℕ, List, map}
use Rattle.std.specs.Prelude.{◌↔◌}
use Rattle.mp_system.specs.Memory.{peak_of}
use Rattle.mp_system.specs.Renaming.{name_in, IsRenamed}
use Rattle.mp_system.specs.System.{TaskSystem}
use Rattle.mp_system.specs.Traversal.{IsTraversal, IsLeast}
use Rattle.sp_terms.specs.declared.position.Position.{Position}
use Rattle.sp_terms.specs.SystemOfTerm.{system_of_term}
use Rattle.sp_terms.specs.Values.{IsTerms, term_of}
use Rattle.plans.specs.Plan.{PlanValue}
use Rattle.claim_check.specs.Accepted.{IsAccepted}

-- what the law of renaming says, and what is known of the term's own system
pub record Laws : Type 0 where
  pub each : (names : List ℕ) (own named : TaskSystem) (order : List ℕ) → IsRenamed names own named → IsTraversal named order
      → (own_order : List ℕ) × IsTraversal own own_order × (order ≡ map (name_in names) own_order)
  pub peak : (names : List ℕ) (own named : TaskSystem) (order : List ℕ) → IsRenamed names own named → IsTraversal own order
      → peak_of named (map (name_in names) order) ≡ peak_of own order
  pub least : (names : List ℕ) (own named : TaskSystem) (peak : ℕ) → IsRenamed names own named → IsLeast own peak ↔ IsLeast named peak
  pub own : (ps : List Position) (plan : PlanValue) → IsTerms ps
      → IsAccepted (system_of_term (term_of ps)) ps plan → IsLeast (system_of_term (term_of ps)) plan.peak

-- the plan with its order in the term's own numbers is accepted there
pub least_of_renamed : Laws → (names : List ℕ) (system : TaskSystem) (ps : List Position) (plan : PlanValue) → IsTerms ps
    → IsRenamed names (system_of_term (term_of ps)) system → IsAccepted system ps plan → IsLeast system plan.peak
least_of_renamed laws names system ps plan terms same accepted =
    let own = system_of_term (term_of ps) in
    let found = laws.each names own system plan.order same accepted.traversal in
    let own_plan : PlanValue = record { order = found.0; peak = plan.peak; claims = plan.claims; priority = plan.priority } in
    let walked : peak_of own found.0 ≡ plan.peak =
    sym (laws.peak names own system found.0 same found.1) ∙ ap (peak_of system) (sym found.2) ∙ accepted.peak in
    let accepts : IsAccepted own ps own_plan =
    record { traversal = found.1; peak = walked; root = accepted.root; claims = accepted.claims } in
    (laws.least names own system plan.peak same).0 (laws.own ps own_plan terms accepts)
