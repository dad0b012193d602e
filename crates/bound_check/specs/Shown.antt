-- When evidence shows that no order of a system's tasks has a peak below a bound: by sums, by claims on the positions of a term of it, or by
-- looking at its states from the end.
use Rattle.std.specs.Prelude.{◌≡◌, ℕ, pos, ◌≤ℤ◌, ◌+ℤ◌, length, List, Some}
use Rattle.sp_terms.specs.declared.position.Position.{Position}
use Rattle.sp_terms.specs.Values.{IsTerms, term_of}
use Rattle.claim_rules.specs.Claims.{Claim as RuleClaim}
use Rattle.plans.specs.declared.claim.Claim.{Claim}
use Rattle.plans.specs.Plan.{claim_at}
use Rattle.claim_check.specs.Judged.{PassesAt}
use Rattle.shared_systems.specs.Shared.{SharedTaskSystem}
use Rattle.shared_reduce.specs.SharedTerm.{IsSharedTerm}
use Rattle.peak_bounds.specs.Evidence.{IsEvidence}
use Rattle.bounded_plans.specs.declared.evidence.BoundEvidence.{BoundEvidence}
use Rattle.bounded_plans.specs.declared.evidence.BoundEvidence.TheVariants.{Sums, Claims, States}
use Rattle.state_search.specs.Shown.{IsShownByStates}

-- a claim on the whole term, which stands at the last position, has a bound of at least this one less 1
abbrev pub HasRootFor : List Position → List Claim → ℕ → Type 0
HasRootFor ps claims bound = (c : RuleClaim) × (claim_at claims (length ps) ≡ Some c) × (pos bound ≤ℤ (c.bound +ℤ pos 1))

-- so it is, and each claim stands at a position of the term and meets its rule
pub record ShowBound (ps : List Position) (claims : List Claim) (bound : ℕ) : Type 0 where
  pub root : HasRootFor ps claims bound
  pub each : (k : ℕ) → PassesAt ps (claim_at claims) k

-- the positions of a term whose orders tell those of the system
pub record AreTermOf (system : SharedTaskSystem) (ps : List Position) : Type 0 where
  pub names : List ℕ
  pub terms : IsTerms ps
  pub is : IsSharedTerm system names (term_of ps)

-- claims are meant for some such term; a system may have several, in which its parts stand in other places
abbrev pub IsShown : SharedTaskSystem → BoundEvidence → ℕ → Type 0
IsShown system (Sums evidence) bound = IsEvidence system evidence bound
IsShown system (Claims claims) bound = (ps : List Position) × AreTermOf system ps × ShowBound ps claims bound
IsShown system (States most) bound = IsShownByStates system bound most
