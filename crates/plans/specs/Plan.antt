-- Plans: an order of the tasks of a term, its peak, claims on the term that certify that no order has a lower peak, and a priority of the
-- tasks. They are this project's own.
use Rattle.std.specs.Prelude.{◌≡◌, ◌==◌, ℕ, ◌<◌, ◌≤◌, All, List, [], ◌∷◌, length, if◌then◌else◌, Option, Some, None, unsigned_abs, ◌⊎◌}
use Rattle.limits.specs.Limits.{most_tasks, most_positions, most_total}
use Rattle.sp_terms.specs.Term.{Direction as TermDirection, forward, backward}
use Rattle.claim_rules.specs.Claims.{Claim as RuleClaim}
use Rattle.permutations.specs.Perm.{IsPerm}
use Rattle.plans.specs.declared.claim.Claim.{Claim}
use Rattle.plans.specs.declared.claim.Direction.{Direction}
use Rattle.plans.specs.declared.claim.Direction.TheVariants.{Forward, Backward}

-- a plan, as clauses see it
pub record PlanValue : Type 0 where
  pub order : List ℕ
  pub peak : ℕ
  pub claims : List Claim
  pub priority : List ℕ

-- ---- claims of a plan, as claims on a term

abbrev pub direction_of : Direction → TermDirection
direction_of Forward = forward
direction_of Backward = backward

abbrev pub claim_of : Claim → RuleClaim
claim_of c = record { direction = direction_of c.dir; bound = c.bound; rest = c.rest }

-- the claim that stands at a position, if one does
abbrev pub claim_at : List Claim → ℕ → Option RuleClaim
claim_at [] position = None
claim_at (c ∷ cs) position = if c.position == position then Some (claim_of c) else claim_at cs position

-- ---- plans within the limits

-- the greatest number of a task or of a position: 2^32 - 1
abbrev pub most_number : ℕ
most_number = 4294967295

-- what each claim keeps to: its bound is from -2^60 to 2^60
pub record IsClaimWithin (c : Claim) : Type 0 where
  pub position : c.position ≤ most_number
  pub bound : unsigned_abs c.bound ≤ most_total
  pub rest : c.rest ≤ most_total

-- each position is greater than the one before, and the first than this number
abbrev pub RiseFrom : ℕ → List Claim → Type 0
RiseFrom n [] = Unit {0}
RiseFrom n (c ∷ cs) = (n < c.position) × RiseFrom c.position cs

-- a priority of n tasks: each of 1 to n once, and nothing else; a plan may leave it out
abbrev pub IsPriority : ℕ → List ℕ → Type 0
IsPriority n priority = (priority ≡ []) ⊎ IsPerm n priority

pub record IsPlan (plan : PlanValue) : Type 0 where
  pub few_tasks : length plan.order ≤ most_tasks
  pub tasks : All (λ v. v ≤ most_number) plan.order
  pub peak : plan.peak ≤ most_total
  pub few_claims : length plan.claims ≤ most_positions
  pub claims : All IsClaimWithin plan.claims
  pub rising : RiseFrom 0 plan.claims
  pub priority : IsPriority (length plan.order) plan.priority
