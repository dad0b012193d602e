-- A term with claims on it.
use Rattle.std.specs.Prelude.{◌≤◌, List, length}
use Rattle.limits.specs.Limits.{most_positions}
use Rattle.sp_terms.specs.declared.position.Position.{Position}
use Rattle.plans.specs.declared.claim.Claim.{Claim}
use Rattle.plans.specs.Plan.{RiseFrom}

-- the positions of a term, and claims that stand at positions, of this term or past its last
pub record Claimed : Type 0 where
  pub positions : List Position
  pub claims : List Claim

-- claims as a plan file has them: not too many, and by rising positions
pub record AreClaims (claims : List Claim) : Type 0 where
  pub few : length claims ≤ most_positions
  pub rising : RiseFrom 0 claims
