-- When nothing is said against the claim at a position.
use Rattle.std.specs.Prelude.{◌≡◌, ℕ, ◌≤◌, length, List, Option, Some}
use Rattle.sp_terms.specs.declared.position.Position.{Position}
use Rattle.claim_rules.specs.Claims.{Claim}
use Rattle.claim_rules.specs.Placed.{MeetsAt}

-- no claim stands at the position, or the claim stands at a position of the term and meets its rule
abbrev pub PassesAt : List Position → (ℕ → Option Claim) → ℕ → Type 0
PassesAt ps claim_at k = (c : Claim) → claim_at k ≡ Some c → (1 ≤ k) × (k ≤ length ps) × MeetsAt ps claim_at k c
