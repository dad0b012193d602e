-- The claims that the sides of a cut show, and the claims on the parts that a claim on the whole needs. They name no segment: a claim
-- on a series needs the peaks of the parts' sides, and one on parts side by side needs the levels at which the parts are stuck.
use Rattle.std.specs.Prelude.{◌≡◌, ℕ, ℤ, pos, ◌-ℤ◌, ◌+◌, ◌-◌, ◌≤◌, max, if◌then◌else◌, nat_le, List, [], ◌∷◌, Option, Some, None}
use Rattle.side_laws.specs.Levels.{AreLevels}
use Rattle.side_laws.specs.Segments.{net_sum}
use Rattle.hill_valley.specs.Side.{limit_from, run_profile}
use Rattle.sp_terms.specs.Term.{Term, Parts, no_parts, part, Direction, forward, backward, first_memory, least_of}
use Rattle.sp_term_laws.specs.Moves.{other}
use Rattle.claim_rules.specs.Claims.{Claim}
use Rattle.claim_rules.specs.Rules.{passed_first}
use Rattle.cut_laws.specs.Cuts.{Cut, top_of, lowest_of, starts, sides}

-- the claim with the greatest bound below this limit
abbrev pub claim_below : Direction → ℕ → ℕ → Claim
claim_below d limit rest = record { direction = d; bound = pos limit -ℤ pos 1; rest = rest }

-- the side of the claim's direction shows it: its bound is below the side's peak, and its rest is at most the lowest level within it
pub record Wants (c : Cut) (k : Claim) : Type 0 where
  pub below : limit_from k.bound ≤ top_of k.direction c
  pub low : k.rest ≤ lowest_of k.direction (limit_from k.bound) c

abbrev pub WantsIf : Cut → Option Claim → Type 0
WantsIf c None = Unit {0}
WantsIf c (Some k) = Wants c k

-- so does each of these cuts
abbrev pub AllWant : List Cut → List (Option Claim) → Type 0
AllWant [] [] = Unit {0}
AllWant [] (k ∷ ks) = ⊥
AllWant (c ∷ cs) [] = ⊥
AllWant (c ∷ cs) (k ∷ ks) = WantsIf c k × AllWant cs ks

-- the numbers of a cut are those of the term, and both sides lead down to the least memory
pub record Fits (t : Term) (c : Cut) : Type 0 where
  pub initial : c.initial ≡ first_memory forward t
  pub final : c.fin ≡ first_memory backward t
  pub low : c.least ≡ least_of t
  pub front : net_sum (run_profile c.front) + c.least ≡ c.initial
  pub back : net_sum (run_profile c.back) + c.least ≡ c.fin

-- ---- a series

-- the claim on the part that is passed first, where these are the peaks of its side in the claim's direction and of the other side
abbrev pub near_claim : Claim → ℕ → ℕ → Option Claim
near_claim k near between =
    if nat_le (limit_from k.bound) near then Some k
    else (if nat_le (limit_from k.bound) between then Some (record { direction = other k.direction; bound = k.bound; rest = 0 })
    else None)

-- the claim on the part that is passed last
abbrev pub far_claim : Claim → ℕ → ℕ → ℕ → Option Claim
far_claim k near between hill = if nat_le (limit_from k.bound) (max near (max between hill)) then None else Some k

-- the claims on the two parts of a series: on the first thing that does not pass within the bound
abbrev pub first_claim : Claim → Cut → Cut → ℕ → Option Claim
first_claim k a b hill =
    passed_first k.direction (near_claim k (top_of forward a) (top_of backward a)) (far_claim k (top_of backward b) (top_of forward b) hill)

abbrev pub second_claim : Claim → Cut → Cut → ℕ → Option Claim
second_claim k a b hill =
    passed_first k.direction (far_claim k (top_of forward a) (top_of backward a) hill) (near_claim k (top_of backward b) (top_of forward b))

-- ---- parts side by side

-- the levels of the parts at which all sides together are stuck within the bound
abbrev pub AreStuckWithin : Direction → ℤ → List Cut → List ℕ → Type 0
AreStuckWithin d bound cs levels = AreLevels (limit_from bound) 0 (starts d cs) (sides d cs) levels

-- the claim on a part that is stuck at a level: within a bound of its own that its side does not pass, or none
abbrev pub part_claim : Direction → ℤ → Cut → ℕ → Option Claim
part_claim d bound c level =
    if nat_le (limit_from bound) (top_of d c) then Some (record { direction = d; bound = bound; rest = level }) else None

-- the claims on the parts at these levels, which sum to `total`: the bound of each is the whole's less the levels of the others
abbrev pub par_claims : Direction → ℤ → ℕ → List Cut → List ℕ → List (Option Claim)
par_claims d bound total [] levels = []
par_claims d bound total (c ∷ cs) [] = []
par_claims d bound total (c ∷ cs) (level ∷ levels) =
    part_claim d (bound -ℤ pos (total - level)) c level ∷ par_claims d bound total cs levels

abbrev pub AllFit : Parts → List Cut → Type 0
AllFit no_parts [] = Unit {0}
AllFit no_parts (c ∷ cs) = ⊥
AllFit (part t ts) [] = ⊥
AllFit (part t ts) (c ∷ cs) = Fits t c × AllFit ts cs
