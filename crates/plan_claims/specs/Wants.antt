-- No public clause names this.
-- What is wanted of a term and of its parts.
use Rattle.std.specs.Prelude.{◌≡◌, ◌≤◌, pos, ◌-ℤ◌, List, map, Option, Some, None, ⊤}
use Rattle.std.specs.List.{AllZip}
use Rattle.sp_terms.specs.Places.{parts_of}
use Rattle.sp_terms.specs.Term.{Term}
use Rattle.claim_rules.specs.Claims.{Claim}
use Rattle.claim_rules.specs.Rules.{MeetsRule}
use Rattle.plans.specs.Plan.{direction_of}
use Rattle.cut_laws.specs.Cuts.{Cut, top_of, lowest_of}
use Rattle.sp_cuts.specs.Notes.{cut_at}
use Rattle.plan_claims.specs.declared.wanted.Wanted.{Wanted}

-- what is wanted, as a claim: its bound is the greatest below the limit
abbrev pub claim_of_wanted : Wanted → Claim
claim_of_wanted w = record { direction = direction_of w.dir; bound = pos w.limit -ℤ pos 1; rest = w.low }

abbrev pub claim_if : Option Wanted → Option Claim
claim_if None = None
claim_if (Some w) = Some (claim_of_wanted w)

-- the side of a cut does not pass below the limit, and `low` is where it is stuck
pub record Shows (c : Cut) (w : Wanted) : Type 0 where
  pub below : w.limit ≤ top_of (direction_of w.dir) c
  pub lowest : w.low ≡ lowest_of (direction_of w.dir) w.limit c

abbrev pub ShowsIf : Cut → Option Wanted → Type 0
ShowsIf c None = ⊤
ShowsIf c (Some w) = Shows c w

abbrev pub AllShow : List Cut → List (Option Wanted) → Type 0
AllShow cs ws = AllZip ShowsIf cs ws

-- a claim, if there is one, meets the rule over these claims of the parts
abbrev pub MeetsIf : Term → List (Option Claim) → Option Claim → Type 0
MeetsIf t ks None = ⊤
MeetsIf t ks (Some k) = MeetsRule t ks k

-- what is wanted of the parts of a term, for what is wanted of it
pub record AreHanded (t : Term) (w : Option Wanted) (ws : List (Option Wanted)) : Type 0 where
  pub all : AllShow (map cut_at (parts_of t)) ws
  pub meets : MeetsIf t (map claim_if ws) (claim_if w)

-- nothing is wanted of any of these
abbrev pub none_each : {A : Type 0} → List A → List (Option Wanted)
none_each xs = map (λ _. None) xs
