-- Claims that the rules give, from the data items up.
use Rattle.std.specs.Prelude.{List, [], ◌∷◌, Option, Some, None}
use Rattle.sp_terms.specs.Places.{parts_of}
use Rattle.sp_terms.specs.Term.{Term}
use Rattle.claim_rules.specs.Claims.{Claim}
use Rattle.claim_rules.specs.Rules.{MeetsRule}

mutual
  pub data Derives : Term → Claim → Type 0 where
    by_rule : {t : Term} {c : Claim} (cs : List (Option Claim)) → DeriveEach (parts_of t) cs → MeetsRule t cs c → Derives t c

  -- each of these terms has a claim that the rules give, or none
  pub data DeriveEach : List Term → List (Option Claim) → Type 0 where
    none_left : DeriveEach [] []
    unclaimed : {t : Term} {ts : List Term} {cs : List (Option Claim)} → DeriveEach ts cs → DeriveEach (t ∷ ts) (None ∷ cs)
    claimed : {t : Term} {c : Claim} {ts : List Term} {cs : List (Option Claim)} → Derives t c → DeriveEach ts cs
        → DeriveEach (t ∷ ts) (Some c ∷ cs)
