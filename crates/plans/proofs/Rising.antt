-- Claims whose positions rise, one after another.
use Rattle.std.proofs.Common.{◌≡◌, ℕ, suc, ◌-◌, ◌<◌, List, [], ◌∷◌, ◌++◌, length, get_or, refl, ap, ◌∙◌, arith, pos}
use Rattle.plans.specs.Plan.{RiseFrom}
use Rattle.plans.specs.declared.claim.Claim.{Claim}
use Rattle.plans.specs.declared.claim.Direction.TheVariants.{Forward}

-- the last position, or this one where there is none
unfoldable pub last_from : ℕ → List Claim → ℕ
last_from n [] = n
last_from n (c ∷ cs) = last_from c.position cs

pub rise_push : (n : ℕ) (cs : List Claim) (c : Claim) → RiseFrom n cs → last_from n cs < c.position → RiseFrom n (cs ++ c ∷ [])
unfolding last_from
rise_push n [] c rise lt = (lt, tt)
rise_push n (d ∷ cs) c rise lt = (rise.0, rise_push d.position cs c rise.1 lt)

pub rise_at : (n : ℕ) (cs : List Claim) (c : Claim) (ds : List Claim) → RiseFrom n (cs ++ c ∷ ds) → last_from n cs < c.position
unfolding last_from
rise_at n [] c ds rise = rise.0
rise_at n (d ∷ cs) c ds rise = rise_at d.position cs c ds rise.1

abbrev pub no_claim : Claim
no_claim = record { position = 0; dir = Forward; bound = pos 0; rest = 0 }

pub last_is : (n : ℕ) (c : Claim) (cs : List Claim) → (get_or (c ∷ cs) (length (c ∷ cs) - 1) no_claim).position ≡ last_from n (c ∷ cs)
unfolding last_from
last_is n c [] = refl
last_is n c (d ∷ cs) =
    let at : length (c ∷ d ∷ cs) - 1 ≡ suc (length (d ∷ cs) - 1) = omega arith in
    ap (λ (k : ℕ). (get_or (c ∷ d ∷ cs) k no_claim).position) at ∙ last_is c.position d cs
