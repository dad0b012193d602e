-- Claims at rising positions, one more at a time.
use Rattle.std.proofs.Common.{◌≡◌, ◌∙◌, ℕ, pos, ◌+◌, ◌<◌, All, List, [], ◌∷◌, ◌++◌, map}
use Rattle.std.proofs.Common.{take, length, slice_index_or, ap, subst, sym, arith}
use Rattle.std.specs.Prelude.{◌↔◌}
use Rattle.std.proofs.Math.Seq.{get_or-append_seam}
use Rattle.std.proofs.lemmas.List.{take_more, map-append, length-append}
use Rattle.std.proofs.lemmas.List.Elements.{All-push}
use Rattle.plans.specs.declared.claim.Claim.{Claim as PlanClaim}
use Rattle.plans.specs.Plan.{IsClaimWithin, RiseFrom}
use Rattle.c_calls.specs.declared.claims.Claim.{Claim}
use Rattle.c_calls.specs.Answers.{claim_given}
use Rattle.c_calls.specs.Refusals.{AreRisingClaims}

-- what may follow claims stands past this position
abbrev pub GoesOn : List PlanClaim → ℕ → Type 0
GoesOn cs last = (d : PlanClaim) → RiseFrom 0 (cs ++ d ∷ []) ↔ (last < d.position)

rises_more : (n : ℕ) (cs : List PlanClaim) (c d : PlanClaim) → RiseFrom n (cs ++ c ∷ []) → c.position < d.position
    → RiseFrom n ((cs ++ c ∷ []) ++ d ∷ [])
rises_more n [] c d h less = (h.0, (less, tt))
rises_more n (x ∷ xs) c d h less = (h.0, rises_more x.position xs c d h.1 less)

last_rises : (n : ℕ) (cs : List PlanClaim) (c d : PlanClaim) → RiseFrom n ((cs ++ c ∷ []) ++ d ∷ []) → c.position < d.position
last_rises n [] c d h = h.1.0
last_rises n (x ∷ xs) c d h = last_rises x.position xs c d h.1

last_within : (cs : List PlanClaim) (c : PlanClaim) → All IsClaimWithin (cs ++ c ∷ []) → IsClaimWithin c
last_within cs c h =
    subst IsClaimWithin (get_or-append_seam cs c [] c) (h (length cs) c (omega (arith, length-append cs (c ∷ []))))

abbrev pub no_claim : Claim
no_claim = record { position = 0; backward = 0; bound = pos 0; rest = 0 }

-- one claim more
one_more : (claims : List Claim) (i : ℕ) (d : Claim) → i < length claims
    → map claim_given (take (i + 1) claims) ≡ map claim_given (take i claims) ++ claim_given (slice_index_or claims i d) ∷ []
one_more claims i d there =
    ap (map claim_given) (take_more claims i d there) ∙ map-append claim_given (take i claims) (slice_index_or claims i d ∷ [])

module _ (claims : List Claim) (i : ℕ) (d : Claim) (there : i < length claims) where
  abbrev next : PlanClaim
  next = claim_given (slice_index_or claims i d)

  abbrev before : List PlanClaim
  before = map claim_given (take i claims)

  pub are_more : (last : ℕ) → AreRisingClaims (take i claims) → GoesOn before last
      → last < next.position → IsClaimWithin next → AreRisingClaims (take (i + 1) claims)
  are_more last are on past within = (
    subst (All IsClaimWithin) (sym (one_more claims i d there)) (All-push IsClaimWithin before next are.0 within),
    subst (RiseFrom 0) (sym (one_more claims i d there)) ((on next).1 past),
  )

  pub goes_on : (last : ℕ) → GoesOn before last → last < next.position → GoesOn (map claim_given (take (i + 1) claims)) next.position
  goes_on last on past = subst (λ cs. GoesOn cs next.position) (sym (one_more claims i d there)) (λ e.
      (last_rises 0 before next e, rises_more 0 before next e ((on next).1 past)))

  -- what the next claim of claims that stand right is
  pub next_stands : (last : ℕ) → GoesOn before last → AreRisingClaims (take (i + 1) claims) → (last < next.position) × IsClaimWithin next
  next_stands last on are = (
    (on next).0 (subst (RiseFrom 0) (one_more claims i d there) are.1),
    last_within before next (subst (All IsClaimWithin) (one_more claims i d there) are.0),
  )
