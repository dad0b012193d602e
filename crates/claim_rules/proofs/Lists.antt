-- Claims that meet their rules position by position are given by the rules.
use Rattle.std.proofs.Common.{◌≡◌, ℕ, zero, suc, ◌<◌, ◌≤◌, refl, subst, arith, List, [], ◌∷◌, length, map, Option, Some, None, All}
use Rattle.std.proofs.lemmas.List.Elements.{All-head, All-tail}
use Rattle.sp_terms.specs.declared.position.Position.{Position}
use Rattle.sp_terms.specs.Places.{term_of_position, parts_of, part_positions}
use Rattle.sp_terms.specs.Term.{Term}
use Rattle.sp_terms.specs.Values.{IsTerms}
use Rattle.claim_rules.specs.Claims.{Claim}
use Rattle.claim_rules.specs.Derivations.{Derives, by_rule, DeriveEach, none_left, unclaimed, claimed}
use Rattle.claim_rules.specs.Placed.{AllMeet}

-- what is used of positions
pub record PositionLaws : Type 0 where
  pub parts : (ps : List Position) (k : ℕ) → IsTerms ps → 1 ≤ k → k ≤ length ps
      → map (term_of_position ps) (part_positions k (term_of_position ps k)) ≡ parts_of (term_of_position ps k)
  pub before : (ps : List Position) (k : ℕ) → IsTerms ps → 1 ≤ k → k ≤ length ps
      → All (λ j. (1 ≤ j) × (j < k)) (part_positions k (term_of_position ps k))

module _ (laws : PositionLaws) (ps : List Position) (claim_at : ℕ → Option Claim) (terms : IsTerms ps) (meet : AllMeet ps claim_at) where
  -- each claim before a position is derived
  abbrev Earlier : ℕ → Type 0
  Earlier k = (j : ℕ) (c : Claim) → 1 ≤ j → j < k → claim_at j ≡ Some c → Derives (term_of_position ps j) c

  derive_one : (t : Term) (ts : List Term) (o : Option Claim) (cs : List (Option Claim))
      → ((c : Claim) → o ≡ Some c → Derives t c) → DeriveEach ts cs → DeriveEach (t ∷ ts) (o ∷ cs)
  derive_one t ts None cs h each = unclaimed each
  derive_one t ts (Some c) cs h each = claimed (h c refl) each

  derive_each : (k : ℕ) → Earlier k → (js : List ℕ) → All (λ j. (1 ≤ j) × (j < k)) js
      → DeriveEach (map (term_of_position ps) js) (map claim_at js)
  derive_each k earlier [] inside = none_left
  derive_each k earlier (j ∷ js) inside =
      let here : (1 ≤ j) × (j < k) = All-head (λ j. (1 ≤ j) × (j < k)) j js inside in
      derive_one (term_of_position ps j) _ (claim_at j) _ (λ c is. earlier j c here.0 here.1 is)
      (derive_each k earlier js (All-tail (λ j. (1 ≤ j) × (j < k)) j js inside))

  derive_at : (k : ℕ) → Earlier k → (c : Claim) → 1 ≤ k → k ≤ length ps → claim_at k ≡ Some c → Derives (term_of_position ps k) c
  derive_at k earlier c low high is =
      let t = term_of_position ps k in
      by_rule (map claim_at (part_positions k t))
      (subst (λ ts. DeriveEach ts (map claim_at (part_positions k t))) (laws.parts ps k terms low high)
      (derive_each k earlier (part_positions k t) (laws.before ps k terms low high)))
      (meet k c low high is)

  earlier : (k : ℕ) → k ≤ suc (length ps) → Earlier k
  earlier zero le j c low lt is = absurd (omega (arith, lt))
  earlier (suc k) le j c low lt is =
      derive_at j (λ i d l m e. earlier k (omega (arith, le)) i d l (omega (arith, m, lt)) e) c low (omega (arith, lt, le)) is

  pub all_derived : (k : ℕ) (c : Claim) → 1 ≤ k → k ≤ length ps → claim_at k ≡ Some c → Derives (term_of_position ps k) c
  all_derived k c low high is = earlier (suc k) (omega (arith, high)) k c low (omega arith) is
