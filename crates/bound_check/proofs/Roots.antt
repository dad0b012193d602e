-- The claim on the whole term.
use Rattle.std.proofs.Common.{◌≡◌, sym, ◌∙◌, subst, ℕ, pos, ◌≤ℤ◌, ◌+ℤ◌, Bool, false, IsTrue, List, length, Some, None}
use Rattle.std.specs.Prelude.{◌↔◌}
use Rattle.lists.proofs.Options.{none_some, some_same}
use Rattle.sp_terms.specs.declared.position.Position.{Position}
use Rattle.claim_rules.specs.Claims.{Claim as RuleClaim}
use Rattle.plans.specs.declared.claim.Claim.{Claim}
use Rattle.plans.specs.Plan.{claim_of, claim_at}
use Rattle.bound_check.specs.Shown.{HasRootFor}

-- where it stands, its bound decides
pub root_found : (ps : List Position) (cs : List Claim) (last : ℕ) (c : Claim) (bound : ℕ) (answer : Bool) → length ps ≡ last
    → Some (claim_of c) ≡ claim_at cs last → IsTrue answer ↔ (pos bound ≤ℤ (c.bound +ℤ pos 1))
    → IsTrue answer ↔ HasRootFor ps cs bound
root_found ps cs last c bound answer len is judged =
    let here : claim_at cs (length ps) ≡ Some (claim_of c) = subst (λ n. claim_at cs n ≡ Some (claim_of c)) (sym len) (sym is) in (
      (λ t. (claim_of c, here, judged.0 t)),
      (λ h. judged.1 (subst (λ (x : RuleClaim). pos bound ≤ℤ (x.bound +ℤ pos 1)) (some_same (sym h.1 ∙ here)) h.2)),
    )

pub root_missing : (ps : List Position) (cs : List Claim) (last bound : ℕ) → length ps ≡ last
    → None ≡ claim_at cs last → IsTrue false ↔ HasRootFor ps cs bound
root_missing ps cs last bound len is =
    let here : claim_at cs (length ps) ≡ None = subst (λ n. claim_at cs n ≡ None) (sym len) (sym is) in
    ((λ (h : IsTrue false). cc), (λ h. absurd (none_some (sym here ∙ h.1))))
