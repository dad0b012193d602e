-- A claim in a direction, and the part of a series that is passed first.
use Rattle.std.proofs.Common.{◌≡◌, refl, sym, ◌∙◌, subst, ℕ, ℤ, ◌≤◌, true, IsTrue, Option, Some, arith}
use Rattle.std.specs.Prelude.{◌↔◌, nat_le}
use Rattle.sp_terms.specs.Term.{Direction, forward, backward}
use Rattle.claim_rules.specs.Claims.{Claim}
use Rattle.claim_rules.specs.Rules.{Has, is_same}

pub same_direction : (d e : Direction) → is_same d e ≡ true → d ≡ e
same_direction forward forward s = refl
same_direction forward backward s = cc
same_direction backward forward s = cc
same_direction backward backward s = refl

true_le : (m n : ℕ) → IsTrue (nat_le m n) → m ≤ n
true_le m n t = grind arith

le_true : (m n : ℕ) → m ≤ n → IsTrue (nat_le m n)
le_true m n le = grind arith

pub has_here : (claim : Option Claim) (c : Claim) (d : Direction) (bound : ℤ) (rest : ℕ)
    → claim ≡ Some c → c.direction ≡ d → c.bound ≡ bound
    → IsTrue (nat_le rest c.rest) ↔ Has d bound rest claim
has_here claim c d bound rest e dir same = (
  λ t. (c, e, dir, same, true_le rest c.rest t),
  λ (x, ex, dx, bx, le). le_true rest c.rest (subst (λ (y : Claim). rest ≤ y.rest) (some_same (sym ex ∙ e)) le),
)
  where
    some_same : {x y : Claim} → Some x ≡ Some y → x ≡ y
    some_same s = cc
