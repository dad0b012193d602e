-- Claims by their places in a list, and by their positions.
use Rattle.std.proofs.Common.{◌≡◌, ◌==◌, refl, sym, subst, ℕ, zero, suc, ◌+◌, ◌<◌, ◌≤◌, Bool, true, false, if◌then◌else◌}
use Rattle.std.proofs.Common.{List, [], ◌∷◌, length, Some, None, arith, ⊎_elim}
use Rattle.lists.proofs.Options.{none_some}
use Rattle.lists.proofs.Orders.{lt_or_le}
use Rattle.sp_terms.specs.declared.position.Position.{Position}
use Rattle.claim_rules.specs.Claims.{Claim as RuleClaim}
use Rattle.plans.specs.declared.claim.Claim.{Claim}
use Rattle.plans.specs.Plan.{claim_of, claim_at, RiseFrom}
use Rattle.claim_check.specs.Judged.{PassesAt}
use Rattle.claim_check.specs.Shapes.{shape_at}
use Rattle.claim_check.specs.declared.shape.Shape.{Shape}
use Rattle.bound_check.specs.Failing.{position_at, PassesAtPlace, IsFirstIn}
use Rattle.bound_check.specs.declared.failing.Failing.{Failing}

-- the place of the claim at a position
at_place : (cs : List Claim) (k : ℕ) (c : RuleClaim) → claim_at cs k ≡ Some c → (i : ℕ) × (i < length cs) × (position_at cs i ≡ k)
at_place [] k c e = absurd (none_some e)
at_place (x ∷ cs) k c e = by_test (at_place cs k c) (x.position == k) refl e
  where
    same : (m n : ℕ) → (m == n) ≡ true → m ≡ n
    same m n e = grind arith

    by_test : (claim_at cs k ≡ Some c → (i : ℕ) × (i < length cs) × (position_at cs i ≡ k)) → (b : Bool)
        → (x.position == k) ≡ b → (if b then Some (claim_of x) else claim_at cs k) ≡ Some c
        → (i : ℕ) × (i < length (x ∷ cs)) × (position_at (x ∷ cs) i ≡ k)
    by_test after true is e = (0, omega arith, same x.position k is)
    by_test after false is e = let later = after e in (suc later.0, omega (arith, later.1), later.2)

-- ---- positions rise

above : (n : ℕ) (cs : List Claim) (j : ℕ) → RiseFrom n cs → j < length cs → n < position_at cs j
above n [] j rise lt = absurd (omega arith)
above n (x ∷ cs) zero rise lt = rise.0
above n (x ∷ cs) (suc j) rise lt = omega (arith, rise.0, above x.position cs j rise.1 (omega arith))

rises : (n : ℕ) (cs : List Claim) (i j : ℕ) → RiseFrom n cs → i ≤ j → j < length cs → position_at cs i ≤ position_at cs j
rises n [] i j rise le lt = absurd (omega arith)
rises n (x ∷ cs) zero zero rise le lt = omega arith
rises n (x ∷ cs) zero (suc j) rise le lt = omega (arith, above x.position cs j rise.1 (omega arith))
rises n (x ∷ cs) (suc i) zero rise le lt = absurd (omega arith)
rises n (x ∷ cs) (suc i) (suc j) rise le lt = rises x.position cs i j rise.1 (omega arith) (omega arith)

-- ---- the first that fails is the lowest

pub all_pass : (ps : List Position) (cs : List Claim) → IsFirstIn ps cs 0 (length cs) None → (k : ℕ) → PassesAt ps (claim_at cs) k
all_pass ps cs none k c e =
    let place = at_place cs k c e in subst (PassesAt ps (claim_at cs)) place.2 (none place.0 (omega arith) place.1) c e

pub lowest : (ps : List Position) (cs : List Claim) (f : Failing) → RiseFrom 0 cs → IsFirstIn ps cs 0 (length cs) (Some f)
    → ((k : ℕ) → k < f.position → PassesAt ps (claim_at cs) k) × (PassesAt ps (claim_at cs) f.position → ⊥)
    × (shape_at ps f.position ≡ f.shape)
lowest ps cs f rise first = (
  λ k lt c e.
      let place = at_place cs k c e in
      let passes = earlier place.0 place.1 (omega (arith, place.2, lt)) in
      subst (PassesAt ps (claim_at cs)) place.2 passes c e,
  λ passes. first.3.fails (subst (PassesAt ps (claim_at cs)) (sym first.3.position) passes),
  first.3.shape,
)
  where
    earlier : (i : ℕ) → i < length cs → position_at cs i < f.position → PassesAtPlace ps cs i
    earlier i some below =
        ⊎_elim (λ before. first.4 i (omega arith) before)
        (λ later. absurd (omega (arith, rises 0 cs first.0 i rise later some, first.3.position, below))) (lt_or_le i first.0)

-- ---- place by place

-- what is said of the claims that a judge sees, at the position of a place
pub passes_here : (ps : List Position) (cs seen : List Claim) (i : ℕ) → seen ≡ cs → PassesAt ps (claim_at seen) (position_at cs i)
    → PassesAtPlace ps cs i
passes_here ps cs seen i same passes = subst (λ ds. PassesAt ps (claim_at ds) (position_at cs i)) same passes

pub one_more : (ps : List Position) (cs : List Claim) (from i : ℕ) → ((j : ℕ) → from ≤ j → j < i → PassesAtPlace ps cs j)
    → PassesAtPlace ps cs i → (j : ℕ) → from ≤ j → j < i + 1 → PassesAtPlace ps cs j
one_more ps cs from i before here j low high =
    ⊎_elim (λ early. before j low early) (λ late. let e : i ≡ j = omega arith in subst (PassesAtPlace ps cs) e here) (lt_or_le j i)

-- the judge names what stands there
pub fails_here : (ps : List Position) (cs seen : List Claim) (from to i : ℕ) (shape : Shape) → seen ≡ cs → from ≤ i → i < to
    → (PassesAt ps (claim_at seen) (position_at cs i) → ⊥) → shape ≡ shape_at ps (position_at cs i)
    → ((j : ℕ) → from ≤ j → j < i → PassesAtPlace ps cs j)
    → IsFirstIn ps cs from to (Some (record { position = position_at cs i; shape = shape }))
fails_here ps cs seen from to i shape same low high fails is before = (
  i,
  low,
  high,
  record {
    fails = subst (λ ds. PassesAt ps (claim_at ds) (position_at cs i) → ⊥) same fails;
    position = refl;
    shape = sym is;
  },
  before,
)
