-- What is said of claims, from what the parts of their judge say.
use Rattle.std.proofs.Common.{◌≡◌, sym, ap, ◌∙◌, subst, ℕ, Bool, true, IsTrue, List, length, Option, Some, None}
use Rattle.std.specs.Prelude.{◌↔◌}
use Rattle.sp_terms.specs.declared.position.Position.{Position}
use Rattle.plans.specs.declared.claim.Claim.{Claim}
use Rattle.plans.specs.Plan.{RiseFrom}
use Rattle.claim_check.specs.Claimed.{Claimed}
use Rattle.bound_check.specs.Shown.{HasRootFor, ShowBound}
use Rattle.bound_check.specs.Objections.{IsClaimObjection}
use Rattle.bound_check.specs.Failing.{IsFirstIn}
use Rattle.bound_check.specs.declared.failing.Failing.{Failing}
use Rattle.bound_check.specs.declared.objection.BoundObjection.TheVariants as objections
use Rattle.bound_check.proofs.Places.{all_pass, lowest}

-- what the test of the claim on the whole says
abbrev pub RootTest : List Claim → ℕ → ℕ → Bool → Type 0
RootTest cs last bound answer = (ps : List Position) → length ps ≡ last → IsTrue answer ↔ HasRootFor ps cs bound

positions_of : (ps : List Position) (cs : List Claim) (view : Claimed) → view ≡ record { positions = ps; claims = cs } → view.positions ≡ ps
positions_of ps cs view is = ap (λ (v : Claimed). v.positions) is

last_of : (ps : List Position) (cs : List Claim) (view : Claimed) (last : ℕ)
    → view ≡ record { positions = ps; claims = cs } → last ≡ length view.positions → length ps ≡ last
last_of ps cs view last is e = sym (e ∙ ap length (positions_of ps cs view is))

has_root : (ps : List Position) (cs : List Claim) (view : Claimed) (last bound : ℕ) (answer : Bool)
    → view ≡ record { positions = ps; claims = cs } → last ≡ length view.positions → RootTest cs last bound answer → answer ≡ true
    → HasRootFor ps cs bound
has_root ps cs view last bound answer is e test agreed = (test ps (last_of ps cs view last is e)).0 agreed

-- what is known where the claim on the whole is there
pub record Rooted (ps : List Position) (cs : List Claim) (view : Claimed) (bound : ℕ) : Type 0 where
  pub is : view ≡ record { positions = ps; claims = cs }
  pub root : HasRootFor ps cs bound
  pub rising : RiseFrom 0 cs

pub rooted : (ps : List Position) (cs : List Claim) (view : Claimed) (last bound : ℕ) (answer : Bool)
    → view ≡ record { positions = ps; claims = cs } → last ≡ length view.positions → RootTest cs last bound answer → answer ≡ true
    → RiseFrom 0 cs → Rooted ps cs view bound
rooted ps cs view last bound answer is e test agreed rising =
    record { is = is; root = has_root ps cs view last bound answer is e test agreed; rising = rising }

first_over : (ps : List Position) (cs : List Claim) (view : Claimed) (bound : ℕ) (r : Option Failing) → Rooted ps cs view bound
    → IsFirstIn view.positions cs 0 (length cs) r → IsFirstIn ps cs 0 (length cs) r
first_over ps cs view bound r known first =
    subst (λ qs. IsFirstIn qs cs 0 (length cs) r) (positions_of ps cs view known.is) first

pub all_meet : (ps : List Position) (cs : List Claim) (view : Claimed) (bound : ℕ) → Rooted ps cs view bound
    → IsFirstIn view.positions cs 0 (length cs) None → ShowBound ps cs bound
all_meet ps cs view bound known first =
    record { root = known.root; each = all_pass ps cs (first_over ps cs view bound None known first) }

pub one_fails : (ps : List Position) (cs : List Claim) (view : Claimed) (bound : ℕ) (f : Failing) → Rooted ps cs view bound
    → IsFirstIn view.positions cs 0 (length cs) (Some f) → IsClaimObjection ps cs bound (objections.Claim f.position f.shape)
one_fails ps cs view bound f known first =
    let low = lowest ps cs f known.rising (first_over ps cs view bound (Some f) known first) in (known.root, low.0, low.1, low.2)
