-- No public clause names this.
-- Plans of the smallest workflow, one item of data of size 3 and no task: one that is accepted, and objections to others.
use Rattle.std.specs.Prelude.{◌≡◌, ◌==◌, ℕ, ◌≤◌, pos, Bool, true, false, T, if◌then◌else◌, Some, None, is_none, unwrap_or, List, [], ◌∷◌}
use Rattle.std.specs.Prelude.{◌++◌, map, codes, refl}
use Rattle.std.proofs.Common.{lit≤, subst, sym, ap, eqb→eq, le_trans, not-suc-le-zero}
use Rattle.std.proofs.lemmas.List.Elements.{All-nil}
use Rattle.mp_system.specs.declared.system.OrderKind.TheVariants.{Unknown}
use Rattle.mp_system.specs.System.{TaskSystem, IsTask}
use Rattle.mp_system.specs.Traversal.{IsTraversal}
use Rattle.shared_systems.specs.Shared.{HasTask}
use Rattle.shared_systems.specs.SharedTraversal.{IsSharedTraversal}
use Rattle.shared_systems.specs.OneReader.{shared_of}
use Rattle.sp_terms.specs.declared.position.Position.{Position}
use Rattle.sp_terms.specs.declared.position.Position.TheVariants.{Hold}
use Rattle.sp_terms.specs.declared.position.Position.TheVariants as at
use Rattle.sp_terms.specs.Term.{hold, forward}
use Rattle.sp_terms.specs.SystemOfTerm.{system_of_term}
use Rattle.claim_rules.specs.Claims.{Claim as RuleClaim}
use Rattle.claim_rules.specs.Placed.{MeetsAt}
use Rattle.plans.specs.declared.claim.Claim.{Claim}
use Rattle.plans.specs.declared.claim.Direction.TheVariants.{Forward}
use Rattle.plans.specs.Plan.{PlanValue, claim_at}
use Rattle.claim_check.specs.declared.shape.Shape.TheVariants as shapes
use Rattle.claim_check.specs.declared.objection.Objection.TheVariants as objections
use Rattle.claim_check.specs.declared.verdict.Verdict.TheVariants.{Yes, No}
use Rattle.claim_check.specs.Judged.{PassesAt}
use Rattle.claim_check.specs.Accepted.{IsAccepted, IsObjection}
use Rattle.claim_check.specs.Shapes.{shape_at, word_of}
use Rattle.claim_check.specs.Verdicts.{IsVerdict}

-- ---- what stands at a position

-- two items and a task; nothing stands at 0 and at 4
pub shapes_at :
    map (shape_at (Hold 0 ∷ Hold 7 ∷ at.Task 2 0 1 ∷ [])) (0 ∷ 1 ∷ 3 ∷ 4 ∷ [])
    ≡ shapes.Outside ∷ shapes.Hold ∷ shapes.Series ∷ shapes.Outside ∷ []
shapes_at = refl

pub shape_words :
    map word_of (shapes.Hold ∷ shapes.Series ∷ shapes.Par ∷ shapes.Outside ∷ [])
    ≡ codes "data" ∷ codes "series" ∷ codes "par" ∷ codes "outside" ∷ []
shape_words = refl

-- ---- a plan that is accepted

abbrev pub positions : List Position
positions = Hold 3 ∷ []

abbrev pub system : TaskSystem
system = system_of_term (hold 3)

-- no order stays within 2, and there is but the one without a task
abbrev pub claims : List Claim
claims = record { position = 1; dir = Forward; bound = pos 2; rest = 3 } ∷ []

abbrev pub plan : List Claim → List ℕ → ℕ → PlanValue
plan claims order peak = record { order = order; peak = peak; claims = claims; priority = [] }

-- no list that is cut before an element is empty
abbrev pub IsEmpty : {A : Type 0} → List A → Type 0
IsEmpty [] = Unit {0}
IsEmpty (x ∷ xs) = ⊥

pub is_not_cut : {A : Type 0} (before rest : List A) (x : A) → [] ≡ before ++ x ∷ rest → ⊥
is_not_cut [] rest x same = subst IsEmpty same tt
is_not_cut (y ∷ before) rest x same = subst IsEmpty same tt

-- the order of no task is a traversal of no task
pub nothing_is_a_traversal : IsTraversal system []
nothing_is_a_traversal = record {
  once = λ v task. absurd (not-suc-le-zero (le_trans (task.0) (task.1)));
  tasks = All-nil (IsTask system);
  after_suppliers = λ before rest v same. absurd (is_not_cut before rest v same);
}

-- and as tasks, which is how `replay` has them
pub nothing_is_a_shared_traversal : IsSharedTraversal (shared_of system) []
nothing_is_a_shared_traversal = record {
  once = λ v task. absurd (not-suc-le-zero (le_trans (task.0) (task.1)));
  tasks = All-nil (HasTask (shared_of system));
  after_suppliers = λ before rest v same. absurd (is_not_cut before rest v same);
}

-- as a claim on the term: its bound is below the size, and its rest is at most that
abbrev pub claim : RuleClaim
claim = record { direction = forward; bound = pos 2; rest = 3 }

pub claim_meets_its_rule : MeetsAt positions (claim_at claims) 1 claim
claim_meets_its_rule = (record { lt = tt }, lit≤ tt)

-- where a claim stands, it stands at position 1 and is this one
passes_where : (k : ℕ) (c : RuleClaim) (here : Bool) → (1 == k) ≡ here → (if here then Some claim else None) ≡ Some c
    → (1 ≤ k) × (k ≤ 1) × MeetsAt positions (claim_at claims) k c
passes_where k c true here stands =
    subst (λ p. (1 ≤ p) × (p ≤ 1) × MeetsAt positions (claim_at claims) p c) (eqb→eq 1 k (subst T (sym here) tt))
    (lit≤ tt, lit≤ tt, subst (MeetsAt positions (claim_at claims) 1) (ap (λ o. unwrap_or o claim) stands) claim_meets_its_rule)
passes_where k c false here stands = absurd (subst (λ o. T (is_none o)) stands tt)

pub claims_pass : (k : ℕ) → PassesAt positions (claim_at claims) k
claims_pass k c stands = passes_where k c (1 == k) refl stands

pub accepted : IsAccepted system positions (plan claims [] 3)
accepted = record {
  traversal = nothing_is_a_traversal;
  peak = refl;
  root = (claim, refl, record { le = tt });
  claims = claims_pass;
}

-- ---- objections

-- task 1 is none
pub no_such_task : IsObjection system positions (plan claims (1 ∷ []) 3) (objections.Order (record { place = 1; kind = Unknown }))
no_such_task = refl

-- the peak is 3, and 4 is stated
pub another_peak : IsObjection system positions (plan claims [] 4) (objections.Peak 3 4)
another_peak = (nothing_is_a_traversal, refl, refl, λ same. subst (λ n. T (n == 3)) same tt)

-- no claim stands at the last position, which is 1
pub no_claim : IsObjection system positions (plan [] [] 3) (objections.Root 1)
no_claim = (nothing_is_a_traversal, refl, refl, λ root. subst (λ o. T (is_none o)) (root.1) tt)

-- ---- verdicts

pub yes_to_the_plan : IsVerdict system positions (plan claims [] 3) (Yes 3)
yes_to_the_plan = (accepted, refl)

pub no_to_another_peak : IsVerdict system positions (plan claims [] 4) (No (objections.Peak 3 4))
no_to_another_peak = another_peak
