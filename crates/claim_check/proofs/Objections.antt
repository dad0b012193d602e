-- A plan is accepted, or there is one first objection to it.
use Rattle.std.proofs.Common.{◌≡◌, ◌==◌, false, refl, sym, ap, ◌∙◌, subst, ℕ, ◌+◌, ◌<◌, max, pos, ◌≤ℤ◌, ◌+ℤ◌}
use Rattle.std.proofs.Common.{List, [], ◌∷◌, length, Option, Some, None, arith, ⊎_elim, ◌⊎◌, inl, inr}
use Rattle.std.specs.Prelude.{◌↔◌}
use Rattle.std.proofs.lemmas.Bool.{cases_lt, cases_eq, cases_order}
use Rattle.std.proofs.lemmas.Int.{by_lt_z, ints}
use Rattle.mp_system.specs.declared.order.OrderFault.{OrderFault}
use Rattle.mp_system.specs.declared.system.OrderKind.{OrderKind}
use Rattle.mp_system.specs.Memory.{peak_of}
use Rattle.mp_system.specs.System.{TaskSystem}
use Rattle.mp_system.specs.Traversal.{IsTraversal, first_fault}
use Rattle.sp_terms.specs.declared.position.Position.{Position}
use Rattle.claim_rules.specs.Claims.{Claim as RuleClaim}
use Rattle.plans.specs.declared.claim.Claim.{Claim}
use Rattle.plans.specs.Plan.{PlanValue, claim_at}
use Rattle.claim_check.specs.Accepted.{HasRoot, IsAccepted, IsObjection}
use Rattle.claim_check.specs.Judged.{PassesAt}
use Rattle.claim_check.specs.Shapes.{shape_at}
use Rattle.claim_check.specs.declared.objection.Objection.{Objection}
use Rattle.claim_check.specs.declared.objection.Objection.TheVariants as objections
use Rattle.claim_check.specs.Verdicts.{IsVerdict}
use Rattle.claim_check.specs.declared.verdict.Verdict.{Verdict}
use Rattle.claim_check.specs.declared.verdict.Verdict.TheVariants.{Yes, No}
use Rattle.claim_check.proofs.Decisions.{Decided, passes, search_below}
use Rattle.claim_check.proofs.Outside.{passes_without}
use Rattle.lists.proofs.Options.{some_none}

-- no claim stands above this position
abbrev top : List Claim → ℕ
top [] = 0
top (c ∷ cs) = max c.position (top cs)

other_position : (m k : ℕ) → m < k → (m == k) ≡ false
other_position m k lt = grind arith

none_above : (cs : List Claim) (k : ℕ) → top cs < k → claim_at cs k ≡ None
none_above [] k lt = refl
none_above (c ∷ cs) k lt =
    let most : top (c ∷ cs) ≡ max c.position (top cs) = refl in
    rw (other_position c.position k (omega (arith, most, lt))) (none_above cs k (omega (arith, most, lt)))

-- all claims pass, or one is the lowest that does not
all_or_lowest : (ps : List Position) (cs : List Claim)
    → ((k : ℕ) → PassesAt ps (claim_at cs) k)
    ⊎ ((m : ℕ) × (PassesAt ps (claim_at cs) m → ⊥) × ((k : ℕ) → k < m → PassesAt ps (claim_at cs) k))
all_or_lowest ps cs = go (search_below (PassesAt ps (claim_at cs)) (passes ps (claim_at cs)) (top cs + 1))
  where
    go : ((k : ℕ) → k < top cs + 1 → PassesAt ps (claim_at cs) k)
        ⊎ ((m : ℕ) × (m < top cs + 1) × (PassesAt ps (claim_at cs) m → ⊥) × ((k : ℕ) → k < m → PassesAt ps (claim_at cs) k))
        → ((k : ℕ) → PassesAt ps (claim_at cs) k)
        ⊎ ((m : ℕ) × (PassesAt ps (claim_at cs) m → ⊥) × ((k : ℕ) → k < m → PassesAt ps (claim_at cs) k))
    go (inl all) =
        inl (λ k. ⊎_elim (λ low. all k low) (λ high. passes_without ps cs k (none_above cs k (omega arith))) (cases_lt k (top cs + 1)))
    go (inr h) = inr (h.0, h.2, h.3)

has_root : (ps : List Position) (plan : PlanValue) → Decided (HasRoot ps plan)
has_root ps plan = at (claim_at plan.claims (length ps)) refl
  where
    none : {A : Type 0} {x : A} → None ≡ Some x → ⊥
    none e = cc

    same : {A : Type 0} {x y : A} → Some x ≡ Some y → x ≡ y
    same e = cc

    at : (o : Option RuleClaim) → claim_at plan.claims (length ps) ≡ o → Decided (HasRoot ps plan)
    at None e = inr (λ h. none (sym e ∙ h.1))
    at (Some c) e = by_lt_z (c.bound +ℤ pos 1) (pos plan.peak)
        (λ lt. inr (λ h. let b : c ≡ h.0 = same (sym e ∙ h.1) in let le : pos plan.peak ≤ℤ (c.bound +ℤ pos 1) =
        subst (λ (x : RuleClaim). pos plan.peak ≤ℤ (x.bound +ℤ pos 1)) (sym b) h.2 in omega (arith, ints, lt, le)))
        (λ le. inl (c, e, le))

-- what the law of traversals says
abbrev pub FaultLaw : Type 0
FaultLaw = (system : TaskSystem) (order : List ℕ) → (first_fault system order ≡ None) ↔ IsTraversal system order

abbrev SomeObjection : TaskSystem → List Position → PlanValue → Type 0
SomeObjection system ps plan = (objection : Objection) × IsObjection system ps plan objection

pub accepted_or_objected : FaultLaw → (system : TaskSystem) (ps : List Position) (plan : PlanValue)
    → IsAccepted system ps plan ⊎ ((objection : Objection) × IsObjection system ps plan objection)
accepted_or_objected law system ps plan = by_order (first_fault system plan.order) refl
  where
    by_claims : IsTraversal system plan.order → peak_of system plan.order ≡ plan.peak → HasRoot ps plan
        → ((k : ℕ) → PassesAt ps (claim_at plan.claims) k)
        ⊎ ((m : ℕ) × (PassesAt ps (claim_at plan.claims) m → ⊥) × ((k : ℕ) → k < m → PassesAt ps (claim_at plan.claims) k))
        → IsAccepted system ps plan ⊎ SomeObjection system ps plan
    by_claims traversal peak root (inl all) = inl (record { traversal = traversal; peak = peak; root = root; claims = all })
    by_claims traversal peak root (inr h) = inr (objections.Claim h.0 (shape_at ps h.0), (traversal, peak, root, h.2, h.1, refl))

    by_root : IsTraversal system plan.order → peak_of system plan.order ≡ plan.peak
        → Decided (HasRoot ps plan) → IsAccepted system ps plan ⊎ SomeObjection system ps plan
    by_root traversal peak (inl root) = by_claims traversal peak root (all_or_lowest ps plan.claims)
    by_root traversal peak (inr fails) = inr (objections.Root (length ps), (traversal, peak, refl, fails))

    by_peak : IsTraversal system plan.order → (peak_of system plan.order ≡ plan.peak) ⊎ (peak_of system plan.order ≡ plan.peak → ⊥)
        → IsAccepted system ps plan ⊎ SomeObjection system ps plan
    by_peak traversal (inl peak) = by_root traversal peak (has_root ps plan)
    by_peak traversal (inr fails) = inr (objections.Peak (peak_of system plan.order) plan.peak, (traversal, refl, refl, fails))

    by_order : (o : Option (ℕ × OrderKind)) → first_fault system plan.order ≡ o → IsAccepted system ps plan ⊎ SomeObjection system ps plan
    by_order None e = by_peak ((law system plan.order).0 e) (cases_eq (peak_of system plan.order) plan.peak)
    by_order (Some (place, kind)) e = inr (objections.Order (record { place = place; kind = kind }), e)

-- an order with a fault is no traversal
no_traversal : FaultLaw → (system : TaskSystem) (order : List ℕ) (fault : ℕ × OrderKind)
    → first_fault system order ≡ Some fault → IsTraversal system order → ⊥
no_traversal law system order fault e traversal = some_none (sym e ∙ (law system order).1 traversal)

pub not_both : FaultLaw → (system : TaskSystem) (ps : List Position) (plan : PlanValue) (objection : Objection)
    → IsAccepted system ps plan → IsObjection system ps plan objection → ⊥
not_both law system ps plan (objections.Order fault) a o = no_traversal law system plan.order _ o a.traversal
not_both law system ps plan (objections.Peak replayed printed) a o = o.3 (sym o.1 ∙ a.peak ∙ o.2)
not_both law system ps plan (objections.Root last) a o = o.3 a.root
not_both law system ps plan (objections.Claim position shape) a o = o.4 (a.claims position)

same_order : (f g : OrderFault) → ◌≡◌ {A = Option (ℕ × OrderKind)} (Some (f.place, f.kind)) (Some (g.place, g.kind))
    → objections.Order f ≡ objections.Order g
same_order f g e = let same : ◌≡◌ {A = OrderFault} f g = λ i. record { place = place e i; kind = kind e i } in ap objections.Order same
  where
    pair : {x y : ℕ × OrderKind} → Some x ≡ Some y → x ≡ y
    pair h = cc

    place : {x y : ℕ × OrderKind} → Some x ≡ Some y → x.0 ≡ y.0
    place h = ap (λ (p : ℕ × OrderKind). p.0) (pair h)

    kind : {x y : ℕ × OrderKind} → Some x ≡ Some y → x.1 ≡ y.1
    kind h = ap (λ (p : ℕ × OrderKind). p.1) (pair h)

-- of two lowest positions that fail, neither is below the other
same_lowest : (P : ℕ → Type 0) (m n : ℕ) → ((k : ℕ) → k < m → P k) → (P m → ⊥) → ((k : ℕ) → k < n → P k) → (P n → ⊥) → m ≡ n
same_lowest P m n below_m no_m below_n no_n =
    ⊎_elim (λ e. e) (λ ne. ⊎_elim (λ lt. absurd (no_m (below_n m lt))) (λ gt. absurd (no_n (below_m n gt))) ne) (cases_order m n)

pub one_objection : FaultLaw → (system : TaskSystem) (ps : List Position) (plan : PlanValue) (one two : Objection)
    → IsObjection system ps plan one → IsObjection system ps plan two → one ≡ two
one_objection law system ps plan (objections.Order f) (objections.Order g) o p = same_order f g (sym o ∙ p)
one_objection law system ps plan (objections.Order f) (objections.Peak r q) o p = absurd (no_traversal law system plan.order _ o p.0)
one_objection law system ps plan (objections.Order f) (objections.Root l) o p = absurd (no_traversal law system plan.order _ o p.0)
one_objection law system ps plan (objections.Order f) (objections.Claim k s) o p = absurd (no_traversal law system plan.order _ o p.0)
one_objection law system ps plan (objections.Peak r q) (objections.Order f) o p = absurd (no_traversal law system plan.order _ p o.0)
one_objection law system ps plan (objections.Peak r q) (objections.Peak s t) o p =
    let a : r ≡ s = sym o.1 ∙ p.1 in
    let b : q ≡ t = sym o.2 ∙ p.2 in
    λ i. objections.Peak (a i) (b i)
one_objection law system ps plan (objections.Peak r q) (objections.Root l) o p = absurd (o.3 (sym o.1 ∙ p.1 ∙ o.2))
one_objection law system ps plan (objections.Peak r q) (objections.Claim k s) o p = absurd (o.3 (sym o.1 ∙ p.1 ∙ o.2))
one_objection law system ps plan (objections.Root l) (objections.Order f) o p = absurd (no_traversal law system plan.order _ p o.0)
one_objection law system ps plan (objections.Root l) (objections.Peak r q) o p = absurd (p.3 (sym p.1 ∙ o.1 ∙ p.2))
one_objection law system ps plan (objections.Root l) (objections.Root m) o p = ap objections.Root (sym o.2 ∙ p.2)
one_objection law system ps plan (objections.Root l) (objections.Claim k s) o p = absurd (o.3 p.2)
one_objection law system ps plan (objections.Claim k s) (objections.Order f) o p = absurd (no_traversal law system plan.order _ p o.0)
one_objection law system ps plan (objections.Claim k s) (objections.Peak r q) o p = absurd (p.3 (sym p.1 ∙ o.1 ∙ p.2))
one_objection law system ps plan (objections.Claim k s) (objections.Root l) o p = absurd (p.3 o.2)
one_objection law system ps plan (objections.Claim k s) (objections.Claim m t) o p =
    let at : k ≡ m = same_lowest (PassesAt ps (claim_at plan.claims)) k m o.3 o.4 p.3 p.4 in
    let shape : s ≡ t = sym o.5 ∙ ap (shape_at ps) at ∙ p.5 in
    λ i. objections.Claim (at i) (shape i)

pub one_verdict : FaultLaw → (system : TaskSystem) (ps : List Position) (plan : PlanValue) (one two : Verdict)
    → IsVerdict system ps plan one → IsVerdict system ps plan two → one ≡ two
one_verdict law system ps plan (Yes p) (Yes q) one two = ap Yes (sym one.1 ∙ two.1)
one_verdict law system ps plan (Yes p) (No o) one two = absurd (not_both law system ps plan o one.0 two)
one_verdict law system ps plan (No o) (Yes p) one two = absurd (not_both law system ps plan o two.0 one)
one_verdict law system ps plan (No o) (No p) one two = ap No (one_objection law system ps plan o p one two)
