-- What several reports share: the order of a source is one, and so is the answer that tells its fault; files that have values, and more.
use Rattle.std.proofs.Common.{◌≡◌, ◌∙◌, ℕ, List, [], ◌∷◌, ◌++◌, Option, Some, length, sym, ap, subst, arith, append_assoc}
use Rattle.std.proofs.lemmas.List.{append-nil}
use Rattle.mp_system.specs.declared.system.OrderKind.{OrderKind}
use Rattle.matrix_files.specs.OrderFile.{ReadsOrder}
use Rattle.plan_orders.specs.OrderOf.{PlannedOrderValue}
use Rattle.plan_orders.specs.PlanOrder.{ReadsPlanOrder}
use Rattle.requests.specs.Request.{NamedFile, OrderSource, order_named, plan_named}
use Rattle.judging.specs.Files.{Answer, AreAccepted, IsOrderFrom, order_refused}

-- ---- one order

-- what is known of the files of orders
pub record OrderFiles : Type 0 where
  pub orders : (bytes one two : List ℕ) → ReadsOrder bytes one → ReadsOrder bytes two → one ≡ two
  pub plans : (bytes : List ℕ) (one two : PlannedOrderValue) → ReadsPlanOrder bytes one → ReadsPlanOrder bytes two → one ≡ two

pub one_order : OrderFiles → (source : OrderSource) (text one two : List ℕ) → IsOrderFrom source text one → IsOrderFrom source text two
    → one ≡ two
one_order files (order_named name) text one two is other = files.orders text one two is.1 other.1
one_order files (plan_named name) text one two (plan, is, e) (plan', is', e') =
    e ∙ ap (λ (p : PlannedOrderValue). p.order) (files.plans text plan plan' is.1 is'.1) ∙ sym e'

-- two answers that tell the first fault of an order
pub same_fault : (first : Option (ℕ × OrderKind)) (a b : Answer)
    → (place : ℕ) × (kind : OrderKind) × (first ≡ Some (place, kind)) × (a ≡ order_refused place kind)
    → (place : ℕ) × (kind : OrderKind) × (first ≡ Some (place, kind)) × (b ≡ order_refused place kind) → a ≡ b
same_fault first a b (place, kind, fault, e) (place', kind', fault', e') =
    let same : Some (place, kind) ≡ Some (place', kind') = sym fault ∙ fault' in
    let places : (place, kind) ≡ (place', kind') = cc in
    e ∙ ap (λ (x : ℕ × OrderKind). order_refused x.0 x.1) places ∙ sym e'

-- ---- files that have values, and more that have, after their texts

pub both_accepted : (xs ys : List NamedFile) (earlier one two : List (List ℕ))
    → length one ≡ length xs → AreAccepted xs earlier one → AreAccepted ys (earlier ++ one) two
    → AreAccepted (xs ++ ys) earlier (one ++ two)
both_accepted [] ys earlier [] two len accepted more = subst (λ (e : List (List ℕ)). AreAccepted ys e two) (append-nil earlier) more
both_accepted [] ys earlier (t ∷ one) two len accepted more = absurd (omega (arith, len))
both_accepted (x ∷ xs) ys earlier [] two len accepted more = absurd accepted
both_accepted (x ∷ xs) ys earlier (t ∷ one) two len accepted more = (
  accepted.0,
  both_accepted xs ys (earlier ++ t ∷ []) one two (omega (arith, len)) accepted.1
      (subst (λ (e : List (List ℕ)). AreAccepted ys e two) (sym (append_assoc earlier (t ∷ []) one)) more),
)
