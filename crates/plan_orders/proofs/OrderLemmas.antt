-- Of a text of each form: it gives an order or is refused, never both, one order and one refusal.
use Rattle.std.proofs.Common.{◌≡◌, ◌∙◌, ℕ, List, length, Option, Some, None, ◌⊎◌, inl, inr, refl, sym, ap, subst}
use Rattle.mp_text.specs.declared.refusals.Refusal.{Refusal}
use Rattle.mp_text.specs.Grammar.{first_failure}
use Rattle.plans.specs.Plan.{PlanValue, IsPlan, IsPriority}
use Rattle.bounded_plans.specs.BoundedPlan.{BoundedPlanValue}
use Rattle.plan_files.specs.declared.kind.PlanKind.{PlanKind}
use Rattle.plan_files.specs.PlanFile.{ReadsPlan, RefusesPlan}
use Rattle.bounded_plan_files.specs.BoundedPlanFile.{ReadsBoundedPlan, RefusesBoundedPlan}
use Rattle.plan_orders.specs.declared.form.PlanForm.{PlanForm}
use Rattle.plan_orders.specs.declared.form.PlanForm.TheVariants.{Json, Third, Earlier}
use Rattle.plan_orders.specs.OrderOf.{PlannedOrderValue, unranked}
use Rattle.plan_orders.specs.PlanOrder.{ReadsAs, RefusesAs, json_tests, json_numbers}

-- what the laws `exactly_one` of the two formats say
pub record IsFormat {V : Type 0} (reads : List ℕ → V → Type 0) (refuses : List ℕ → Refusal PlanKind → Type 0) : Type 0 where
  pub some : (text : List ℕ) → ((plan : V) × reads text plan) ⊎ ((refusal : Refusal PlanKind) × refuses text refusal)
  pub not_both : (text : List ℕ) (plan : V) (refusal : Refusal PlanKind) → reads text plan → refuses text refusal → ⊥
  pub one_plan : (text : List ℕ) (one two : V) → reads text one → reads text two → one ≡ two
  pub one_refusal : (text : List ℕ) (one two : Refusal PlanKind) → refuses text one → refuses text two → one ≡ two

-- tests hold, or one fails
some_failure : (first : Option (Refusal PlanKind)) → (first ≡ None) ⊎ ((refusal : Refusal PlanKind) × (first ≡ Some refusal))
some_failure None = inl refl
some_failure (Some refusal) = inr (refusal, refl)

module _ (plans : IsFormat ReadsPlan RefusesPlan) (bounded : IsFormat ReadsBoundedPlan RefusesBoundedPlan) where
  pub read_or_refused : (form : PlanForm) (text : List ℕ)
      → ((order : PlannedOrderValue) × ReadsAs form text order) ⊎ ((refusal : Refusal PlanKind) × RefusesAs form text refusal)
  read_or_refused Json text = elim (some_failure (first_failure (json_tests text))) [
    | inl none ↦ inl (unranked (json_numbers text), record { passed = none; stated = refl })
    | inr fails ↦ inr fails
  ]
  read_or_refused Third text = elim (bounded.some text) [
    | inl read ↦ inl (unranked (read.0).order, record { plan = read.0; read = read.1; order_is = refl })
    | inr refused ↦ inr refused
  ]
  read_or_refused Earlier text = elim (plans.some text) [
    | inl read ↦ inl (
      record { order = (read.0).order; priority = (read.0).priority },
      record { plan = read.0; read = read.1; order_is = refl },
    )
    | inr refused ↦ inr refused
  ]

  pub not_both : (form : PlanForm) (text : List ℕ) (order : PlannedOrderValue) (refusal : Refusal PlanKind)
      → ReadsAs form text order → RefusesAs form text refusal → ⊥
  not_both Json text order refusal reads fails = let none = reads.passed in cc
  not_both Third text order refusal reads refuses = bounded.not_both text reads.plan refusal reads.read refuses
  not_both Earlier text order refusal reads refuses = plans.not_both text reads.plan refusal reads.read refuses

  pub one_order : (form : PlanForm) (text : List ℕ) (one two : PlannedOrderValue) → ReadsAs form text one → ReadsAs form text two → one ≡ two
  one_order Json text one two this that = this.stated ∙ sym that.stated
  one_order Third text one two this that =
      this.order_is ∙ ap (λ (plan : BoundedPlanValue). unranked plan.order) (bounded.one_plan text this.plan that.plan this.read that.read)
      ∙ sym that.order_is
  one_order Earlier text one two this that =
      this.order_is
      ∙ ap (λ (plan : PlanValue). record { order = plan.order; priority = plan.priority })
      (plans.one_plan text this.plan that.plan this.read that.read)
      ∙ sym that.order_is

  pub one_refusal : (form : PlanForm) (text : List ℕ) (one two : Refusal PlanKind)
      → RefusesAs form text one → RefusesAs form text two → one ≡ two
  one_refusal Json text one two this that = cc
  one_refusal Third text one two this that = bounded.one_refusal text one two this that
  one_refusal Earlier text one two this that = plans.one_refusal text one two this that

pub priority_read : ((text : List ℕ) (plan : PlanValue) → ReadsPlan text plan → IsPlan plan) → (form : PlanForm) (text : List ℕ)
    (order : PlannedOrderValue) → ReadsAs form text order → IsPriority (length order.order) order.priority
priority_read plans Json text order reads =
    subst (λ (o : PlannedOrderValue). IsPriority (length o.order) o.priority) (sym reads.stated) (inl refl)
priority_read plans Third text order reads =
    subst (λ (o : PlannedOrderValue). IsPriority (length o.order) o.priority) (sym reads.order_is) (inl refl)
priority_read plans Earlier text order reads =
    subst (λ (o : PlannedOrderValue). IsPriority (length o.order) o.priority) (sym reads.order_is) (plans text reads.plan reads.read).priority
