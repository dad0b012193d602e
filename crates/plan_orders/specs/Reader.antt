-- No public clause names this.
-- What is told of a text that is no JSON.
use Rattle.std.specs.Prelude.{◌≡◌, ℕ, List, None}
use Rattle.mp_text.specs.declared.refusals.Refusal.{Refusal}
use Rattle.mp_text.specs.declared.refusals.Refusal.TheVariants as refusals
use Rattle.plan_files.specs.declared.kind.PlanKind.{PlanKind}
use Rattle.plan_files.specs.declared.kind.PlanKind.TheVariants as kinds
use Rattle.plan_orders.specs.PlanOrder.{value_of_text}

-- it has no value, or memory ran out
abbrev pub IsNoJson : List ℕ → Refusal PlanKind → Type 0
IsNoJson text refusals.NoMemory = Unit {0}
IsNoJson text (refusals.Format f) = (value_of_text text ≡ None) × (f ≡ record { line = 1; kind = kinds.Json })
IsNoJson text (refusals.Limit l) = ⊥
