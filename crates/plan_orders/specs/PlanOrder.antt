-- The order of a plan: of a plan file of version 1, 2 or 3, or of a plan's JSON. What form a text has, what it reads as, and what refuses
-- it.
use Rattle.std.specs.Prelude.{◌≡◌, ◌==◌, ℕ, Bool, false, not, ◌||◌, nat_le, is_some, unwrap_or}
use Rattle.std.specs.Prelude.{Option, Some, None, option_map, option_and_then}
use Rattle.std.specs.Prelude.{List, [], ◌∷◌, length, map, find, codes, if◌then◌else◌}
use Rattle.std.specs.List.{list_all}
use Rattle.std.specs.Str.{is_utf8}
use Rattle.serde_json.specs.Data.{Data, Items, no_items, item}
use Rattle.serde_json.specs.Read.{read}
use Rattle.serde_json.specs.Find.{get, as_array, as_number, as_u64}
use Rattle.limits.specs.Limits.{most_tasks}
use Rattle.limits.specs.declared.name.LimitName.TheVariants as limits
use Rattle.mp_text.specs.declared.layout.Layout.TheVariants.{Commented}
use Rattle.mp_text.specs.declared.refusals.Refusal.{Refusal}
use Rattle.mp_text.specs.declared.refusals.Refusal.TheVariants as refusals
use Rattle.mp_text.specs.Ahead.{rows_of_bytes}
use Rattle.mp_text.specs.Grammar.{Test, test, first_failure, fault_at}
use Rattle.file_frame.specs.Frame.{has_first}
use Rattle.plans.specs.Plan.{PlanValue, most_number}
use Rattle.bounded_plans.specs.BoundedPlan.{BoundedPlanValue}
use Rattle.plan_files.specs.declared.kind.PlanKind.{PlanKind}
use Rattle.plan_files.specs.declared.kind.PlanKind.TheVariants as kinds
use Rattle.plan_files.specs.PlanFile.{ReadsPlan, RefusesPlan}
use Rattle.bounded_plan_files.specs.BoundedPlanFile.{says_third, ReadsBoundedPlan, RefusesBoundedPlan}
use Rattle.plan_orders.specs.declared.form.PlanForm.{PlanForm}
use Rattle.plan_orders.specs.declared.form.PlanForm.TheVariants.{Json, Third, Earlier}
use Rattle.plan_orders.specs.OrderOf.{PlannedOrderValue, unranked}

-- ---- the form of a text

-- white space of JSON (RFC 8259, section 2): blank, tab, line feed, carriage return
abbrev pub is_blank : ℕ → Bool
is_blank byte = (byte == 32) || (byte == 9) || (byte == 10) || (byte == 13)

abbrev pub opens_object : Option ℕ → Bool
opens_object None = false
opens_object (Some byte) = byte == 123

-- the first byte that is no white space, if there is one
unfoldable pub first_mark : List ℕ → Option ℕ
first_mark text = find (λ byte. not (is_blank byte)) text

-- whether it is `{`
abbrev pub begins_object : List ℕ → Bool
begins_object text = opens_object (first_mark text)

-- whether line 1 says version 3
abbrev pub is_third : List ℕ → Bool
is_third text = has_first (λ header rows. says_third header) (rows_of_bytes Commented text)

abbrev pub form_of : List ℕ → PlanForm
form_of text = if begins_object text then Json else (if is_third text then Third else Earlier)

-- ---- a plan's JSON (RFC 8259): an object whose member `order` is an array of tasks; what else it has is not looked at

-- the value of a text that is UTF-8 and JSON; of members of one name the last counts
unfoldable pub value_of_text : List ℕ → Option Data
value_of_text text = if is_utf8 text then read text else None

abbrev pub values_of : Items → List Data
values_of no_items = []
values_of (item value items) = value ∷ values_of items

-- the values in the member `order`, where it is an array
unfoldable pub order_in : Data → Option (List Data)
order_in value = option_map values_of (option_and_then as_array (get (codes "order") value))

abbrev pub order_stated : List ℕ → Option (List Data)
order_stated text = option_and_then order_in (value_of_text text)

-- a whole number, written without a fraction and an exponent, in the range that plan files have for a task
abbrev pub task_within : ℕ → Option ℕ
task_within n = if nat_le n most_number then Some n else None

unfoldable pub task_of : Data → Option ℕ
task_of value = option_and_then task_within (option_and_then as_u64 (as_number value))

abbrev pub is_task : Data → Bool
is_task value = is_some (task_of value)

abbrev pub number_on : Data → ℕ
number_on value = unwrap_or (task_of value) 0

-- the tests of the values of the array, if there is one; a refusal of JSON names line 1, for the text as a whole
abbrev pub order_tests : Option (List Data) → List (Test PlanKind)
order_tests values =
    test (is_some values) (fault_at 1 kinds.Json)
    ∷ test (nat_le (length (unwrap_or values [])) most_tasks) (refusals.Limit limits.Tasks)
    ∷ test (list_all is_task (unwrap_or values [])) (fault_at 1 kinds.Number)
    ∷ []

abbrev pub json_tests : List ℕ → List (Test PlanKind)
json_tests text = order_tests (order_stated text)

abbrev pub json_numbers : List ℕ → List ℕ
json_numbers text = map number_on (unwrap_or (order_stated text) [])

-- ---- what a text of each form reads as, and what refuses it

-- every test holds, and the order has the numbers of the array
pub record ReadsJson (text : List ℕ) (order : PlannedOrderValue) : Type 0 where
  pub passed : first_failure (json_tests text) ≡ None
  pub stated : order ≡ unranked (json_numbers text)

-- the order of the plan that a file of version 3 reads as, which has no priority
pub record ReadsThird (text : List ℕ) (order : PlannedOrderValue) : Type 0 where
  pub plan : BoundedPlanValue
  pub read : ReadsBoundedPlan text plan
  pub order_is : order ≡ unranked plan.order

-- the order and the priority of the plan that a file of version 1 or 2 reads as
pub record ReadsEarlier (text : List ℕ) (order : PlannedOrderValue) : Type 0 where
  pub plan : PlanValue
  pub read : ReadsPlan text plan
  pub order_is : order ≡ record { order = plan.order; priority = plan.priority }

abbrev pub ReadsAs : PlanForm → List ℕ → PlannedOrderValue → Type 0
ReadsAs Json text order = ReadsJson text order
ReadsAs Third text order = ReadsThird text order
ReadsAs Earlier text order = ReadsEarlier text order

abbrev pub ReadsPlanOrder : List ℕ → PlannedOrderValue → Type 0
ReadsPlanOrder text order = ReadsAs (form_of text) text order

-- the first test that fails
abbrev pub RefusesAs : PlanForm → List ℕ → Refusal PlanKind → Type 0
RefusesAs Json text refusal = first_failure (json_tests text) ≡ Some refusal
RefusesAs Third text refusal = RefusesBoundedPlan text refusal
RefusesAs Earlier text refusal = RefusesPlan text refusal

abbrev pub RefusesPlanOrder : List ℕ → Refusal PlanKind → Type 0
RefusesPlanOrder text refusal = RefusesAs (form_of text) text refusal

-- an answer that is no order: a refusal of the text, or memory ran out
abbrev pub IsPlanOrderRefusal : List ℕ → Refusal PlanKind → Type 0
IsPlanOrderRefusal text refusals.NoMemory = Unit {0}
IsPlanOrderRefusal text (refusals.Format f) = RefusesPlanOrder text (refusals.Format f)
IsPlanOrderRefusal text (refusals.Limit l) = RefusesPlanOrder text (refusals.Limit l)
