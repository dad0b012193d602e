-- The values of a text, of its member `order`, and the numbers of an array.
use Rattle.std.proofs.Common.{◌≡◌, ◌∙◌, ℕ, ◌<◌, ◌≤◌, length, Result, Ok, Err}
use Rattle.std.proofs.Common.{Bool, true, false, cond, List, [], ◌∷◌, map, Option, Some, None, option_map, refl, sym, ap, subst}
use Rattle.std.specs.Prelude.{codes, option_and_then, unwrap_or, nat_le, IsUtf8}
use Rattle.std.specs.List.{list_all}
use Rattle.std.proofs.lemmas.Bool.{lt-leb, le-leb}
use Rattle.std.proofs.lemmas.List.{length-map}
use Rattle.std.proofs.lemmas.List.Folds.{list_all-map}
use Rattle.std.proofs.lemmas.Simd.{map-map}
use Rattle.std.specs.Str.{is_utf8}
use Rattle.std.proofs.lemmas.Str.{IsUtf8-from_is_utf8, is_utf8-from_IsUtf8}
use Rattle.serde_json.specs.Data.{Data}
use Rattle.serde_json.specs.Read.{read}
use Rattle.serde_json.specs.Find.{get, as_array}
use Rattle.serde_json.specs.View.{view, items_view}
use Rattle.serde_json.specs.declared.value.Value.{Value}
use Rattle.limits.specs.Limits.{most_tasks}
use Rattle.limits.specs.declared.name.LimitName.TheVariants as limits
use Rattle.mp_text.specs.declared.refusals.Refusal.{Refusal}
use Rattle.mp_text.specs.declared.refusals.Refusal.TheVariants as refusals
use Rattle.mp_text.specs.Grammar.{test, fault_at}
use Rattle.mp_text.specs.Reading.{tested}
use Rattle.plan_files.specs.declared.kind.PlanKind.{PlanKind}
use Rattle.plan_files.specs.declared.kind.PlanKind.TheVariants as kinds
use Rattle.plan_orders.specs.PlanOrder.{value_of_text, values_of, order_in, order_stated, order_tests, json_tests, json_numbers}
use Rattle.plan_orders.specs.PlanOrder.{is_task, number_on}

-- ---- the value of a text

tested_read : (test : Bool) (value answer : Option Data) → test ≡ true → value ≡ answer → cond test value None ≡ answer
tested_read true value answer holds is = is
tested_read false value answer holds is = absurd cc

pub text_read : (text : List ℕ) (value : Data) → IsUtf8 text → read text ≡ Some value → value_of_text text ≡ Some value
unfolding value_of_text
text_read text value utf8 is = tested_read (is_utf8 text) (read text) (Some value) (is_utf8-from_IsUtf8 text utf8) is

none_read : (test : Bool) (value : Option Data) → (test ≡ true → value ≡ None) → cond test value None ≡ None
none_read true value none = none refl
none_read false value none = refl

pub text_not_read : (text : List ℕ) → (IsUtf8 text → read text ≡ None) → value_of_text text ≡ None
unfolding value_of_text
text_not_read text none = none_read (is_utf8 text) (read text) (λ holds. none (IsUtf8-from_is_utf8 text holds))

-- ---- the member `order`

pub values_viewed : (vs : List Value) → values_of (items_view vs) ≡ map view vs
values_viewed [] = refl
values_viewed (v ∷ vs) = ap (λ (ds : List Data). view v ∷ ds) (values_viewed vs)

pub order_found : (value member : Data) (vs : List Value) → get (codes "order") value ≡ Some member → as_array member ≡ Some (items_view vs)
    → order_in value ≡ Some (map view vs)
unfolding order_in
order_found value member vs found is =
    ap (λ (o : Option Data). option_map values_of (option_and_then as_array o)) found
    ∙ ap (option_map values_of) is ∙ ap Some (values_viewed vs)

pub no_member : (value : Data) → get (codes "order") value ≡ None → order_in value ≡ None
unfolding order_in
no_member value none = ap (λ (o : Option Data). option_map values_of (option_and_then as_array o)) none

pub no_array : (value other : Data) → get (codes "order") value ≡ Some other → as_array other ≡ None → order_in value ≡ None
unfolding order_in
no_array value other found none =
    ap (λ (o : Option Data). option_map values_of (option_and_then as_array o)) found ∙ ap (option_map values_of) none

-- ---- what the tests of JSON come to

abbrev pub outcome : Option (List Data) → Result (List ℕ) (Refusal PlanKind)
outcome values = tested (order_tests values) (map number_on (unwrap_or values []))

-- of an array: whether there are few enough, whether each is a task, and the numbers
abbrev judged : Bool → Bool → List ℕ → Result (List ℕ) (Refusal PlanKind)
judged few tasks numbers = tested (test few (refusals.Limit limits.Tasks) ∷ test tasks (fault_at 1 kinds.Number) ∷ []) numbers

stated : (text : List ℕ) (value : Data) → value_of_text text ≡ Some value → order_stated text ≡ order_in value
stated text value is = ap (option_and_then order_in) is

module _ (text : List ℕ) (value : Data) (is : value_of_text text ≡ Some value) where
  pub no_order : order_in value ≡ None → tested (json_tests text) (json_numbers text) ≡ Err (fault_at 1 kinds.Json)
  no_order none = ap outcome (stated text value is ∙ none)

  module _ (vs : List Value) (found : order_in value ≡ Some (map view vs)) where
    told : tested (json_tests text) (json_numbers text)
        ≡ judged (nat_le (length (map view vs)) most_tasks) (list_all is_task (map view vs)) (map number_on (map view vs))
    told = ap outcome (stated text value is ∙ found)

    pub too_many : most_tasks < length vs → tested (json_tests text) (json_numbers text) ≡ Err (refusals.Limit limits.Tasks)
    too_many long =
        told
        ∙ ap (λ (b : Bool). judged b (list_all is_task (map view vs)) (map number_on (map view vs)))
        (lt-leb (length (map view vs)) most_tasks (subst (λ (n : ℕ). most_tasks < n) (sym (length-map vs view)) long))

    few_told : length vs ≤ most_tasks → (tasks : Bool) → list_all (λ (v : Value). is_task (view v)) vs ≡ tasks
        → tested (json_tests text) (json_numbers text) ≡ judged true tasks (map number_on (map view vs))
    few_told few tasks each =
        told
        ∙ ap (λ (b : Bool). judged b (list_all is_task (map view vs)) (map number_on (map view vs)))
        (le-leb (length (map view vs)) most_tasks (subst (λ (n : ℕ). n ≤ most_tasks) (sym (length-map vs view)) few))
        ∙ ap (λ (b : Bool). judged true b (map number_on (map view vs))) (list_all-map is_task view vs ∙ each)

    pub no_task : length vs ≤ most_tasks → list_all (λ (v : Value). is_task (view v)) vs ≡ false
        → tested (json_tests text) (json_numbers text) ≡ Err (fault_at 1 kinds.Number)
    no_task few each = few_told few false each

    pub all_tasks : length vs ≤ most_tasks → list_all (λ (v : Value). is_task (view v)) vs ≡ true
        → tested (json_tests text) (json_numbers text) ≡ Ok (map (λ (v : Value). number_on (view v)) vs)
    all_tasks few each = few_told few true each ∙ ap Ok (map-map number_on view vs)

pub no_json : (text : List ℕ) → value_of_text text ≡ None → tested (json_tests text) (json_numbers text) ≡ Err (fault_at 1 kinds.Json)
no_json text none = ap (λ (o : Option Data). outcome (option_and_then order_in o)) none
