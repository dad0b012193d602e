-- What a task consumes and produces, as sums over the items that were given.
use Rattle.std.proofs.Common.{◌≡◌, ◌≢◌, ℕ, zero, suc, ◌+◌, ◌-◌, ◌<◌, ◌≤◌, cond, true, false}
use Rattle.std.proofs.Common.{List, length, take, get_or, refl, ap, ◌∙◌, arith}
use Rattle.std.specs.Prelude.{◌==◌, Some}
use Rattle.std.specs.List.{sum_by}
use Rattle.std.proofs.lemmas.List.{take_all}
use Rattle.std.proofs.lemmas.List.Sums.{sum_by_more, sum_by_more_le_part, sum_by-le-sum_by}
use Rattle.std.proofs.lemmas.Bool.{ne_eqb}
use Rattle.mp_system.specs.System.{inputs_of, outputs_of, is_input, is_output, size_if}
use Rattle.mp_system.specs.declared.given.GivenTask.{GivenTask}
use Rattle.mp_system.specs.declared.given.GivenItem.{GivenItem}
use Rattle.mp_system.specs.Given.{end_given, item_given, system_given}
use Rattle.lists.specs.Numbers.{IsPlace}
use Rattle.lists.proofs.Lists.{sum-same, sum_by-map}

-- terms that are equal have equal sums

-- a number that is not 0 names a task
pub end-some : (task : ℕ) → task ≢ 0 → end_given task ≡ Some task
end-some task some = rw (ne_eqb task 0 some) refl

-- the size of an item one end of which is task v
abbrev pub size_at : (GivenItem → ℕ) → ℕ → GivenItem → ℕ
size_at end v item = cond (end item == v) item.size 0

abbrev pub consumer : GivenItem → ℕ
consumer item = item.to

abbrev pub producer : GivenItem → ℕ
producer item = item.from

input_is : (v : ℕ) → 1 ≤ v → (item : GivenItem) → size_if (is_input v) (item_given item) ≡ size_at consumer v item
input_is v some item = go item.to
  where
    go : (to : ℕ)
        → size_if (is_input v) (record { size = item.size; from = end_given item.from; to = end_given to }) ≡ cond (to == v) item.size 0
    go zero = rw (ne_eqb 0 v (omega (arith, some))) refl
    go (suc to) = rw (end-some (suc to) (omega arith)) refl

output_is : (v : ℕ) → 1 ≤ v → (item : GivenItem) → size_if (is_output v) (item_given item) ≡ size_at producer v item
output_is v some item = go item.from
  where
    go : (from : ℕ)
        → size_if (is_output v) (record { size = item.size; from = end_given from; to = end_given item.to }) ≡ cond (from == v) item.size 0
    go zero = rw (ne_eqb 0 v (omega (arith, some))) refl
    go (suc from) = rw (end-some (suc from) (omega arith)) refl

pub inputs-are : (tasks : List GivenTask) (items : List GivenItem) (v : ℕ) → 1 ≤ v
    → inputs_of (system_given tasks items) v ≡ sum_by (size_at consumer v) items
inputs-are tasks items v some =
    sum_by-map (size_if (is_input v)) item_given items
    ∙ sum-same (λ x. size_if (is_input v) (item_given x)) (size_at consumer v) (input_is v some) items

pub outputs-are : (tasks : List GivenTask) (items : List GivenItem) (v : ℕ) → 1 ≤ v
    → outputs_of (system_given tasks items) v ≡ sum_by (size_at producer v) items
outputs-are tasks items v some =
    sum_by-map (size_if (is_output v)) item_given items
    ∙ sum-same (λ x. size_if (is_output v) (item_given x)) (size_at producer v) (output_is v some) items

at_most : (end : GivenItem → ℕ) (v : ℕ) (item : GivenItem) → size_at end v item ≤ item.size
at_most end v item = elim (end item == v) as (λ b. cond b item.size 0 ≤ item.size) [ true ↦ omega arith | false ↦ omega arith ]

pub part-small : (end : GivenItem → ℕ) (v : ℕ) (items : List GivenItem) → sum_by (size_at end v) items ≤ sum_by (λ item. item.size) items
part-small end v items = sum_by-le-sum_by (size_at end v) (λ item. item.size) items (at_most end v)

-- what the first i items bring to each task
abbrev pub AreSums : (GivenItem → ℕ) → ℕ → List GivenItem → List ℕ → ℕ → Type 0
AreSums end count items sums i = (v : ℕ) → IsPlace count v → get_or sums (v - 1) 0 ≡ sum_by (size_at end v) (take i items)

-- one item more still fits
pub one_fits : (end : GivenItem → ℕ) (count : ℕ) (items : List GivenItem) (sums : List ℕ) (i : ℕ) (d : GivenItem)
    → AreSums end count items sums i → i < length items → end (get_or items i d) ≢ 0 → end (get_or items i d) ≤ count
    → get_or sums (end (get_or items i d) - 1) 0 + (get_or items i d).size ≤ sum_by (λ item. item.size) items
one_fits end count items sums i d are lt some within =
    let v = end (get_or items i d) in
    omega (arith, are v (omega (arith, some), within), sum_by_more_le_part (size_at end v) (λ item. item.size) items i d lt (at_most end v))

-- one item more
pub one_more : (end : GivenItem → ℕ) (count : ℕ) (items : List GivenItem) (old new : List ℕ) (i : ℕ) (d : GivenItem)
    → AreSums end count items old i → i < length items
    → ((v : ℕ) → 1 ≤ v → get_or new (v - 1) 0 ≡ get_or old (v - 1) 0 + size_at end v (get_or items i d))
    → AreSums end count items new (i + 1)
one_more end count items old new i d are lt step v place =
    omega (arith, step v place.0, are v place, sum_by_more (size_at end v) items i d lt)

-- all of them
pub whole : (end : GivenItem → ℕ) (count : ℕ) (items : List GivenItem) (sums : List ℕ) (i : ℕ) → AreSums end count items sums i
    → length items ≤ i → (v : ℕ) → IsPlace count v → get_or sums (v - 1) 0 ≡ sum_by (size_at end v) items
whole end count items sums i are all v place = are v place ∙ ap (sum_by (size_at end v)) (take_all i items all)
