-- The items that a task consumes, by the places that its row has.
use Rattle.std.proofs.Common.{◌≡◌, ℕ, suc, ◌+◌, ◌<◌, ◌≤◌, Bool, true, false, not, ◌&&◌, ◌||◌, eqb, List, [], ◌∷◌}
use Rattle.std.proofs.Common.{map, length, get_or, Option, Some, None, refl, sym, ap, ◌∙◌, arith, inl, inr}
use Rattle.std.specs.Prelude.{All, unwrap_or}
use Rattle.std.specs.Option.{ForSome}
use Rattle.std.specs.List.{sum_by, filter, list_all}
use Rattle.std.proofs.lemmas.List.Folds.{list_all-map}
use Rattle.std.proofs.lemmas.List.Sums.{sum_by-cons}
use Rattle.std.proofs.lemmas.List.Elements.{All-map, All-weaker}
use Rattle.std.proofs.lemmas.Bool.{cases_Bool, ne_eqb}
use Rattle.row_table.specs.Rows.{numbers_with}
use Rattle.mp_system.specs.declared.system.Item.{Item}
use Rattle.mp_system.specs.System.{TaskSystem, IsSystem, IsItemWithin, is_named, is_input, inputs_of, size_if, size_where, item_size}
use Rattle.mp_system.specs.Memory.{is_produced, is_ready}
use Rattle.mp_system.specs.ReplayTables.{consumer_of}
use Rattle.mp_system.proofs.Present.{is_supplied}
use Rattle.mp_system.proofs.Sums.{sum_by_mapped, size_where-le}

-- ---- sums and tests over what passes

sum_by-filter : (test : Item → Bool) (items : List Item) → sum_by item_size (filter test items) ≡ size_where test items
sum_by-filter test [] = refl
sum_by-filter test (x ∷ xs) = elim (cases_Bool (test x)) [
  | inl passes ↦
      (let left : sum_by item_size (filter test (x ∷ xs)) ≡ sum_by item_size (x ∷ filter test xs) = rw passes in
      let one : size_if test x ≡ x.size = rw passes in
      omega (arith, left, one, sum_by-cons item_size x (filter test xs), sum_by-cons (size_if test) x xs, sum_by-filter test xs))
  | inr fails ↦
      (let left : sum_by item_size (filter test (x ∷ xs)) ≡ sum_by item_size (filter test xs) = rw fails in
      let none : size_if test x ≡ 0 = rw fails in omega (arith, left, none, sum_by-cons (size_if test) x xs, sum_by-filter test xs))
]

list_all-filter : (holds test : Item → Bool) (items : List Item)
    → list_all holds (filter test items) ≡ list_all (λ item. not (test item) || holds item) items
list_all-filter holds test [] = refl
list_all-filter holds test (x ∷ xs) = elim (cases_Bool (test x)) [
  | inl passes ↦ rw passes (ap (λ (b : Bool). holds x && b) (list_all-filter holds test xs))
  | inr fails ↦ rw fails (list_all-filter holds test xs)
]

-- ---- items by their places

abbrev pub item_at : List Item → ℕ → Item
item_at items i = get_or items i (record { size = 0; from = None; to = None })

abbrev pub size_at : List Item → ℕ → ℕ
size_at items i = item_size (item_at items i)

abbrev pub is_produced_at : (ℕ → Bool) → List Item → ℕ → Bool
is_produced_at done items i = is_produced done (item_at items i)

named : (to : Option ℕ) (v : ℕ) → 1 ≤ v → eqb (unwrap_or to 0) v ≡ is_named to v
named None v low = ne_eqb 0 v (λ e. omega arith)
named (Some u) v low = refl

consumer_within : (n : ℕ) (to : Option ℕ) → ForSome to (λ v. (1 ≤ v) × (v ≤ n)) → unwrap_or to 0 < n + 1
consumer_within n None within = omega arith
consumer_within n (Some v) within = let low = within v refl in omega (arith, low.1)

pub consumers-within : (system : TaskSystem) → IsSystem system → All (λ key. key < length system.tasks + 1) (map consumer_of system.items)
consumers-within system within =
    All-map (λ key. key < length system.tasks + 1) consumer_of system.items
    (All-weaker (IsItemWithin system) (λ item. consumer_of item < length system.tasks + 1)
    (λ item has. consumer_within (length system.tasks) item.to has.consumer) system.items within.items)

-- from the item at `first` on
items-numbers : (items rest : List Item) (first v : ℕ) → 1 ≤ v → ((i : ℕ) → i < length rest → item_at items (first + i) ≡ item_at rest i)
    → map (item_at items) (numbers_with (map consumer_of rest) first v) ≡ filter (is_input v) rest
items-numbers items [] first v low same = refl
items-numbers items (item ∷ rest) first v low same =
    let here : item_at items first ≡ item =
    (let none : first ≡ first + 0 = omega arith in ap (item_at items) none ∙ same 0 (omega arith)) in
    let later : map (item_at items) (numbers_with (map consumer_of rest) (first + 1) v) ≡ filter (is_input v) rest =
    items-numbers items rest (first + 1) v low
    (λ i lt. let next : first + 1 + i ≡ first + suc i = omega arith in ap (item_at items) next ∙ same (suc i) (omega arith)) in
    elim (cases_Bool (is_input v item)) [
      | inl passes ↦ (let has : eqb (consumer_of item) v ≡ true = named item.to v low ∙ passes in rw (has, passes, here, later))
      | inr fails ↦ (let other : eqb (consumer_of item) v ≡ false = named item.to v low ∙ fails in rw (other, fails) later)
    ]

-- a task's row
module _ (system : TaskSystem) (items : List Item) (same : items ≡ system.items) (v : ℕ)
    (low : 1 ≤ v) (row : List ℕ) (row_is : row ≡ numbers_with (map consumer_of system.items) 0 v) where
  inputs_are : map (item_at items) row ≡ filter (is_input v) items
  inputs_are =
      ap (map (item_at items)) (row_is ∙ ap (λ (l : List Item). numbers_with (map consumer_of l) 0 v) (sym same))
      ∙ items-numbers items items 0 v low (λ i lt. let e : 0 + i ≡ i = omega arith in ap (item_at items) e)

  pub is_ready-row : (done : ℕ → Bool) → is_ready system done v ≡ list_all (is_produced_at done items) row
  is_ready-row done =
      ap (list_all (is_supplied done v)) (sym same) ∙ sym (list_all-filter (is_produced done) (is_input v) items)
      ∙ ap (list_all (is_produced done)) (sym inputs_are) ∙ list_all-map (is_produced done) (item_at items) row

  pub inputs_of-row : inputs_of system v ≡ sum_by (size_at items) row
  inputs_of-row =
      ap (size_where (is_input v)) (sym same) ∙ sym (sum_by-filter (is_input v) items)
      ∙ ap (sum_by item_size) (sym inputs_are) ∙ sum_by_mapped (item_at items) item_size (size_at items) (λ i. refl) row

  -- no sum is greater than that of all items
  pub row-le : sum_by (size_at items) row ≤ sum_by item_size items
  row-le = omega (arith, inputs_of-row, ap (sum_by item_size) same, size_where-le (is_input v) system.items)
