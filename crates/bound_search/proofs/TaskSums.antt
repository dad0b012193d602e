-- Sums of sizes by task: of what each task reads and makes.
use Rattle.std.proofs.Common.{◌≡◌, ◌≢◌, ◌⊎◌, ℕ, zero, suc, ◌+◌, ◌-◌, ◌<◌, ◌≤◌, Bool, true, false, ◌||◌, cond, eqb, eq-eqb, List, [], ◌∷◌, length, take}
use Rattle.std.proofs.Common.{get_or, set, inl, inr, refl, sym, ap, ◌∙◌, add-one, arith, get_or-set_same, get_or-set_other}
use Rattle.std.specs.Prelude.{All}
use Rattle.std.specs.List.{sum_by, list_any}
use Rattle.std.specs.List.Sorted.{IsStrictlyIncreasing}
use Rattle.std.proofs.lemmas.Bool.{cases_Bool, cases_eq, ne_eqb, eqb-true}
use Rattle.std.proofs.lemmas.List.{get_or-take, length-take-le}
use Rattle.std.proofs.lemmas.List.Elements.{All-get_or, All-from_get_or, All-head, All-tail}
use Rattle.std.proofs.lemmas.List.Folds.{list_any_more, list_any_none}
use Rattle.std.proofs.lemmas.List.Sums.{sum_by-cons, get_or-le-sum_by}
use Rattle.lists.proofs.Bools.{or_true, or_false}
use Rattle.lists.proofs.Orders.{lt_or_le}
use Rattle.mp_system.specs.declared.system.Task.{Task}
use Rattle.mp_system.specs.System.{is_named, extra_size}
use Rattle.shared_systems.specs.Shared.{SharedItem, shared_size_if, shared_size_where, is_made_by, is_read_by}
use Rattle.shared_systems.specs.Bounds.{IsSharedItemWithin, shared_size}
use Rattle.peak_bounds.proofs.Following.{found_at}

-- ---- numbers that rise stand once

module _ (xs : List ℕ) (rising : IsStrictlyIncreasing xs) where
  rises_to : (k i : ℕ) → k < i → i < length xs → get_or xs k 0 < get_or xs i 0
  rises_to k zero before inside = absurd (omega arith)
  rises_to k (suc i) before inside =
      let next : suc i ≡ i + 1 = omega arith in
      elim (lt_or_le k i) [
        | inl lt ↦ rw next (omega (arith, rises_to k i lt (omega arith), rising i (omega arith)))
        | inr le ↦ (let same : k ≡ i = omega arith in rw (same, next) (rising i (omega arith)))
      ]

  pub not_before : (i : ℕ) → i < length xs → list_any (λ c. eqb c (get_or xs i 0)) (take i xs) ≡ false
  not_before i inside =
      list_any_none (λ c. eqb c (get_or xs i 0)) (take i xs)
      (All-from_get_or (λ c. eqb c (get_or xs i 0) ≡ false) (take i xs) 0 (λ k h.
      let lt : k < i = omega (arith, length-take-le i xs (omega arith)) in
      let less : get_or xs k 0 < get_or xs i 0 = rises_to k i lt inside in
      ap (λ (c : ℕ). eqb c (get_or xs i 0)) (get_or-take i xs k 0 lt) ∙ ne_eqb (get_or xs k 0) (get_or xs i 0) (omega arith)))

-- ---- a size is added at each of some places

abbrev pub at_any : List ℕ → ℕ → ℕ → ℕ
at_any places size v = cond (list_any (λ c. eqb c v) places) size 0

at_last : (places : List ℕ) (v i : ℕ) → i < length places → get_or places i 0 ≡ v → list_any (λ c. eqb c v) (take (i + 1) places) ≡ true
at_last places v i inside here =
    list_any_more (λ c. eqb c v) places i 0 inside
    ∙ ap (λ (b : Bool). list_any (λ c. eqb c v) (take i places) || b) (eq-eqb (get_or places i 0) v here)
    ∙ or_true (list_any (λ c. eqb c v) (take i places))

not_last : (places : List ℕ) (v i : ℕ) → v ≢ get_or places i 0
    → (list_any (λ c. eqb c v) (take i places) || eqb (get_or places i 0) v) ≡ list_any (λ c. eqb c v) (take i places)
not_last places v i other =
    ap (λ (b : Bool). list_any (λ c. eqb c v) (take i places) || b) (ne_eqb (get_or places i 0) v (λ e. other (sym e)))
    ∙ or_false (list_any (λ c. eqb c v) (take i places))

module _ (places old : List ℕ) (size : ℕ) where
  abbrev pub AreAdded : List ℕ → ℕ → Type 0
  AreAdded sums i = (v : ℕ) → get_or sums v 0 ≡ get_or old v 0 + at_any (take i places) size v

  pub none_yet : IsStrictlyIncreasing places → (sums : List ℕ) (i : ℕ) → i < length places → AreAdded sums i
      → get_or sums (get_or places i 0) 0 ≡ get_or old (get_or places i 0) 0
  none_yet rising sums i inside added =
      let none : at_any (take i places) size (get_or places i 0) ≡ 0 = ap (λ (b : Bool). cond b size 0) (not_before places rising i inside) in
      omega (arith, none, added (get_or places i 0))

  pub added_more : IsStrictlyIncreasing places → (sums : List ℕ) (i : ℕ) → i < length places → get_or places i 0 < length sums
      → AreAdded sums i → AreAdded (set sums (get_or places i 0) (get_or sums (get_or places i 0) 0 + size)) (i + 1)
  added_more rising sums i inside within added v = elim (cases_eq v (get_or places i 0)) [
    | inl here ↦ (
        let last : at_any (take (i + 1) places) size (get_or places i 0) ≡ size =
        ap (λ (b : Bool). cond b size 0) (at_last places (get_or places i 0) i inside refl) in
        rw (here, get_or-set_same) (omega (arith, last, none_yet rising sums i inside added)))
    | inr other ↦ (
        let more : at_any (take (i + 1) places) size v ≡ at_any (take i places) size v =
        ap (λ (b : Bool). cond b size 0) (list_any_more (λ c. eqb c v) places i 0 inside ∙ not_last places v i other) in
        rw get_or-set_other (omega (arith, added v, more)))
  ]

-- ---- no item is both read and made by a task

abbrev pub no_task : Task
no_task = record { extra = 0; share = 0; time = 0 }

not_both : (n t : ℕ) (x : SharedItem) → IsSharedItemWithin n x → is_read_by t x ≡ true → is_made_by t x ≡ false
not_both n t x within read =
    let found = found_at (λ c. eqb c t) x.readers 0 read in
    let apart = All-get_or (λ c. is_named x.from c ≡ false) x.readers found.0 0 found.1 within.apart in
    let same : get_or x.readers found.0 0 ≡ t = eqb-true (get_or x.readers found.0 0) t found.2 in
    rw same at apart

one_of-le : (n t : ℕ) (x : SharedItem) → IsSharedItemWithin n x → shared_size_if (is_read_by t) x + shared_size_if (is_made_by t) x ≤ shared_size x
one_of-le n t x within = elim (cases_Bool (is_read_by t x)) [
  | inl read ↦ rw (read, not_both n t x within read) (omega arith)
  | inr not_read ↦ rw not_read (elim (cases_Bool (is_made_by t x)) [ inl made ↦ rw made (omega arith) | inr not_made ↦ rw not_made (omega arith) ])
]

pub read_and_made-le : (n t : ℕ) (items : List SharedItem) → All (IsSharedItemWithin n) items
    → shared_size_where (is_read_by t) items + shared_size_where (is_made_by t) items ≤ sum_by shared_size items
read_and_made-le n t [] within = omega arith
read_and_made-le n t (x ∷ items) within =
    omega (
      arith,
      one_of-le n t x (All-head (IsSharedItemWithin n) x items within),
      read_and_made-le n t items (All-tail (IsSharedItemWithin n) x items within),
      sum_by-cons (shared_size_if (is_read_by t)) x items,
      sum_by-cons (shared_size_if (is_made_by t)) x items,
      sum_by-cons shared_size x items,
    )

pub extra-le : (tasks : List Task) (i : ℕ) → i < length tasks → (get_or tasks i no_task).extra ≤ sum_by extra_size tasks
extra-le tasks i inside = get_or-le-sum_by extra_size tasks i no_task inside
