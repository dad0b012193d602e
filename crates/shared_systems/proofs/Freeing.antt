-- The memory along a traversal: what a task adds, and what goes after it because its last reader has run.
use Rattle.std.proofs.Common.{◌≡◌, ℕ, zero, suc, ◌+◌, ◌<◌, ◌≤◌, max, true, cond, not, ◌&&◌, ◌||◌, eqb, eq-eqb, ltb, List, []}
use Rattle.std.proofs.Common.{◌∷◌, ◌++◌, length, take, drop, get_or, Option, Some, None, refl, sym, ap, ◌∙◌, arith, inl, inr}
use Rattle.std.specs.Prelude.{All}
use Rattle.std.specs.List.{list_all, list_any}
use Rattle.std.proofs.lemmas.List.{take_more, drop_more, drop_all, take-append-drop}
use Rattle.std.proofs.lemmas.List.Sums.{sum_by-cons}
use Rattle.std.proofs.lemmas.List.Elements.{All-head, All-tail}
use Rattle.std.proofs.lemmas.Bool.{cases_eq, cases_lt, ne_eqb, lt-ltb, le-ltb, and_parts}
use Rattle.mp_system.specs.Memory.{stands_in}
use Rattle.shared_systems.specs.Shared.{SharedTaskSystem, SharedItem, HasTask, is_read_by, is_made_by, shared_size_if, shared_size_where}
use Rattle.shared_systems.specs.SharedMemory.{is_made, is_held, shared_memory, shared_running, shared_peak_from, shared_peak_of}
use Rattle.shared_systems.specs.SharedTraversal.{IsSharedTraversal}
use Rattle.shared_systems.specs.Bounds.{IsSharedItemWithin}
use Rattle.shared_systems.specs.Places.{place_in, last_place, is_freed_at}
use Rattle.shared_systems.proofs.Collectors.{count_of, count_of-cons, one_if, none_if}
use Rattle.shared_systems.proofs.OrderPlaces.{place_here, place_later, stands_take, all_take}

-- ---- places of tasks that stand once

counted_at : (xs : List ℕ) (i v : ℕ) → i < length xs → get_or xs i 0 ≡ v → 1 ≤ count_of xs v
counted_at [] i v lt is = absurd (omega arith)
counted_at (x ∷ xs) zero v lt is = omega (arith, count_of-cons x xs v, one_if x v is)
counted_at (x ∷ xs) (suc i) v lt is = omega (arith, count_of-cons x xs v, counted_at xs i v (omega arith) is)

pub placed : (order : List ℕ) (v : ℕ) → 1 ≤ count_of order v → (place_in order v < length order) × (get_or order (place_in order v) 0 ≡ v)
placed [] v some = absurd (omega arith)
placed (x ∷ xs) v some = elim (cases_eq x v) [
  | inl same ↦ (let here = place_here x v xs same in (omega (arith, here), ap (λ (k : ℕ). get_or (x ∷ xs) k 0) here ∙ same))
  | inr other ↦ (
      let later = placed xs v (omega (arith, some, count_of-cons x xs v, none_if x v other)) in
      let next : place_in (x ∷ xs) v ≡ suc (place_in xs v) = omega (arith, place_later x v xs other) in
      (omega (arith, next, later.0), ap (λ (k : ℕ). get_or (x ∷ xs) k 0) next ∙ later.1)
      )
]

-- the place of what stands at a place is no later
pub first_place : (order : List ℕ) (i : ℕ) → i < length order → place_in order (get_or order i 0) ≤ i
first_place [] i lt = absurd (omega arith)
first_place (x ∷ xs) zero lt = omega (arith, place_here x x xs refl)
first_place (x ∷ xs) (suc i) lt = elim (cases_eq x (get_or xs i 0)) [
  | inl same ↦ omega (arith, place_here x (get_or xs i 0) xs same)
  | inr other ↦ omega (arith, place_later x (get_or xs i 0) xs other, first_place xs i (omega arith))
]

pub only_place : (order : List ℕ) (i v : ℕ) → i < length order → get_or order i 0 ≡ v → count_of order v ≡ 1 → place_in order v ≡ i
only_place [] i v lt is once = absurd (omega arith)
only_place (x ∷ xs) zero v lt is once = place_here x v xs is
only_place (x ∷ xs) (suc i) v lt is once = elim (cases_eq x v) [
  | inl same ↦ absurd (omega (arith, once, count_of-cons x xs v, one_if x v same, counted_at xs i v (omega arith) is))
  | inr other ↦ omega (
    arith,
    place_later x v xs other,
    only_place xs i v (omega arith) is (omega (arith, once, count_of-cons x xs v, none_if x v other)),
  )
]

-- ---- sizes that come and go

-- a is the place of the producer, l that of the last reader
kept : (a l i size : ℕ) → a < l
    → cond (ltb a (i + 1) && not (ltb l (i + 1))) size 0 + cond (eqb l i) size 0
    ≡ cond (ltb a i && not (ltb l i)) size 0 + cond (eqb a i) size 0
kept a l i size before = elim (cases_lt a i) [
  | inl early ↦ elim (cases_lt l i) [
    | inl gone ↦ rw (
      lt-ltb a i early,
      lt-ltb a (i + 1) (omega arith),
      lt-ltb l i gone,
      lt-ltb l (i + 1) (omega arith),
      ne_eqb l i (λ e. omega arith),
      ne_eqb a i (λ e. omega arith),
    ) refl
    | inr there ↦ elim (cases_eq l i) [
      | inl last ↦ rw (
        lt-ltb a i early,
        lt-ltb a (i + 1) (omega arith),
        le-ltb l i there,
        lt-ltb l (i + 1) (omega arith),
        eq-eqb l i last,
        ne_eqb a i (λ e. omega arith),
      ) (omega arith)
      | inr later ↦ rw (
        lt-ltb a i early,
        lt-ltb a (i + 1) (omega arith),
        le-ltb l i there,
        le-ltb l (i + 1) (omega arith),
        ne_eqb l i later,
        ne_eqb a i (λ e. omega arith),
      ) refl
    ]
  ]
  | inr late ↦ elim (cases_eq a i) [
    | inl now ↦
        rw (le-ltb a i late, lt-ltb a (i + 1) (omega arith), le-ltb l (i + 1) (omega arith), ne_eqb l i (λ e. omega arith), eq-eqb a i now)
        (omega arith)
    | inr other ↦ rw (le-ltb a i late, le-ltb a (i + 1) (omega arith), ne_eqb l i (λ e. omega arith), ne_eqb a i other) refl
  ]
]

-- there from the start
stocked : (l i size : ℕ) → cond (not (ltb l (i + 1))) size 0 + cond (eqb l i) size 0 ≡ cond (not (ltb l i)) size 0 + 0
stocked l i size = elim (cases_lt l i) [
  | inl gone ↦ rw (lt-ltb l i gone, lt-ltb l (i + 1) (omega arith), ne_eqb l i (λ e. omega arith)) refl
  | inr there ↦ elim (cases_eq l i) [
    | inl last ↦ rw (le-ltb l i there, lt-ltb l (i + 1) (omega arith), eq-eqb l i last) (omega arith)
    | inr later ↦ rw (le-ltb l i there, le-ltb l (i + 1) (omega arith), ne_eqb l i later) refl
  ]
]

-- never read
stays : (a i size : ℕ) → cond (ltb a (i + 1) && true) size 0 + 0 ≡ cond (ltb a i && true) size 0 + cond (eqb a i) size 0
stays a i size = elim (cases_lt a i) [
  | inl early ↦ rw (lt-ltb a i early, lt-ltb a (i + 1) (omega arith), ne_eqb a i (λ e. omega arith)) refl
  | inr late ↦ elim (cases_eq a i) [
    | inl now ↦ rw (le-ltb a i late, lt-ltb a (i + 1) (omega arith), eq-eqb a i now) (omega arith)
    | inr other ↦ rw (le-ltb a i late, le-ltb a (i + 1) (omega arith), ne_eqb a i other) refl
  ]
]

last_after : (place : ℕ → ℕ) (c : ℕ) (cs : List ℕ) → place c ≤ last_place place (c ∷ cs)
last_after place c cs = omega arith

-- ---- one task more

module _ (system : SharedTaskSystem) (order : List ℕ) (traversal : IsSharedTraversal system order) where
  stands_at : (v : ℕ) → HasTask system v → (place_in order v < length order) × (get_or order (place_in order v) 0 ≡ v)
  stands_at v task = placed order v (omega (arith, traversal.once v task))

  -- what a task reads is made before it
  abbrev InTime : SharedItem → ℕ → Type 0
  InTime x c = (not (is_read_by c x) || is_made (stands_in (take (place_in order c) order)) x) ≡ true

  in_time : (c : ℕ) → HasTask system c
      → list_all (λ x. not (is_read_by c x) || is_made (stands_in (take (place_in order c) order)) x) system.items ≡ true
  in_time c task =
      let at = stands_at c task in
      let split : order ≡ take (place_in order c) order ++ c ∷ drop (place_in order c + 1) order =
      sym (take-append-drop (place_in order c) order)
      ∙ ap (λ (l : List ℕ). take (place_in order c) order ++ l)
      (drop_more order (place_in order c) 0 at.0 ∙ ap (λ (k : ℕ). k ∷ drop (place_in order c + 1) order) at.1) in
      traversal.after_suppliers (take (place_in order c) order) (drop (place_in order c + 1) order) c split

  module _ (i : ℕ) (lt : i < length order) where
    here : ℕ
    here = get_or order i 0

    -- the producer is the task at i exactly where its place is i
    same_place : (p : ℕ) → HasTask system p → eqb p (get_or order i 0) ≡ eqb (place_in order p) i
    same_place p task = elim (cases_eq p (get_or order i 0)) [
      | inl same ↦ eq-eqb p (get_or order i 0) same
          ∙ sym (eq-eqb (place_in order p) i (only_place order i p lt (sym same) (traversal.once p task)))
      | inr other ↦ ne_eqb p (get_or order i 0) other
          ∙ sym (ne_eqb (place_in order p) i (λ e. other (sym ((stands_at p task).1) ∙ ap (λ (k : ℕ). get_or order k 0) e)))
    ]

    item_parts : (size : ℕ) (from : Option ℕ) (readers : List ℕ)
        → IsSharedItemWithin (length system.tasks) (record { size = size; from = from; readers = readers })
        → ((c : ℕ) → HasTask system c → InTime (record { size = size; from = from; readers = readers }) c)
        → shared_size_if (is_held (stands_in (take (i + 1) order))) (record { size = size; from = from; readers = readers })
        + shared_size_if (is_freed_at (place_in order) i) (record { size = size; from = from; readers = readers })
        ≡ shared_size_if (is_held (stands_in (take i order))) (record { size = size; from = from; readers = readers })
        + shared_size_if (is_made_by (get_or order i 0)) (record { size = size; from = from; readers = readers })
    item_parts size None [] within time = refl
    item_parts size None (c ∷ cs) within time =
        rw (all_take order (i + 1) (omega arith) c cs, all_take order i (omega arith) c cs)
        (stocked (last_place (place_in order) (c ∷ cs)) i size)
    item_parts size (Some p) [] within time =
        rw (stands_take order (i + 1) p (omega arith), stands_take order i p (omega arith), same_place p (within.producer p refl))
        (stays (place_in order p) i size)
    item_parts size (Some p) (c ∷ cs) within time =
        let reader = All-head (HasTask system) c cs within.readers in
        let read : (not (eqb c c || list_any (λ d. eqb d c) cs) || stands_in (take (place_in order c) order) p)
        ≡ stands_in (take (place_in order c) order) p = rw (eq-eqb c c refl) refl in
        let made : ltb (place_in order p) (place_in order c) ≡ true =
        sym (stands_take order (place_in order c) p (omega (arith, (stands_at c reader).0))) ∙ sym read ∙ time c reader in
        let before : place_in order p < place_in order c = elim (cases_lt (place_in order p) (place_in order c)) [
          | inl less ↦ less
          | inr more ↦ absurd (let no = sym made ∙ le-ltb (place_in order p) (place_in order c) more in cc)
        ] in
        rw (
          all_take order (i + 1) (omega arith) c cs,
          all_take order i (omega arith) c cs,
          stands_take order (i + 1) p (omega arith),
          stands_take order i p (omega arith),
          same_place p (within.producer p refl),
        )
        (kept (place_in order p) (last_place (place_in order) (c ∷ cs)) i size (omega (arith, before, last_after (place_in order) c cs)))

    parts : (xs : List SharedItem) → All (IsSharedItemWithin (length system.tasks)) xs
        → ((c : ℕ) → HasTask system c
        → list_all (λ x. not (is_read_by c x) || is_made (stands_in (take (place_in order c) order)) x) xs ≡ true)
        → shared_size_where (is_held (stands_in (take (i + 1) order))) xs + shared_size_where (is_freed_at (place_in order) i) xs
        ≡ shared_size_where (is_held (stands_in (take i order))) xs + shared_size_where (is_made_by (get_or order i 0)) xs
    parts [] within time = refl
    parts (x ∷ xs) within time =
        let both =
        λ (c : ℕ) (task : HasTask system c). and_parts (not (is_read_by c x) || is_made (stands_in (take (place_in order c) order)) x)
        (list_all (λ y. not (is_read_by c y) || is_made (stands_in (take (place_in order c) order)) y) xs) (time c task) in
        let first = item_parts x.size x.from x.readers
        (All-head (IsSharedItemWithin (length system.tasks)) x xs within) (λ c task. (both c task).0) in
        let rest = parts xs (All-tail (IsSharedItemWithin (length system.tasks)) x xs within) (λ c task. (both c task).1) in
        omega (
          arith,
          first,
          rest,
          sum_by-cons (shared_size_if (is_held (stands_in (take (i + 1) order)))) x xs,
          sum_by-cons (shared_size_if (is_freed_at (place_in order) i)) x xs,
          sum_by-cons (shared_size_if (is_held (stands_in (take i order)))) x xs,
          sum_by-cons (shared_size_if (is_made_by (get_or order i 0))) x xs,
        )

    pub memory-next : All (IsSharedItemWithin (length system.tasks)) system.items
        → shared_memory system (stands_in (take (i + 1) order)) + shared_size_where (is_freed_at (place_in order) i) system.items
        ≡ shared_memory system (stands_in (take i order)) + shared_size_where (is_made_by (get_or order i 0)) system.items
    memory-next within = parts system.items within in_time

-- ---- the peak

pub peak-ge : (system : SharedTaskSystem) (before rest : List ℕ)
    → shared_memory system (stands_in before) ≤ shared_peak_from system before rest
peak-ge system before [] = omega arith
peak-ge system before (v ∷ rest) = omega arith

-- the peak so far, and that of what is left
pub record Reaches (system : SharedTaskSystem) (order : List ℕ) (i memory peak : ℕ) : Type 0 where
  pub memory_is : memory ≡ shared_memory system (stands_in (take i order))
  pub low : memory ≤ peak
  pub peak_is : max peak (shared_peak_from system (take i order) (drop i order)) ≡ shared_peak_of system order

module _ (system : SharedTaskSystem) (order : List ℕ) where
  pub reaches-start : (memory : ℕ) → memory ≡ shared_memory system (stands_in []) → Reaches system order 0 memory memory
  reaches-start memory is = record { memory_is = is; low = omega arith; peak_is = omega (arith, is, peak-ge system [] order) }

  pub reaches-next : (i memory peak later running : ℕ) → i < length order → Reaches system order i memory peak
      → later ≡ shared_memory system (stands_in (take (i + 1) order))
      → running ≡ shared_running system (stands_in (take i order)) (get_or order i 0)
      → Reaches system order (i + 1) later (max (max peak running) later)
  reaches-next i memory peak later running lt at later_is running_is =
      let v = get_or order i 0 in
      let split : shared_peak_from system (take i order) (drop i order)
      ≡ max (shared_memory system (stands_in (take i order)))
      (max (shared_running system (stands_in (take i order)) v) (shared_peak_from system (take (i + 1) order) (drop (i + 1) order))) =
      ap (shared_peak_from system (take i order)) (drop_more order i 0 lt)
      ∙ ap (λ (l : List ℕ). max (shared_memory system (stands_in (take i order)))
      (max (shared_running system (stands_in (take i order)) v) (shared_peak_from system l (drop (i + 1) order))))
      (sym (take_more order i 0 lt)) in
      record {
        memory_is = later_is;
        low = omega arith;
        peak_is = join (shared_memory system (stands_in (take i order)))
            (shared_running system (stands_in (take i order)) v) later peak (max (max peak running) later)
            (shared_peak_from system (take i order) (drop i order))
            (shared_peak_from system (take (i + 1) order) (drop (i + 1) order)) (shared_peak_of system order)
            (omega (arith, at.memory_is, at.low)) (omega (arith, later_is, peak-ge system (take (i + 1) order) (drop (i + 1) order)))
            (omega (arith, running_is)) split at.peak_is;
      }
    where
      join : (now running later peak most from rest whole : ℕ) → now ≤ peak → later ≤ rest
          → most ≡ max (max peak running) later → from ≡ max now (max running rest)
          → max peak from ≡ whole → max most rest ≡ whole
      join now running later peak most from rest whole low below most_is from_is whole_is = omega arith

  pub reaches-end : (i memory peak : ℕ) → length order ≤ i → Reaches system order i memory peak → peak ≡ shared_peak_of system order
  reaches-end i memory peak le at =
      let none : shared_peak_from system (take i order) (drop i order) ≡ shared_memory system (stands_in (take i order)) =
      ap (shared_peak_from system (take i order)) (drop_all i order le) in
      omega (arith, none, at.memory_is, at.low, at.peak_is)
