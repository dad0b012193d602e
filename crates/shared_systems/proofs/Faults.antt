-- The first fault of an order, from the places of its tasks.
use Rattle.std.proofs.Common.{◌≡◌, ℕ, ◌+◌, ◌<◌, ◌≤◌, Bool, true, false, cond, not, ◌||◌, ltb, List, [], ◌∷◌, ◌++◌, length}
use Rattle.std.proofs.Common.{take, drop, get_or, Option, Some, None, refl, sym, ap, ◌∙◌, arith, inl, inr, ◌⊎◌}
use Rattle.std.specs.Prelude.{All}
use Rattle.std.specs.List.{list_all}
use Rattle.std.specs.Option.{option_map_or, ForSome}
use Rattle.std.proofs.lemmas.List.{take_more, take_all, drop_more, drop_all, length-take-le}
use Rattle.std.proofs.lemmas.List.Elements.{All-head, All-tail}
use Rattle.std.proofs.lemmas.Bool.{cases_lt, lt-ltb, le-ltb, le-leb, lt-leb}
use Rattle.mp_system.specs.declared.system.OrderKind.{OrderKind}
use Rattle.mp_system.specs.declared.system.OrderKind.TheVariants.{Unknown, Repeated, TooEarly, Missing}
use Rattle.mp_system.specs.Memory.{stands_in, is_done_or}
use Rattle.shared_systems.specs.Shared.{SharedTaskSystem, SharedItem, HasTask, is_read_by}
use Rattle.shared_systems.specs.SharedMemory.{is_made, has_inputs}
use Rattle.shared_systems.specs.SharedTraversal.{shared_fault_of, shared_fault_after, first_shared_fault}
use Rattle.shared_systems.specs.Bounds.{IsSharedItemWithin}
use Rattle.shared_systems.specs.Places.{place_in, stands_before, are_in_time}
use Rattle.shared_systems.proofs.OrderPlaces.{stands_take}
use Rattle.shared_systems.proofs.Freeing.{first_place}

-- no fault before the place i, counted from 0
abbrev pub Runs : SharedTaskSystem → List ℕ → ℕ → Type 0
Runs system order i = shared_fault_after system (take i order) (drop i order) ≡ first_shared_fault system order

module _ (system : SharedTaskSystem) (order : List ℕ) (i v : ℕ) (lt : i < length order) (v_is : get_or order i 0 ≡ v) where
  here : shared_fault_after system (take i order) (drop i order)
      ≡ option_map_or (λ kind. Some (i + 1, kind)) (shared_fault_of system (stands_in (take i order)) v)
      (shared_fault_after system (take (i + 1) order) (drop (i + 1) order))
  here =
      ap (shared_fault_after system (take i order)) (drop_more order i 0 lt)
      ∙ ap (λ (w : ℕ). shared_fault_after system (take i order) (w ∷ drop (i + 1) order)) v_is
      ∙ ap (λ (n : ℕ). option_map_or (λ kind. Some (n + 1, kind)) (shared_fault_of system (stands_in (take i order)) v)
      (shared_fault_after system (take i order ++ v ∷ []) (drop (i + 1) order)))
      (length-take-le i order (omega arith))
      ∙ ap (λ (l : List ℕ). option_map_or (λ kind. Some (i + 1, kind))
      (shared_fault_of system (stands_in (take i order)) v) (shared_fault_after system l (drop (i + 1) order)))
      (ap (λ (w : ℕ). take i order ++ w ∷ []) (sym v_is) ∙ sym (take_more order i 0 lt))

  pub fault-here : (kind : OrderKind) → Runs system order i → shared_fault_of system (stands_in (take i order)) v ≡ Some kind
      → first_shared_fault system order ≡ Some (i + 1, kind)
  fault-here kind runs is =
      sym runs ∙ here ∙ ap (λ (f : Option OrderKind).
      option_map_or (λ kind. Some (i + 1, kind)) f (shared_fault_after system (take (i + 1) order) (drop (i + 1) order))) is

  pub runs-next : Runs system order i → shared_fault_of system (stands_in (take i order)) v ≡ None → Runs system order (i + 1)
  runs-next runs is =
      sym (here ∙ ap (λ (f : Option OrderKind).
      option_map_or (λ kind. Some (i + 1, kind)) f (shared_fault_after system (take (i + 1) order) (drop (i + 1) order))) is)
      ∙ runs

module _ (system : SharedTaskSystem) (done : ℕ → Bool) (v : ℕ) where
  pub unknown : (v ≡ 0) ⊎ (length system.tasks < v) → shared_fault_of system done v ≡ Some Unknown
  unknown (inl none) = rw (lt-leb 1 v (omega arith)) refl
  unknown (inr past) = elim (cases_lt v 1) [
    | inl none ↦ rw (lt-leb 1 v none) refl
    | inr some ↦ rw (le-leb 1 v some, lt-leb v (length system.tasks) past) refl
  ]

  module _ (task : HasTask system v) where
    pub repeated : done v ≡ true → shared_fault_of system done v ≡ Some Repeated
    repeated is = rw (le-leb 1 v task.0, le-leb v (length system.tasks) task.1, is) refl

    pub too_early : done v ≡ false → has_inputs system done v ≡ false → shared_fault_of system done v ≡ Some TooEarly
    too_early fresh lacks = rw (le-leb 1 v task.0, le-leb v (length system.tasks) task.1, fresh, lacks) refl

    pub no_fault : done v ≡ false → has_inputs system done v ≡ true → shared_fault_of system done v ≡ None
    no_fault fresh has = rw (le-leb 1 v task.0, le-leb v (length system.tasks) task.1, fresh, has) refl

-- ---- what the places tell

module _ (system : SharedTaskSystem) (order places : List ℕ)
    (are : (u : ℕ) → u ≤ length system.tasks → get_or places u 0 ≡ place_in order u)
    (i v : ℕ) (le : i ≤ length order) (task : HasTask system v) (fresh : get_or places v 0 ≡ i) where
  producer_same : (from : Option ℕ) → ForSome from (HasTask system)
      → is_done_or true (stands_in (take i order)) from ≡ is_done_or true (stands_before (λ u. get_or places u 0) v) from
  producer_same None within = refl
  producer_same (Some p) within =
      stands_take order i p le
      ∙ ap (λ (k : ℕ). ltb k i) (sym (are p (within p refl).1))
      ∙ ap (λ (k : ℕ). ltb (get_or places p 0) k) (sym fresh)

  inputs_from : (xs : List SharedItem) → All (IsSharedItemWithin (length system.tasks)) xs
      → list_all (λ x. not (is_read_by v x) || is_made (stands_in (take i order)) x) xs ≡ are_in_time (λ u. get_or places u 0) v xs
  inputs_from [] within = refl
  inputs_from (x ∷ xs) within =
      rw (
        producer_same x.from (All-head (IsSharedItemWithin (length system.tasks)) x xs within).producer,
        inputs_from xs (All-tail (IsSharedItemWithin (length system.tasks)) x xs within),
      ) refl

module _ (system : SharedTaskSystem) (order places : List ℕ) (early : Bool)
    (are : (u : ℕ) → u ≤ length system.tasks → get_or places u 0 ≡ place_in order u)
    (within : All (IsSharedItemWithin (length system.tasks)) system.items)
    (i : ℕ) (lt : i < length order) (runs : Runs system order i) where
  pub unknown-here : (get_or order i 0 ≡ 0) ⊎ (length system.tasks < get_or order i 0)
      → first_shared_fault system order ≡ Some (i + 1, Unknown)
  unknown-here none =
      fault-here system order i (get_or order i 0) lt refl Unknown runs (unknown system (stands_in (take i order)) (get_or order i 0) none)

  module _ (task : HasTask system (get_or order i 0)) where
    pub repeated-here : (get_or places (get_or order i 0) 0 ≡ i → ⊥) → first_shared_fault system order ≡ Some (i + 1, Repeated)
    repeated-here other =
        let v = get_or order i 0 in
        let place = are v task.1 in
        let before : place_in order v < i = below (place_in order v) (get_or places v 0) i place (first_place order i lt) other in
        let done = stands_take order i v (omega arith) ∙ lt-ltb (place_in order v) i before in
        fault-here system order i v lt refl Repeated runs (repeated system (stands_in (take i order)) v task done)
      where
        below : (a b i : ℕ) → b ≡ a → a ≤ i → (b ≡ i → ⊥) → a < i
        below a b i same le other = elim (cases_lt a i) [ inl lt ↦ lt | inr ge ↦ absurd (other (omega arith)) ]

    module _ (fresh : get_or places (get_or order i 0) 0 ≡ i)
        (is : early ≡ not (are_in_time (λ u. get_or places u 0) (get_or order i 0) system.items)) where
      not_done : stands_in (take i order) (get_or order i 0) ≡ false
      not_done = stands_take order i (get_or order i 0) (omega arith)
          ∙ le-ltb (place_in order (get_or order i 0)) i (omega (arith, are (get_or order i 0) task.1, fresh))

      has : has_inputs system (stands_in (take i order)) (get_or order i 0)
          ≡ are_in_time (λ u. get_or places u 0) (get_or order i 0) system.items
      has = inputs_from system order places are i (get_or order i 0) (omega arith) task fresh system.items within

      from_not : (a b : Bool) (c : Bool) → a ≡ not b → a ≡ c → b ≡ not c
      from_not a true true e f = absurd (let no = sym f ∙ e in cc)
      from_not a true false e f = refl
      from_not a false true e f = refl
      from_not a false false e f = absurd (let no = sym f ∙ e in cc)

      pub early-here : early ≡ true → first_shared_fault system order ≡ Some (i + 1, TooEarly)
      early-here late =
          fault-here system order i (get_or order i 0) lt refl TooEarly runs
          (too_early system (stands_in (take i order)) (get_or order i 0) task not_done
          (has ∙ from_not early (are_in_time (λ u. get_or places u 0) (get_or order i 0) system.items) true is late))

      pub on-next : early ≡ false → Runs system order (i + 1)
      on-next timely =
          runs-next system order i (get_or order i 0) lt refl runs
          (no_fault system (stands_in (take i order)) (get_or order i 0) task not_done
          (has ∙ from_not early (are_in_time (λ u. get_or places u 0) (get_or order i 0) system.items) false is timely))

-- ---- the end

module _ (system : SharedTaskSystem) (order : List ℕ) (i : ℕ) (le : length order ≤ i) (runs : Runs system order i) where
  at_end : first_shared_fault system order
      ≡ cond {A = Option (ℕ × OrderKind)} (ltb (length order) (length system.tasks)) (Some (length order + 1, Missing)) None
  at_end =
      sym runs ∙ ap (λ (l : List ℕ). shared_fault_after system l (drop i order)) (take_all i order le)
      ∙ ap (shared_fault_after system order) (drop_all i order le)

  pub missing-here : length order < length system.tasks → first_shared_fault system order ≡ Some (length order + 1, Missing)
  missing-here short = at_end
      ∙ ap (λ (b : Bool). cond {A = Option (ℕ × OrderKind)} b (Some (length order + 1, Missing)) None)
      (lt-ltb (length order) (length system.tasks) short)

  pub none-here : length system.tasks ≤ length order → first_shared_fault system order ≡ None
  none-here long = at_end
      ∙ ap (λ (b : Bool). cond {A = Option (ℕ × OrderKind)} b (Some (length order + 1, Missing)) None)
      (le-ltb (length order) (length system.tasks) long)
