-- A shared system and its carried graph: memory and peaks. An item is held to the end of its last reader.
use Rattle.std.proofs.Common.{◌≡◌, ℕ, zero, suc, ◌+◌, ◌≤◌, ◌<◌, Bool, true, false, cond, not, ◌&&◌, eqb, List, [], ◌∷◌, ◌++◌}
use Rattle.std.proofs.Common.{length, Option, unwrap_or, append_assoc, refl, sym, ap, subst, ◌∙◌, arith, inl, inr}
use Rattle.std.specs.Prelude.{All}
use Rattle.std.specs.List.{list_all}
use Rattle.std.proofs.lemmas.Bool.{cases_eq, and_parts, and_from, or_cases, or_left, or_right, eqb-true, eq-eqb}
use Rattle.std.proofs.lemmas.List.Elements.{All-head, All-tail}
use Rattle.lists.proofs.Bools.{same_bool}
use Rattle.lists.proofs.Lists.{sum_by-map}
use Rattle.mp_system.specs.System.{size_if, need_of}
use Rattle.mp_system.specs.Memory.{is_done_or, is_present, state_memory, running_memory, stands_in, peak_from, peak_of}
use Rattle.mp_system.specs.Traversal.{IsLeast}
use Rattle.graphs.specs.Graph.{IsAmong, end_of, item_of_arc, own_system}
use Rattle.graphs.proofs.Standing.{stands-left}
use Rattle.shared_systems.specs.Shared.{SharedTaskSystem, SharedItem, shared_size_if}
use Rattle.shared_systems.specs.SharedMemory.{are_done, is_held, shared_memory, shared_running, has_inputs}
use Rattle.shared_systems.specs.SharedMemory.{shared_peak_from, shared_peak_of}
use Rattle.shared_systems.specs.SharedTraversal.{IsSharedTraversal, IsLeastShared}
use Rattle.shared_systems.specs.Bounds.{IsSharedSystem}
use Rattle.shared_systems.proofs.States.{still_has_inputs}
use Rattle.shared_systems.proofs.WithoutCollectors.{stood}
use Rattle.carried_graphs.specs.Carried.{IsLastReader, AreLastReaders, carried_arcs, carried}
use Rattle.carried_graphs.proofs.Following.{after_done}
use Rattle.carried_graphs.proofs.ArcSums.{arc, arc_size_if, IsCarriable, item_sum, sums_same, carriable}
use Rattle.carried_graphs.proofs.SameOrders.{numbered, need_is, to_carried, from_carried}

-- ---- one item

all_done : (done : ℕ → Bool) (cs : List ℕ) → ((r : ℕ) → stands_in cs r ≡ true → done r ≡ true) → list_all done cs ≡ true
all_done done [] each = refl
all_done done (c ∷ cs) each =
    and_from (done c) (list_all done cs) (each c (or_left (eqb c c) (stands_in cs c) (eq-eqb c c refl)))
    (all_done done cs (λ r e. each r (or_right (eqb c r) (stands_in cs r) e)))

done_of_all : (done : ℕ → Bool) (z : ℕ) (cs : List ℕ) → stands_in cs z ≡ true → list_all done cs ≡ true → done z ≡ true
done_of_all done z [] e all = absurd cc
done_of_all done z (c ∷ cs) e all =
    let parts = and_parts (done c) (list_all done cs) all in
    elim (or_cases (eqb c z) (stands_in cs z) e) [
      | inl here ↦ subst (λ (d : ℕ). done d ≡ true) (eqb-true c z here) parts.0
      | inr later ↦ done_of_all done z cs later parts.1
    ]

some_reader : (n z : ℕ) (cs : List ℕ) → All (IsAmong n) cs → stands_in cs z ≡ true → 1 ≤ z
some_reader n z [] each e = absurd cc
some_reader n z (c ∷ cs) each e = elim (or_cases (eqb c z) (stands_in cs z) e) [
  | inl here ↦ omega (arith, eqb-true c z here, (All-head (IsAmong n) c cs each).0)
  | inr later ↦ some_reader n z cs (All-tail (IsAmong n) c cs each) later
]

end_done : (done : ℕ → Bool) (z : ℕ) → 1 ≤ z → is_done_or false done (end_of z) ≡ done z
end_done done zero some = absurd (omega arith)
end_done done (suc z) some = refl

-- the last reader is done exactly where all are
last_done : (n : ℕ) (done : ℕ → Bool) (z : ℕ) (readers : List ℕ) → All (IsAmong n) readers → (length readers ≡ 0 → z ≡ 0)
    → (0 < length readers → stands_in readers z ≡ true) → (0 < length readers → done z ≡ true → list_all done readers ≡ true)
    → is_done_or false done (end_of z) ≡ are_done done readers
last_done n done z [] each none some last = ap (λ (d : ℕ). is_done_or false done (end_of d)) (none refl)
last_done n done z (c ∷ cs) each none some last =
    let reads = some (omega arith) in
    end_done done z (some_reader n z (c ∷ cs) each reads)
    ∙ same_bool (done z) (list_all done (c ∷ cs)) (last (omega arith)) (done_of_all done z (c ∷ cs) reads)

module _ (system : SharedTaskSystem) (done : ℕ → Bool) (closed : (v : ℕ) → done v ≡ true → has_inputs system done v ≡ true) where
  readers_done : (x : SharedItem) (z : ℕ) → IsLastReader system x z → done z ≡ true → list_all done x.readers ≡ true
  readers_done x z last there = all_done done x.readers (λ r e. elim (cases_eq r z) [
    | inl same ↦ subst (λ (d : ℕ). done d ≡ true) (sym same) there
    | inr other ↦ after_done system done closed r z (last.others r e other) there
  ])

  pub held_same : (n : ℕ) (x : SharedItem) (z : ℕ) → IsCarriable n system x z
      → arc_size_if (λ y. is_present done (item_of_arc y)) (arc (unwrap_or x.from 0) z x.size) ≡ shared_size_if (is_held done) x
  held_same n x z can =
      let over = last_done n done z x.readers can.within.readers can.last.none (λ some. (can.last.some some).reads)
      (λ some. readers_done x z (can.last.some some)) in
      ap (λ (b : Bool). cond (is_done_or true done (end_of (unwrap_or x.from 0)) && not b) x.size 0) over
      ∙ ap (λ (from : Option ℕ). cond (is_done_or true done from && not (are_done done x.readers)) x.size 0)
      (numbered n x.from can.within.producer)

-- in the states of a traversal the suppliers of all done tasks are done
pub states_closed : (system : SharedTaskSystem) (order before rest : List ℕ) → IsSharedTraversal system order → order ≡ before ++ rest
    → (u : ℕ) → stands_in before u ≡ true → has_inputs system (stands_in before) u ≡ true
states_closed system order before rest traversal split u e =
    let there = stood before u e in
    let whole : order ≡ there.first ++ u ∷ (there.last ++ rest) =
    split ∙ ap (λ (l : List ℕ). l ++ rest) there.split ∙ append_assoc there.first (u ∷ there.last) rest in
    still_has_inputs (stands_in there.first) (stands_in before)
    (λ w h. ap (λ (l : List ℕ). stands_in l w) there.split ∙ stands-left there.first (u ∷ there.last) w h)
    u system.items (traversal.after_suppliers there.first (there.last ++ rest) u whole)

-- ---- the whole

module _ (system : SharedTaskSystem) (lasts : List ℕ) (is : IsSharedSystem system) (are : AreLastReaders system lasts) where
  pub memory_is : (done : ℕ → Bool) → ((v : ℕ) → done v ≡ true → has_inputs system done v ≡ true)
      → state_memory (own_system (carried lasts system)) done ≡ shared_memory system done
  memory_is done closed =
      sum_by-map (size_if (is_present done)) item_of_arc (carried_arcs lasts system.items)
      ∙ sums_same (IsCarriable (length system.tasks) system)
      (arc_size_if (λ y. is_present done (item_of_arc y))) (shared_size_if (is_held done))
      (λ x z can. item_sum (length system.tasks) system (λ y. is_present done (item_of_arc y)) x z can
      ∙ held_same system done closed (length system.tasks) x z can)
      system.items lasts (carriable system lasts is are)

  module _ (order : List ℕ) (traversal : IsSharedTraversal system order) where
    state_is : (before rest : List ℕ) → order ≡ before ++ rest
        → state_memory (own_system (carried lasts system)) (stands_in before) ≡ shared_memory system (stands_in before)
    state_is before rest split = memory_is (stands_in before) (states_closed system order before rest traversal split)

    running_is : (before rest : List ℕ) (v : ℕ) → order ≡ before ++ rest
        → running_memory (own_system (carried lasts system)) (stands_in before) v ≡ shared_running system (stands_in before) v
    running_is before rest v split =
        ap (λ (m : ℕ). m + need_of (own_system (carried lasts system)) v) (state_is before rest split)
        ∙ ap (λ (m : ℕ). shared_memory system (stands_in before) + m) (need_is system lasts is are v)

    peaks_are : (before rest : List ℕ) → order ≡ before ++ rest
        → peak_from (own_system (carried lasts system)) before rest ≡ shared_peak_from system before rest
    peaks_are before [] split = state_is before [] split
    peaks_are before (v ∷ rest) split =
        omega (
          arith,
          state_is before (v ∷ rest) split,
          running_is before (v ∷ rest) v split,
          peaks_are (before ++ v ∷ []) rest (split ∙ sym (append_assoc before (v ∷ []) rest)),
        )

    pub peak_is : peak_of (own_system (carried lasts system)) order ≡ shared_peak_of system order
    peak_is = peaks_are [] order refl

  pub to_least : (peak : ℕ) → IsLeastShared system peak → IsLeast (own_system (carried lasts system)) peak
  to_least peak least = record {
    order = least.order;
    traversal = to_carried system lasts is are least.order least.traversal;
    attained = peak_is least.order least.traversal ∙ least.attained;
    least = λ other traversal. (
        let there = from_carried system lasts is are other traversal in
        subst (λ (m : ℕ). peak ≤ m) (sym (peak_is other there)) (least.least other there));
  }

  pub from_least : (peak : ℕ) → IsLeast (own_system (carried lasts system)) peak → IsLeastShared system peak
  from_least peak least = (
      let there = from_carried system lasts is are least.order least.traversal in
      record {
        order = least.order;
        traversal = there;
        attained = sym (peak_is least.order there) ∙ least.attained;
        least = λ other traversal.
            subst (λ (m : ℕ). peak ≤ m) (peak_is other traversal) (least.least other (to_carried system lasts is are other traversal));
      })
