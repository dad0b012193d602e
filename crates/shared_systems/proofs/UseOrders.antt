-- An ordering of the tasks by the arcs of readers is a traversal.
use Rattle.std.proofs.Common.{◌≡◌, ℕ, ◌≤◌, Bool, true, not, ◌||◌, eqb, List, [], ◌∷◌, ◌++◌, length}
use Rattle.std.proofs.Common.{map, Option, Some, None, unwrap_or, refl, inl, inr, subst}
use Rattle.std.specs.List.{All, list_all, list_any}
use Rattle.std.proofs.Math.Seq.{take-append_seam, drop-append_seam}
use Rattle.std.proofs.lemmas.List.Elements.{All-head, All-tail, All-take, All-drop}
use Rattle.std.proofs.lemmas.Bool.{cases_Bool, or_cases, or_right, eqb-true}
use Rattle.mp_system.specs.Memory.{is_done_or, stands_in}
use Rattle.graphs.specs.declared.arc.Arc.{Arc}
use Rattle.graphs.specs.Graph.{IsOrdering, arc_between}
use Rattle.shared_systems.specs.Shared.{SharedTaskSystem, SharedItem, is_read_by}
use Rattle.shared_systems.specs.SharedMemory.{is_made}
use Rattle.shared_systems.specs.SharedTraversal.{IsSharedTraversal}
use Rattle.shared_systems.specs.Bounds.{IsSharedSystem, IsSharedItemWithin, item_arcs, use_arcs}

module _ (done : ℕ → Bool) (v : ℕ) where
  -- what an arc asks for
  abbrev is_supplied_by : Arc → Type 0
  is_supplied_by arc = arc.to ≡ v → 1 ≤ arc.from → done arc.from ≡ true

  producer_done : (u : ℕ) (readers : List ℕ) → 1 ≤ u → All is_supplied_by (map (arc_between u) readers)
      → list_any (λ c. eqb c v) readers ≡ true → done u ≡ true
  producer_done u [] some each e = absurd cc
  producer_done u (c ∷ cs) some each e = elim (or_cases (eqb c v) (list_any (λ d. eqb d v) cs) e) [
    | inl here ↦ All-head is_supplied_by (arc_between u c) (map (arc_between u) cs) each (eqb-true c v here) some
    | inr later ↦ producer_done u cs some (All-tail is_supplied_by (arc_between u c) (map (arc_between u) cs) each) later
  ]

  item_made : (from : Option ℕ) (readers : List ℕ) → ((u : ℕ) → from ≡ Some u → 1 ≤ u)
      → All is_supplied_by (map (arc_between (unwrap_or from 0)) readers)
      → (not (list_any (λ c. eqb c v) readers) || is_done_or true done from) ≡ true
  item_made None readers some each = or_right (not (list_any (λ c. eqb c v) readers)) true refl
  item_made (Some u) readers some each = elim (cases_Bool (list_any (λ c. eqb c v) readers)) [
    | inl reads ↦ rw reads (producer_done u readers (some u refl) each reads)
    | inr other ↦ rw other refl
  ]

  items_made : (n : ℕ) (xs : List SharedItem) → All (IsSharedItemWithin n) xs → All is_supplied_by (use_arcs xs)
      → list_all (λ x. not (is_read_by v x) || is_made done x) xs ≡ true
  items_made n [] within each = refl
  items_made n (x ∷ xs) within each =
      let own = subst (All is_supplied_by) (take-append_seam (item_arcs x) (use_arcs xs))
      (All-take is_supplied_by (length (item_arcs x)) (item_arcs x ++ use_arcs xs) each) in
      let rest = subst (All is_supplied_by) (drop-append_seam (item_arcs x) (use_arcs xs))
      (All-drop is_supplied_by (length (item_arcs x)) (item_arcs x ++ use_arcs xs) each) in
      let x_within = All-head (IsSharedItemWithin n) x xs within in
      rw (item_made x.from x.readers (λ u is. (x_within.producer u is).0) own)
      (items_made n xs (All-tail (IsSharedItemWithin n) x xs within) rest)

pub ordering_traverses : (system : SharedTaskSystem) (order : List ℕ) → IsSharedSystem system
    → IsOrdering (length system.tasks) (use_arcs system.items) order → IsSharedTraversal system order
ordering_traverses system order is ordering = record {
  once = ordering.once;
  tasks = ordering.tasks;
  after_suppliers = λ before rest v split.
      items_made (stands_in before) v (length system.tasks) system.items is.items (ordering.supplied.each before rest v split);
}
