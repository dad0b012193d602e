-- A shared system and its carried graph: which tasks are ready, needs, and traversals.
use Rattle.std.proofs.Common.{◌≡◌, ℕ, zero, suc, ◌+◌, ◌-◌, ◌≤◌, Bool, true, cond, not, ◌&&◌, ◌||◌, eqb, List, [], ◌∷◌, map}
use Rattle.std.proofs.Common.{length, Option, Some, None, unwrap_or, refl, sym, ap, ◌∙◌, arith}
use Rattle.std.specs.Prelude.{All}
use Rattle.std.specs.List.{list_all, list_any}
use Rattle.std.specs.Option.{ForSome}
use Rattle.std.proofs.lemmas.List.Folds.{list_all-append, list_all-map}
use Rattle.std.proofs.lemmas.List.Elements.{All-head, All-tail}
use Rattle.lists.proofs.Lists.{sum_by-map}
use Rattle.mp_system.specs.System.{is_named, is_input, is_output, size_if, size_where, need_of, task_at}
use Rattle.mp_system.specs.Memory.{is_done_or, is_produced, stands_in, is_ready}
use Rattle.mp_system.specs.Traversal.{IsTraversal}
use Rattle.graphs.specs.declared.arc.Arc.{Arc}
use Rattle.graphs.specs.Graph.{IsAmong, end_of, item_of_arc, own_system}
use Rattle.shared_systems.specs.Shared.{SharedTaskSystem, SharedItem, is_made_by, is_read_by, shared_size_if, shared_need_of}
use Rattle.shared_systems.specs.Shared.{shared_outputs_of}
use Rattle.shared_systems.specs.SharedMemory.{is_made, has_inputs}
use Rattle.shared_systems.specs.SharedTraversal.{IsSharedTraversal}
use Rattle.shared_systems.specs.Bounds.{IsSharedSystem}
use Rattle.shared_systems.proofs.ItemParts.{spread}
use Rattle.carried_graphs.specs.Carried.{AreLastReaders, reader_arc, arcs_to, item_arcs, carried_arcs, carried}
use Rattle.carried_graphs.proofs.ArcSums.{arc, arc_size_if, IsCarriable, item_sum, EachPair, pair_head, pair_tail, sums_same, carriable}

-- ---- ends of arcs

pub numbered : (n : ℕ) (from : Option ℕ) → ForSome from (IsAmong n) → end_of (unwrap_or from 0) ≡ from
numbered n None within = refl
numbered n (Some zero) within = absurd (let among = within zero refl in omega (arith, among.0))
numbered n (Some (suc u)) within = refl

reader_named : (c v : ℕ) → 1 ≤ c → is_named (end_of c) v ≡ eqb c v
reader_named zero v some = absurd (omega arith)
reader_named (suc c) v some = refl

-- ---- who is ready

-- whether an arc has what task v needs
abbrev pub is_supplied : (ℕ → Bool) → ℕ → Arc → Bool
is_supplied done v x = not (is_input v (item_of_arc x)) || is_produced done (item_of_arc x)

readers_ready : (n : ℕ) (done : ℕ → Bool) (v : ℕ) (x : SharedItem) (z : ℕ) (readers : List ℕ)
    → ForSome x.from (IsAmong n) → All (IsAmong n) readers
    → list_all (is_supplied done v) (map (reader_arc x z) readers) ≡ (not (list_any (λ c. eqb c v) readers) || is_made done x)
readers_ready n done v x z [] producer each = refl
readers_ready n done v x z (c ∷ cs) producer each =
    let rest = list_all (is_supplied done v) (map (reader_arc x z) cs) in
    ap (λ (from : Option ℕ). (not (is_named (end_of c) v) || is_done_or true done from) && rest) (numbered n x.from producer)
    ∙ ap (λ (b : Bool). (not b || is_made done x) && rest) (reader_named c v (All-head (IsAmong n) c cs each).0)
    ∙ ap (λ (b : Bool). (not (eqb c v) || is_made done x) && b)
    (readers_ready n done v x z cs producer (All-tail (IsAmong n) c cs each))
    ∙ spread (eqb c v) (list_any (λ d. eqb d v) cs) (is_made done x)

arcs_ready : (n : ℕ) (done : ℕ → Bool) (v : ℕ) (x : SharedItem) (z : ℕ) (readers : List ℕ)
    → ForSome x.from (IsAmong n) → All (IsAmong n) readers
    → list_all (is_supplied done v) (arcs_to x z readers) ≡ (not (list_any (λ c. eqb c v) readers) || is_made done x)
arcs_ready n done v x z [] producer each = refl
arcs_ready n done v x z (c ∷ cs) producer each = readers_ready n done v x z (c ∷ cs) producer each

items_ready : (n : ℕ) (system : SharedTaskSystem) (done : ℕ → Bool) (v : ℕ) (xs : List SharedItem) (zs : List ℕ)
    → EachPair (IsCarriable n system) xs zs
    → list_all (is_supplied done v) (carried_arcs zs xs) ≡ list_all (λ x. not (is_read_by v x) || is_made done x) xs
items_ready n system done v [] [] pairs = refl
items_ready n system done v [] (z ∷ zs) pairs = refl
items_ready n system done v (x ∷ xs) [] pairs = absurd (let e = pairs.len in omega arith)
items_ready n system done v (x ∷ xs) (z ∷ zs) pairs =
    let here = (pair_head (IsCarriable n system) x xs z zs pairs).within in
    list_all-append (is_supplied done v) (item_arcs x z) (carried_arcs zs xs)
    ∙ ap (λ (b : Bool). b && list_all (is_supplied done v) (carried_arcs zs xs))
    (arcs_ready n done v x z x.readers here.producer here.readers)
    ∙ ap (λ (b : Bool). (not (is_read_by v x) || is_made done x) && b)
    (items_ready n system done v xs zs (pair_tail (IsCarriable n system) x xs z zs pairs))

module _ (system : SharedTaskSystem) (lasts : List ℕ) (is : IsSharedSystem system) (are : AreLastReaders system lasts) where
  pub ready_is : (done : ℕ → Bool) (v : ℕ) → is_ready (own_system (carried lasts system)) done v ≡ has_inputs system done v
  ready_is done v =
      list_all-map (λ item. not (is_input v item) || is_produced done item) item_of_arc (carried_arcs lasts system.items)
      ∙ items_ready (length system.tasks) system done v system.items lasts (carriable system lasts is are)

  -- ---- needs

  made_same : (v : ℕ) (x : SharedItem) (z : ℕ) → IsCarriable (length system.tasks) system x z
      → arc_size_if (λ y. is_output v (item_of_arc y)) (arc (unwrap_or x.from 0) z x.size) ≡ shared_size_if (is_made_by v) x
  made_same v x z can =
      ap (λ (from : Option ℕ). cond (is_named from v) x.size 0) (numbered (length system.tasks) x.from can.within.producer)

  pub outputs_same : (v : ℕ) → size_where (is_output v) (own_system (carried lasts system)).items ≡ shared_outputs_of system v
  outputs_same v =
      sum_by-map (size_if (is_output v)) item_of_arc (carried_arcs lasts system.items)
      ∙ sums_same (IsCarriable (length system.tasks) system)
      (arc_size_if (λ y. is_output v (item_of_arc y))) (shared_size_if (is_made_by v))
      (λ x z can. item_sum (length system.tasks) system (λ y. is_output v (item_of_arc y)) x z can ∙ made_same v x z can)
      system.items lasts (carriable system lasts is are)

  pub need_is : (v : ℕ) → need_of (own_system (carried lasts system)) v ≡ shared_need_of system v
  need_is v = ap (λ (out : ℕ). (task_at (own_system (carried lasts system)) v).extra + out
      - (task_at (own_system (carried lasts system)) v).share) (outputs_same v)

  -- ---- traversals

  pub to_carried : (order : List ℕ) → IsSharedTraversal system order → IsTraversal (own_system (carried lasts system)) order
  to_carried order traversal = record {
    once = traversal.once;
    tasks = traversal.tasks;
    after_suppliers = λ before rest v split. ready_is (stands_in before) v ∙ traversal.after_suppliers before rest v split;
  }

  pub from_carried : (order : List ℕ) → IsTraversal (own_system (carried lasts system)) order → IsSharedTraversal system order
  from_carried order traversal = record {
    once = traversal.once;
    tasks = traversal.tasks;
    after_suppliers = λ before rest v split. sym (ready_is (stands_in before) v) ∙ traversal.after_suppliers before rest v split;
  }
