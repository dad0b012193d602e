-- The arcs that complete a graph change no traversal and no memory: each has size 0, and leads from no task or to none.
use Rattle.std.proofs.Common.{◌≡◌, ℕ, ◌+◌, ◌-◌, Bool, true, not, ◌&&◌, max, List, [], ◌∷◌}
use Rattle.std.proofs.Common.{◌++◌, length, map, refl, sym, ap, ◌∙◌, arith, inl, inr, ◌⊎◌}
use Rattle.std.specs.Prelude.{◌||◌}
use Rattle.std.specs.List.{list_all}
use Rattle.std.proofs.lemmas.List.{map-append}
use Rattle.std.proofs.lemmas.List.Sums.{sum_by-cons, sum_by-append}
use Rattle.std.proofs.lemmas.Bool.{or_right}
use Rattle.mp_system.specs.declared.system.Item.{Item}
use Rattle.mp_system.specs.System.{task_at, size_if, size_where, is_input, is_output}
use Rattle.mp_system.specs.Memory.{is_produced, is_present, state_memory, running_memory, stands_in, peak_from, peak_of, is_ready}
use Rattle.mp_system.specs.Traversal.{IsTraversal, IsLeast}
use Rattle.graphs.specs.declared.arc.Arc.{Arc}
use Rattle.graphs.specs.Graph.{TaskGraph, item_of_arc, arc_between, without_into, without_out, added_arcs, own_system, completed_system}
use Rattle.lists.proofs.Bools.{cond_zero}

record IsIdle (arc : Arc) : Type 0 where
  size : arc.size ≡ 0
  ends : (arc.from ≡ 0) ⊎ (arc.to ≡ 0)

abbrev AreIdle : List Arc → Type 0
AreIdle [] = Unit {0}
AreIdle (x ∷ xs) = IsIdle x × AreIdle xs

idle-append : (xs ys : List Arc) → AreIdle xs → AreIdle ys → AreIdle (xs ++ ys)
idle-append [] ys h k = k
idle-append (x ∷ xs) ys h k = (h.0, idle-append xs ys h.1 k)

idle-first : (vs : List ℕ) → AreIdle (map (λ v. arc_between 0 v) vs)
idle-first [] = tt
idle-first (v ∷ vs) = (record { size = refl; ends = inl refl }, idle-first vs)

idle-last : (vs : List ℕ) → AreIdle (map (λ v. arc_between v 0) vs)
idle-last [] = tt
idle-last (v ∷ vs) = (record { size = refl; ends = inr refl }, idle-last vs)

added-idle : (n : ℕ) (arcs : List Arc) → AreIdle (added_arcs n arcs)
added-idle n arcs =
    idle-append (map (λ v. arc_between 0 v) (without_into n arcs)) (map (λ v. arc_between v 0) (without_out n arcs))
    (idle-first (without_into n arcs)) (idle-last (without_out n arcs))

-- ---- sizes

idle-sizes : (test : Item → Bool) (xs : List Arc) → AreIdle xs → size_where test (map item_of_arc xs) ≡ 0
idle-sizes test [] h = refl
idle-sizes test (x ∷ xs) h =
    omega (
      arith,
      sum_by-cons (size_if test) (item_of_arc x) (map item_of_arc xs),
      cond_zero (test (item_of_arc x)) x.size h.0.size,
      idle-sizes test xs h.1,
    )

sizes-same : (test : Item → Bool) (xs ys : List Arc) → AreIdle ys
    → size_where test (map item_of_arc (xs ++ ys)) ≡ size_where test (map item_of_arc xs)
sizes-same test xs ys h =
    ap (size_where test) (map-append item_of_arc xs ys)
    ∙ (let e = sum_by-append (size_if test) (map item_of_arc xs) (map item_of_arc ys) in omega (arith, e, idle-sizes test ys h))

-- ---- waiting

abbrev lets : (ℕ → Bool) → ℕ → Item → Bool
lets done v item = not (is_input v item) || is_produced done item

idle-lets : (done : ℕ → Bool) (v : ℕ) (x : Arc) → IsIdle x → lets done v (item_of_arc x) ≡ true
idle-lets done v x h = elim h.ends [
  | inl e ↦ or_right (not (is_input v (item_of_arc x))) (is_produced done (item_of_arc x)) (rw e refl)
  | inr e ↦ rw e refl
]

all-idle : (done : ℕ → Bool) (v : ℕ) (ys : List Arc) → AreIdle ys → list_all (lets done v) (map item_of_arc ys) ≡ true
all-idle done v [] h = refl
all-idle done v (y ∷ ys) h = rw (idle-lets done v y h.0) (all-idle done v ys h.1)

ready-same : (done : ℕ → Bool) (v : ℕ) (xs ys : List Arc) → AreIdle ys
    → list_all (lets done v) (map item_of_arc (xs ++ ys)) ≡ list_all (lets done v) (map item_of_arc xs)
ready-same done v [] ys h = all-idle done v ys h
ready-same done v (x ∷ xs) ys h = ap (λ b. lets done v (item_of_arc x) && b) (ready-same done v xs ys h)

-- ---- the systems

module _ (graph : TaskGraph) where
  idle : AreIdle (added_arcs (length graph.tasks) graph.arcs)
  idle = added-idle (length graph.tasks) graph.arcs

  pub where-same : (test : Item → Bool) → size_where test (completed_system graph).items ≡ size_where test (own_system graph).items
  where-same test = sizes-same test graph.arcs (added_arcs (length graph.tasks) graph.arcs) idle

  ready : (done : ℕ → Bool) (v : ℕ) → is_ready (completed_system graph) done v ≡ is_ready (own_system graph) done v
  ready done v = ready-same done v graph.arcs (added_arcs (length graph.tasks) graph.arcs) idle

  state : (done : ℕ → Bool) → state_memory (completed_system graph) done ≡ state_memory (own_system graph) done
  state done = where-same (is_present done)

  running : (done : ℕ → Bool) (v : ℕ) → running_memory (completed_system graph) done v ≡ running_memory (own_system graph) done v
  running done v =
      λ i. state done i + ((task_at (own_system graph) v).extra + where-same (is_output v) i - (task_at (own_system graph) v).share)

  peak_after : (before rest : List ℕ) → peak_from (completed_system graph) before rest ≡ peak_from (own_system graph) before rest
  peak_after before [] = state (stands_in before)
  peak_after before (v ∷ rest) =
      λ i. max (state (stands_in before) i) (max (running (stands_in before) v i) (peak_after (before ++ v ∷ []) rest i))

  pub peak-same : (order : List ℕ) → peak_of (completed_system graph) order ≡ peak_of (own_system graph) order
  peak-same order = peak_after [] order

  pub to-completed : (order : List ℕ) → IsTraversal (own_system graph) order → IsTraversal (completed_system graph) order
  to-completed order t = record {
    once = t.once;
    tasks = t.tasks;
    after_suppliers = λ before rest v split. ready (stands_in before) v ∙ t.after_suppliers before rest v split;
  }

  pub from-completed : (order : List ℕ) → IsTraversal (completed_system graph) order → IsTraversal (own_system graph) order
  from-completed order t = record {
    once = t.once;
    tasks = t.tasks;
    after_suppliers = λ before rest v split. sym (ready (stands_in before) v) ∙ t.after_suppliers before rest v split;
  }

  pub least-to : (peak : ℕ) → IsLeast (own_system graph) peak → IsLeast (completed_system graph) peak
  least-to peak h = record {
    order = h.order;
    traversal = to-completed h.order h.traversal;
    attained = peak-same h.order ∙ h.attained;
    least = λ other t. omega (arith, h.least other (from-completed other t), peak-same other);
  }

  pub least-from : (peak : ℕ) → IsLeast (completed_system graph) peak → IsLeast (own_system graph) peak
  least-from peak h = record {
    order = h.order;
    traversal = from-completed h.order h.traversal;
    attained = sym (peak-same h.order) ∙ h.attained;
    least = λ other t. omega (arith, h.least other (to-completed other t), peak-same other);
  }
