-- The completed system is within the limits of systems.
use Rattle.std.proofs.Common.{◌≡◌, ℕ, zero, suc, ◌<◌, ◌≤◌, true, cond, eqb, List, [], ◌∷◌}
use Rattle.std.proofs.Common.{length, get_or, map, refl, sym, ap, ◌∙◌, arith, Some}
use Rattle.std.specs.List.{sum_by, All, range_with_len}
use Rattle.std.specs.Option.{ForSome}
use Rattle.std.proofs.lemmas.List.{length-map}
use Rattle.std.proofs.lemmas.List.Elements.{All-append, All-map, All-filter}
use Rattle.std.proofs.lemmas.List.FromFn.{length-range_with_len, get_or-range_with_len}
use Rattle.std.proofs.lemmas.List.Sums.{sum_by-cons}
use Rattle.mp_system.specs.declared.system.Item.{Item}
use Rattle.mp_system.specs.System.{IsSystem, IsItemWithin, is_named, is_input, is_output, size_if, size_where, item_size}
use Rattle.graphs.specs.declared.arc.Arc.{Arc}
use Rattle.graphs.specs.Graph.{TaskGraph, IsAmong, IsGraph, IsArcWithin, end_of, item_of_arc, size_into, size_out_of, arc_size}
use Rattle.graphs.specs.Graph.{arc_between, without_into, without_out, added_arcs, completed_arcs, completed_system}
use Rattle.graphs.proofs.CompletionLemmas.{where-same}

-- ---- ends

named-end : (t v : ℕ) → 1 ≤ v → is_named (end_of t) v ≡ eqb t v
named-end zero zero some = absurd (omega arith)
named-end zero (suc v) some = grind arith
named-end (suc t) v some = refl

pub end-is : (t u : ℕ) → end_of t ≡ Some u → (u ≡ t) × (1 ≤ u)
end-is zero u e = absurd cc
end-is (suc t) u e = let same : suc t ≡ u = cc in (sym same, omega arith)

end-within : (n t : ℕ) → t ≤ n → ForSome (end_of t) (IsAmong n)
end-within n t le u h = let e = end-is t u h in (e.1, omega (arith, e.0))

-- ---- the arcs

numbers-among : (n : ℕ) → All (IsAmong n) (range_with_len 1 n)
numbers-among n i d lt =
    let short : i < n = omega (arith, length-range_with_len 1 n, lt) in
    let at = get_or-range_with_len 1 n i d short in (omega (arith, at), omega (arith, at, short))

pub completed-within : (n : ℕ) (arcs : List Arc) → All (IsArcWithin n) arcs → All (IsArcWithin n) (completed_arcs n arcs)
completed-within n arcs own =
    let first : All (IsArcWithin n) (map (λ v. arc_between 0 v) (without_into n arcs)) =
    All-map (IsArcWithin n) (λ v. arc_between 0 v) (without_into n arcs)
    (λ i d lt. let among = All-filter _ (IsAmong n) (range_with_len 1 n) (numbers-among n) i d lt in
    record { from = omega arith; to = among.1; apart = λ e. refl; size = omega arith }) in
    let last : All (IsArcWithin n) (map (λ v. arc_between v 0) (without_out n arcs)) =
    All-map (IsArcWithin n) (λ v. arc_between v 0) (without_out n arcs)
    (λ i d lt. let among = All-filter _ (IsAmong n) (range_with_len 1 n) (numbers-among n) i d lt in
    record { from = among.1; to = omega arith; apart = λ e. e; size = omega arith }) in
    All-append (IsArcWithin n) arcs (added_arcs n arcs) own
    (All-append (IsArcWithin n) (map (λ v. arc_between 0 v) (without_into n arcs))
    (map (λ v. arc_between v 0) (without_out n arcs)) first last)

-- ---- sums

into-size : (v : ℕ) (x : Arc) → 1 ≤ v → size_if (is_input v) (item_of_arc x) ≡ size_into v x
into-size v x some = ap (λ b. cond b x.size 0) (named-end x.to v some)

out-size : (v : ℕ) (x : Arc) → 1 ≤ v → size_if (is_output v) (item_of_arc x) ≡ size_out_of v x
out-size v x some = ap (λ b. cond b x.size 0) (named-end x.from v some)

inputs-arcs : (v : ℕ) (xs : List Arc) → 1 ≤ v → size_where (is_input v) (map item_of_arc xs) ≡ sum_by (size_into v) xs
inputs-arcs v [] some = refl
inputs-arcs v (x ∷ xs) some =
    omega (
      arith,
      sum_by-cons (size_if (is_input v)) (item_of_arc x) (map item_of_arc xs),
      sum_by-cons (size_into v) x xs,
      into-size v x some,
      inputs-arcs v xs some,
    )

outputs-arcs : (v : ℕ) (xs : List Arc) → 1 ≤ v → size_where (is_output v) (map item_of_arc xs) ≡ sum_by (size_out_of v) xs
outputs-arcs v [] some = refl
outputs-arcs v (x ∷ xs) some =
    omega (
      arith,
      sum_by-cons (size_if (is_output v)) (item_of_arc x) (map item_of_arc xs),
      sum_by-cons (size_out_of v) x xs,
      out-size v x some,
      outputs-arcs v xs some,
    )

always-sizes : (items : List Item) → size_where (λ x. true) items ≡ sum_by item_size items
always-sizes [] = refl
always-sizes (x ∷ xs) = omega (arith, sum_by-cons (size_if (λ y. true)) x xs, sum_by-cons item_size x xs, always-sizes xs)

arc-sizes : (xs : List Arc) → sum_by item_size (map item_of_arc xs) ≡ sum_by arc_size xs
arc-sizes [] = refl
arc-sizes (x ∷ xs) = omega (arith, sum_by-cons item_size (item_of_arc x) (map item_of_arc xs), sum_by-cons arc_size x xs, arc-sizes xs)

-- ---- the whole

pub completed-is_system : (graph : TaskGraph) → IsGraph graph → IsSystem (completed_system graph)
completed-is_system graph is =
    let n = length graph.tasks in
    let all = completed_arcs (length graph.tasks) graph.arcs in
    let within = completed-within (length graph.tasks) graph.arcs is.arcs in
    let sizes : sum_by item_size (map item_of_arc all) ≡ sum_by arc_size graph.arcs =
    sym (always-sizes (map item_of_arc all)) ∙ where-same graph (λ x. true)
    ∙ always-sizes (map item_of_arc graph.arcs) ∙ arc-sizes graph.arcs in
    record {
      few_tasks = is.few_tasks;
      few_items = omega (arith, length-map all item_of_arc, is.few_arcs);
      tasks = is.tasks;
      items = All-map (IsItemWithin (completed_system graph)) item_of_arc all
          (λ i d lt. let w = within i d lt in
          record { size = w.size; producer = end-within n (get_or all i d).from w.from; consumer = end-within n (get_or all i d).to w.to });
      total = omega (arith, sizes, is.total);
      shares = λ v task.
          let fits = is.shares v task in
          let into = where-same graph (is_input v) ∙ inputs-arcs v graph.arcs task.0 in
          let out = where-same graph (is_output v) ∙ outputs-arcs v graph.arcs task.0 in
          (omega (arith, fits.0, into), omega (arith, fits.1, out));
    }
