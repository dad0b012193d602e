-- The term of a graph has the graph's system under its names.
use Rattle.std.proofs.Common.{◌≡◌, ◌∙◌, ℕ, ◌+◌, Bool, true, false, cond, refl, sym, ap, arith, List, [], ◌∷◌, map, Option, Some, None}
use Rattle.std.specs.Prelude.{option_map, ◌||◌, not, ◌==◌}
use Rattle.std.specs.List.{sum_by, filter}
use Rattle.std.proofs.lemmas.List.Sums.{sum_by-cons}
use Rattle.std.proofs.lemmas.List.Sorted.{sum_by-IsPermutation}
use Rattle.mp_system.specs.declared.system.Item.{Item}
use Rattle.mp_system.specs.Renaming.{name_in, renamed, has_producer, is_solid, IsRenamed}
use Rattle.sp_terms.specs.Term.{Term}
use Rattle.sp_terms.specs.SystemOfTerm.{system_of_term}
use Rattle.graphs.specs.Graph.{TaskGraph, completed_system}
use Rattle.sp_reduce.specs.Reduced.{HasSystem}
use Rattle.sp_reduce.proofs.Finish.{items-weighed}

-- a weight of the items that are solid alone
abbrev solid : (Item → ℕ) → Item → ℕ
solid f x = cond (is_solid x) (f x) 0

solid-sum : (f : Item → ℕ) (xs : List Item) → sum_by f (filter is_solid xs) ≡ sum_by (solid f) xs
solid-sum f [] = refl
solid-sum f (x ∷ xs) = omega (arith, here (is_solid x) (filter is_solid xs), sum_by-cons (solid f) x xs, solid-sum f xs) where
  here : (b : Bool) (ys : List Item) → sum_by f (cond b (x ∷ ys) ys) ≡ cond b (f x) 0 + sum_by f ys
  here true ys = sum_by-cons f x ys
  here false ys = omega arith

module _ (name : ℕ → ℕ) where
  named-producer : (o : Option ℕ) → has_producer (option_map name o) ≡ has_producer o
  named-producer None = refl
  named-producer (Some v) = refl

  named-solid : (x : Item) → is_solid (renamed name x) ≡ is_solid x
  named-solid x = ap (λ (b : Bool). b || not (x.size == 0)) (named-producer x.from)

  named-sum : (f : Item → ℕ) (xs : List Item)
      → sum_by f (map (renamed name) (filter is_solid xs)) ≡ sum_by (solid f) (map (renamed name) xs)
  named-sum f [] = refl
  named-sum f (x ∷ xs) =
      omega (
        arith,
        here (is_solid x) (filter is_solid xs),
        sum_by-cons (solid f) (renamed name x) (map (renamed name) xs),
        ap (λ (b : Bool). cond {A = ℕ} b (f (renamed name x)) 0) (named-solid x),
        named-sum f xs,
      )
    where
      here : (b : Bool) (ys : List Item)
          → sum_by f (map (renamed name) (cond b (x ∷ ys) ys)) ≡ cond b (f (renamed name x)) 0 + sum_by f (map (renamed name) ys)
      here true ys = sum_by-cons f (renamed name x) (map (renamed name) ys)
      here false ys = omega arith

pub is-renamed : (graph : TaskGraph) (names : List ℕ) (t : Term)
    → HasSystem names t (completed_system graph) → IsRenamed names (system_of_term t) (completed_system graph)
is-renamed graph names t h = record {
  once = h.once;
  within = h.within;
  tasks = h.tasks;
  items = items-weighed (map (renamed (name_in names)) (filter is_solid (system_of_term t).items))
      (filter is_solid (completed_system graph).items)
      (λ f. named-sum (name_in names) f (system_of_term t).items
      ∙ sym (sum_by-IsPermutation (solid f) (map (renamed (name_in names)) (system_of_term t).items) (completed_system graph).items h.items)
      ∙ sym (solid-sum f (completed_system graph).items));
}
