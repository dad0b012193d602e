-- A term renamed is a net: its arcs are the items, and no name stands twice.
use Rattle.std.proofs.Common.{◌≡◌, ℕ, ◌+◌, ◌<◌, ◌≤◌, refl, sym, ap, arith, ◌∙◌, List, ◌++◌, map, Option, Some, None, option_map}
use Rattle.std.specs.Prelude.{IsPermutation}
use Rattle.std.specs.List.{sum_by}
use Rattle.std.proofs.lemmas.List.{append-nil, map-append}
use Rattle.std.proofs.lemmas.List.Sorted.{sum_by-IsPermutation}
use Rattle.mp_system.specs.declared.system.Item.{Item}
use Rattle.mp_system.specs.Renaming.{renamed}
use Rattle.sp_terms.specs.Term.{Term, Parts, no_parts, part}
use Rattle.sp_terms.specs.Term as terms
use Rattle.sp_terms.specs.SystemOfTerm.{task_count, task_count_of_parts, own_number, items_of_term, items_of_parts}
use Rattle.sp_reduce.specs.Nets.{arcs, times, IsDistinct, hits}
use Rattle.sp_reduce.specs.NetGraphs.{arc_weight, Makes}
use Rattle.sp_reduce.specs.Reduced.{HasOne, HasParts, AllHaveParts}
use Rattle.sp_reduce.specs.Shapes.{named, all_named}
use Rattle.sp_reduce.proofs.Ends.{split, hits-same, hits-le}
use Rattle.sp_reduce.proofs.Whole.{weigh-arcs}

-- the arcs of the net are the items, renamed, in order
mutual
  pub named-arcs : (f : ℕ → ℕ) (base : ℕ) (from to : Option ℕ) (t : Term) → HasParts t
      → arcs (option_map f from) (option_map f to) (named f base t) ≡ map (renamed f) (items_of_term base from to t)
  named-arcs f base from to (terms.hold n) g = refl
  named-arcs f base from to (terms.series a v b) g =
      let m = own_number base a b in
      (λ i. named-arcs f base from (Some m) a g.0 i ++ named-arcs f (base + task_count a) (Some m) to b g.1 i)
      ∙ sym (map-append (renamed f) (items_of_term base from (Some m) a) (items_of_term (base + task_count a) (Some m) to b))
  named-arcs f base from to (terms.par ts) g = all-named-arcs f base from to ts g.0 g.1

  all-named-arcs : (f : ℕ → ℕ) (base : ℕ) (from to : Option ℕ) (ts : Parts) → HasOne ts → AllHaveParts ts
      → arcs (option_map f from) (option_map f to) (all_named f base ts) ≡ map (renamed f) (items_of_parts base from to ts)
  all-named-arcs f base from to no_parts s g = absurd s
  all-named-arcs f base from to (part t no_parts) s g =
      named-arcs f base from to t g.0 ∙ ap (map (renamed f)) (sym (append-nil (items_of_term base from to t)))
  all-named-arcs f base from to (part t (part u us)) s g =
      (λ i. named-arcs f base from to t g.0 i ++ all-named-arcs f (base + task_count t) from to (part u us) tt g.1 i)
      ∙ sym (map-append (renamed f) (items_of_term base from to t) (items_of_parts (base + task_count t) from to (part u us)))

-- no name stands twice where the renaming has an inverse
pub record Once (f g : ℕ → ℕ) (base count v n : ℕ) : Type 0 where
  pub once : n ≤ 1
  pub place : 1 ≤ n → (base ≤ g v) × (g v < base + count)

module _ (f g : ℕ → ℕ) (n : ℕ) (back : (k : ℕ) → 1 ≤ k → k < n → g (f k) ≡ k) where
  mutual
    named-once : (base : ℕ) (t : Term) (v : ℕ) → 1 ≤ base → HasParts t
        → base + task_count t ≤ n → Once f g base (task_count t) v (times v (named f base t))
    named-once base (terms.hold size) v low k r = record { once = omega arith; place = λ h. absurd (omega arith) }
    named-once base (terms.series a w b) v low k r =
        let m = own_number base a b in
        let x = named-once base a v low k.0 (omega arith) in
        let y = named-once (base + task_count a) b v (omega arith) k.1 (omega arith) in
        let z : 1 ≤ hits (Some (f m)) (Some v) → g v ≡ m =
        λ h. ap g (same (hits-same (Some (f m)) (Some v) h)) ∙ back m (omega arith) (omega arith) in
        split 1 (times v (named f base a))
        (λ h. split 1 (times v (named f (base + task_count a) b))
        (λ l. absurd (omega (arith, x.place h, y.place l)))
        (λ l. split 1 (hits (Some (f m)) (Some v))
        (λ i. absurd (omega (arith, x.place h, z i)))
        (λ i. record { once = omega (arith, x.once); place = λ n. omega (arith, x.place h) })))
        (λ h. split 1 (times v (named f (base + task_count a) b))
        (λ l. split 1 (hits (Some (f m)) (Some v))
        (λ i. absurd (omega (arith, y.place l, z i)))
        (λ i. record { once = omega (arith, y.once); place = λ n. omega (arith, y.place l) }))
        (λ l. record { once = omega (arith, hits-le (Some (f m)) (Some v)); place = λ n. let e = z (omega arith) in omega (arith, e) }))
      where
        same : {p q : ℕ} → ◌≡◌ {A = Option ℕ} (Some q) (Some p) → p ≡ q
        same e = cc
    named-once base (terms.par ts) v low k r = all-named-once base ts v low k.0 k.1 r

    all-named-once : (base : ℕ) (ts : Parts) (v : ℕ) → 1 ≤ base → HasOne ts → AllHaveParts ts
        → base + task_count_of_parts ts ≤ n → Once f g base (task_count_of_parts ts) v (times v (all_named f base ts))
    all-named-once base no_parts v low s k r = absurd s
    all-named-once base (part t no_parts) v low s k r = let x = named-once base t v low k.0 (omega arith) in
        record { once = x.once; place = λ h. omega (arith, x.place h) }
    all-named-once base (part t (part u us)) v low s k r =
        let x = named-once base t v low k.0 (omega arith) in
        let y = all-named-once (base + task_count t) (part u us) v (omega arith) tt k.1 (omega arith) in
        split 1 (times v (named f base t))
        (λ h. split 1 (times v (all_named f (base + task_count t) (part u us)))
        (λ l. absurd (omega (arith, x.place h, y.place l)))
        (λ l. record { once = omega (arith, x.once); place = λ n. omega (arith, x.place h) }))
        (λ h. record { once = omega (arith, y.once); place = λ n. omega (arith, y.place (omega arith)) })

  named-distinct : (t : Term) → HasParts t → 1 + task_count t ≤ n → IsDistinct (named f 1 t)
  named-distinct t k r v = (named-once 1 t v (omega arith) k r).once

-- a term whose items, renamed, are the graph's arcs gives a net that makes the graph
pub items-made : (f g : ℕ → ℕ) (t : Term) → ((k : ℕ) → 1 ≤ k → k < 1 + task_count t → g (f k) ≡ k) → HasParts t → (graph : List Item)
    → IsPermutation (map (renamed f) (items_of_term 1 None None t)) graph → Makes (named f 1 t) graph
items-made f g t back good graph p = record {
  distinct = named-distinct f g (1 + task_count t) back t good (omega arith);
  arcs = λ h. weigh-arcs h None None (named f 1 t) ∙ ap (sum_by (arc_weight h)) (named-arcs f 1 None None t good)
      ∙ sym (sum_by-IsPermutation (arc_weight h) (map (renamed f) (items_of_term 1 None None t)) graph p);
}
