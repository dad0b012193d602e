-- Where one task of a term stands before another in both orders, a path leads from it to the other.
use Rattle.std.proofs.Common.{◌≡◌, ℕ, ◌+◌, true, eqb, List, [], ◌∷◌, ◌++◌, Option, Some, None}
use Rattle.std.proofs.Common.{refl, sym, ap, subst, ◌∙◌, arith, inl, inr, ◌⊎◌}
use Rattle.std.proofs.lemmas.List.Folds.{list_any-append}
use Rattle.std.proofs.lemmas.Bool.{or_cases, or_left, or_right, eqb-true, eq-eqb}
use Rattle.mp_system.specs.Memory.{stands_in}
use Rattle.sp_terms.specs.Term.{Term, hold, series, par, Parts, no_parts, part, IsAllowed, AreAllowed}
use Rattle.sp_terms.specs.SystemOfTerm.{task_count, task_count_of_parts, own_number, items_of_term, items_of_parts, system_of_term}
use Rattle.shared_systems.specs.OneReader.{shared_of}
use Rattle.shared_systems.proofs.SameSystems.{from_own}
use Rattle.shared_systems.proofs.WithoutCollectors.{stood}
use Rattle.shared_systems.specs.Paths.{StandsBefore, IsRealizer}
use Rattle.term_orders.specs.declared.side.Side.{Side}
use Rattle.term_orders.specs.declared.side.Side.TheVariants.{FirstPart, LastPart}
use Rattle.term_orders.specs.TermOrders.{order_of, order_of_parts}
use Rattle.term_orders.proofs.TermWays.{order_traversal}
use Rattle.term_orders.proofs.TermPaths.{Path, on_left, on_right, onto, comes_after, IsFrom, to_end, from_start}

-- ---- what stands in the orders

stands-cases : (xs ys : List ℕ) (u : ℕ) → stands_in (xs ++ ys) u ≡ true → (stands_in xs u ≡ true) ⊎ (stands_in ys u ≡ true)
stands-cases xs ys u e = or_cases (stands_in xs u) (stands_in ys u) (sym (list_any-append (λ w. eqb w u) xs ys) ∙ e)

mutual
  from_term : (side : Side) (base : ℕ) (t : Term) (u : ℕ) → stands_in (order_of side base t) u ≡ true → IsFrom base (task_count t) u
  from_term side base (hold size) u e = absurd cc
  from_term side base (series a v b) u e =
      let own = own_number base a b in
      let next = base + task_count a in
      elim (stands-cases (order_of side base a) (own ∷ order_of side next b) u e) [
        | inl early ↦ (let is = from_term side base a u early in (is.0, omega (arith, is.1)))
        | inr late ↦ elim (or_cases (eqb own u) (stands_in (order_of side next b) u) late) [
          | inl here ↦ (let same : own ≡ u = eqb-true own u here in (omega (arith, same), omega (arith, same)))
          | inr after ↦ (let is = from_term side next b u after in (omega (arith, is.0), omega (arith, is.1)))
        ]
      ]
  from_term side base (par ts) u e = from_parts side base ts u e

  from_parts : (side : Side) (base : ℕ) (ts : Parts) (u : ℕ) → stands_in (order_of_parts side base ts) u ≡ true
      → IsFrom base (task_count_of_parts ts) u
  from_parts side base no_parts u e = absurd cc
  from_parts FirstPart base (part t ts) u e =
      elim (stands-cases (order_of FirstPart base t) (order_of_parts FirstPart (base + task_count t) ts) u e) [
        | inl here ↦ (let is = from_term FirstPart base t u here in (is.0, omega (arith, is.1)))
        | inr other ↦ (let is = from_parts FirstPart (base + task_count t) ts u other in (omega (arith, is.0), omega (arith, is.1)))
      ]
  from_parts LastPart base (part t ts) u e =
      elim (stands-cases (order_of_parts LastPart (base + task_count t) ts) (order_of LastPart base t) u e) [
        | inl other ↦ (let is = from_parts LastPart (base + task_count t) ts u other in (omega (arith, is.0), omega (arith, is.1)))
        | inr here ↦ (let is = from_term LastPart base t u here in (is.0, omega (arith, is.1)))
      ]

-- ---- who stands before whom in two lists, one after the other

-- both in the first list, one in each, or both in the second
abbrev Apart : List ℕ → List ℕ → ℕ → ℕ → Type 0
Apart xs ys u v = StandsBefore xs u v ⊎ (((stands_in xs u ≡ true) × (stands_in ys v ≡ true)) ⊎ StandsBefore ys u v)

stands_mid : (before rest : List ℕ) (v : ℕ) → stands_in (before ++ v ∷ rest) v ≡ true
stands_mid [] rest v = or_left (eqb v v) (stands_in rest v) (eq-eqb v v refl)
stands_mid (x ∷ before) rest v = or_right (eqb x v) (stands_in (before ++ v ∷ rest) v) (stands_mid before rest v)

at_head : (x u v : ℕ) (xs ys : List ℕ) → x ≡ u → stands_in (xs ++ ys) v ≡ true → Apart (x ∷ xs) ys u v
at_head x u v xs ys same e = elim (stands-cases xs ys v e) [
  | inl here ↦ (
      let there = stood xs v here in
      inl (record {
        before = x ∷ there.first;
        rest = there.last;
        split = ap (λ (l : List ℕ). x ∷ l) there.split;
        stands = or_left (eqb x u) (stands_in there.first u) (eq-eqb x u same);
      }))
  | inr other ↦ inr (inl (or_left (eqb x u) (stands_in xs u) (eq-eqb x u same), other))
]

shifted : (x u v : ℕ) (xs ys : List ℕ) → Apart xs ys u v → Apart (x ∷ xs) ys u v
shifted x u v xs ys (inl both) = inl (record {
  before = x ∷ both.before;
  rest = both.rest;
  split = ap (λ (l : List ℕ). x ∷ l) both.split;
  stands = or_right (eqb x u) (stands_in both.before u) both.stands;
})
shifted x u v xs ys (inr (inl each)) = inr (inl (or_right (eqb x u) (stands_in xs u) each.0, each.1))
shifted x u v xs ys (inr (inr both)) = inr (inr both)

apart : (xs ys before rest : List ℕ) (u v : ℕ) → xs ++ ys ≡ before ++ v ∷ rest → stands_in before u ≡ true → Apart xs ys u v
apart [] ys before rest u v e stands = inr (inr (record { before = before; rest = rest; split = e; stands = stands }))
apart (x ∷ xs) ys [] rest u v e stands = absurd cc
apart (x ∷ xs) ys (b ∷ before) rest u v e stands =
    let head : x ≡ b = cc in
    let tail : xs ++ ys ≡ before ++ v ∷ rest = cc in
    elim (or_cases (eqb b u) (stands_in before u) stands) [
      | inl here ↦ at_head x u v xs ys (head ∙ eqb-true b u here)
          (ap (λ (l : List ℕ). stands_in l v) tail ∙ stands_mid before rest v)
      | inr later ↦ shifted x u v xs ys (apart xs ys before rest u v tail later)
    ]

parted : (xs ys : List ℕ) (u v : ℕ) → StandsBefore (xs ++ ys) u v → Apart xs ys u v
parted xs ys u v b = apart xs ys b.before b.rest u v b.split b.stands

-- the earlier and the later one stand in the list
earlier_stands : (xs : List ℕ) (u v : ℕ) → StandsBefore xs u v → stands_in xs u ≡ true
earlier_stands xs u v b =
    ap (λ (l : List ℕ). stands_in l u) b.split ∙ list_any-append (λ w. eqb w u) b.before (v ∷ b.rest)
    ∙ or_left (stands_in b.before u) (stands_in (v ∷ b.rest) u) b.stands

later_stands : (xs : List ℕ) (u v : ℕ) → StandsBefore xs u v → stands_in xs v ≡ true
later_stands xs u v b = ap (λ (l : List ℕ). stands_in l v) b.split ∙ stands_mid b.before b.rest v

-- both in one of the lists, where they are known not to stand in the other
in_first_list : (xs ys : List ℕ) (u v : ℕ) → (stands_in ys v ≡ true → ⊥) → StandsBefore (xs ++ ys) u v → StandsBefore xs u v
in_first_list xs ys u v missing b = elim (parted xs ys u v b) [
  | inl both ↦ both
  | inr (inl each) ↦ absurd (missing each.1)
  | inr (inr both) ↦ absurd (missing (later_stands ys u v both))
]

in_second_list : (xs ys : List ℕ) (u v : ℕ) → (stands_in xs u ≡ true → ⊥) → StandsBefore (xs ++ ys) u v → StandsBefore ys u v
in_second_list xs ys u v missing b = elim (parted xs ys u v b) [
  | inl both ↦ absurd (missing (earlier_stands xs u v both))
  | inr (inl each) ↦ absurd (missing each.0)
  | inr (inr both) ↦ both
]

-- after a first element that is not the earlier one
after_head : (x : ℕ) (xs : List ℕ) (u v : ℕ) → (x ≡ u → ⊥) → StandsBefore (x ∷ xs) u v → StandsBefore xs u v
after_head x xs u v other b =
    in_second_list (x ∷ []) xs u v
    (λ e. elim (or_cases (eqb x u) (stands_in [] u) e) [ inl here ↦ other (eqb-true x u here) | inr never ↦ absurd cc ]) b

alone : (x u v : ℕ) → StandsBefore (x ∷ []) u v → ⊥
alone x u v b = alone_at b.before b.rest b.split b.stands
  where
    alone_at : (before rest : List ℕ) → x ∷ [] ≡ before ++ v ∷ rest → stands_in before u ≡ true → ⊥
    alone_at [] rest e stands = absurd cc
    alone_at (y ∷ []) rest e stands = absurd cc
    alone_at (y ∷ z ∷ before) rest e stands = absurd cc

-- ---- both orders

mutual
  both_lead : (base : ℕ) (from to : Option ℕ) (t : Term) (u v : ℕ) → IsAllowed t
      → StandsBefore (order_of FirstPart base t) u v → StandsBefore (order_of LastPart base t) u v
      → Path (items_of_term base from to t) u v
  both_lead base from to (hold size) u v allowed one two = absurd (let e = earlier_stands [] u v one in cc)
  both_lead base from to (series a w b) u v allowed one two =
      let own = own_number base a b in
      let next = base + task_count a in
      let first = order_of FirstPart base a in
      let second = order_of FirstPart next b in
      let left = items_of_term base from (Some own) a in
      let right = items_of_term next (Some own) to b in
      elim (parted first (own ∷ second) u v one) [
        | inl both ↦ (
            let is = from_term FirstPart base a v (later_stands first u v both) in
            on_left left right u v (both_lead base from (Some own) a u v allowed.2 both
            (in_first_list (order_of LastPart base a) (own ∷ order_of LastPart next b) u v
            (λ e. elim (or_cases (eqb own v) (stands_in (order_of LastPart next b) v) e) [
              | inl here ↦ (let same : own ≡ v = eqb-true own v here in omega (arith, same, is.1))
              | inr after ↦ (let there = from_term LastPart next b v after in omega (arith, there.0, is.1))
            ]) two)))
        | inr (inl each) ↦ (
            let up = on_left left right u own (to_end base own from a u allowed.2 (from_term FirstPart base a u each.0)) in
            elim (or_cases (eqb own v) (stands_in second v) each.1) [
              | inl here ↦ subst (λ (x : ℕ). Path (left ++ right) u x) (eqb-true own v here) up
              | inr after ↦ onto up (on_right left right own v (from_start next own to b v allowed.3 (from_term FirstPart next b v after)))
            ])
        | inr (inr later) ↦ elim (parted (own ∷ []) second u v later) [
          | inl both ↦ absurd (alone own u v both)
          | inr (inl each) ↦ elim (or_cases (eqb own u) (stands_in [] u) each.0) [
            | inl here ↦ subst (λ (x : ℕ). Path (left ++ right) x v) (eqb-true own u here)
                (on_right left right own v (from_start next own to b v allowed.3 (from_term FirstPart next b v each.1)))
            | inr never ↦ absurd cc
          ]
          | inr (inr both) ↦ (
              let is = from_term FirstPart next b u (earlier_stands second u v both) in
              on_right left right u v (both_lead next (Some own) to b u v allowed.3 both
              (after_head own (order_of LastPart next b) u v (λ same. omega (arith, same, is.1))
              (in_second_list (order_of LastPart base a) (own ∷ order_of LastPart next b) u v
              (λ e. let there = from_term LastPart base a u e in omega (arith, there.1, is.0)) two))))
        ]
      ]
  both_lead base from to (par ts) u v allowed one two = both_lead_parts base from to ts u v allowed.1 one two

  both_lead_parts : (base : ℕ) (from to : Option ℕ) (ts : Parts) (u v : ℕ) → AreAllowed ts
      → StandsBefore (order_of_parts FirstPart base ts) u v → StandsBefore (order_of_parts LastPart base ts) u v
      → Path (items_of_parts base from to ts) u v
  both_lead_parts base from to no_parts u v allowed one two = absurd (let e = earlier_stands [] u v one in cc)
  both_lead_parts base from to (part t ts) u v allowed one two =
      let next = base + task_count t in
      let own = order_of FirstPart base t in
      let others = order_of_parts FirstPart next ts in
      let left = items_of_term base from to t in
      let right = items_of_parts next from to ts in
      elim (parted own others u v one) [
        | inl both ↦ (
            let is = from_term FirstPart base t u (earlier_stands own u v both) in
            on_left left right u v (both_lead base from to t u v allowed.0 both
            (in_second_list (order_of_parts LastPart next ts) (order_of LastPart base t) u v
            (λ e. let there = from_parts LastPart next ts u e in omega (arith, there.0, is.1)) two)))
        | inr (inl each) ↦ (
            let is = from_term FirstPart base t u each.0 in
            let late = in_second_list (order_of_parts LastPart next ts) (order_of LastPart base t) u v
            (λ e. let there = from_parts LastPart next ts u e in omega (arith, there.0, is.1)) two in
            let there = from_term LastPart base t v (later_stands (order_of LastPart base t) u v late) in
            let here = from_parts FirstPart next ts v each.1 in
            absurd (omega (arith, there.1, here.0)))
        | inr (inr both) ↦ (
            let is = from_parts FirstPart next ts v (later_stands others u v both) in
            on_right left right u v (both_lead_parts next from to ts u v allowed.1 both
            (in_first_list (order_of_parts LastPart next ts) (order_of LastPart base t) u v
            (λ e. let there = from_term LastPart base t v e in omega (arith, there.1, is.0)) two)))
      ]

pub realizer : (t : Term) → IsAllowed t → IsRealizer (shared_of (system_of_term t)) (order_of FirstPart 1 t) (order_of LastPart 1 t)
realizer t allowed = record {
  first_traversal = from_own (system_of_term t) (order_of FirstPart 1 t) (order_traversal FirstPart t allowed);
  second_traversal = from_own (system_of_term t) (order_of LastPart 1 t) (order_traversal LastPart t allowed);
  both = λ u v one two. comes_after (system_of_term t) u v (both_lead 1 None None t u v allowed one two);
}
