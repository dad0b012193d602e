-- The numbers of joins: which tasks have one, and that each join has a task.
use Rattle.std.proofs.Common.{◌≡◌, ℕ, zero, suc, ◌+◌, ◌-◌, ◌<◌, ◌≤◌, Bool, true, false, cond, ◌&&◌, eqb, eq-eqb, List, [], ◌∷◌, ◌++◌}
use Rattle.std.proofs.Common.{length, get_or, take, max, refl, sym, ap, subst, ◌∙◌, arith, inl, inr}
use Rattle.std.specs.List.{list_all}
use Rattle.std.proofs.lemmas.List.{take_more, take_all}
use Rattle.std.proofs.lemmas.Bool.{cases_Bool, cases_eq, and_parts, and_from, ne_eqb}
use Rattle.lists.proofs.Orders.{le_or_lt}
use Rattle.row_table.specs.Rows.{numbers_with}
use Rattle.shared_systems.specs.Shared.{SharedTaskSystem}
use Rattle.joined_systems.specs.Joins.{AreJoins, AreSafeJoins, join_count}

-- ---- the tasks of a join

pub numbers_cons : (j : ℕ) (joins : List ℕ) (first k : ℕ)
    → numbers_with (j ∷ joins) first k ≡ cond (eqb j k) (first ∷ []) [] ++ numbers_with joins (first + 1) k
numbers_cons j joins first k = elim (cases_Bool (eqb j k)) [ inl here ↦ rw here refl | inr other ↦ rw other refl ]

-- what holds of all tasks of the join holds of each
pub all_at : (done : ℕ → Bool) (joins : List ℕ) (first k i : ℕ) → i < length joins → get_or joins i 0 ≡ k
    → list_all done (numbers_with joins first k) ≡ true → done (first + i) ≡ true
all_at done [] first k i lt is all = absurd (omega arith)
all_at done (j ∷ joins) first k zero lt is all =
    let first_is : first ≡ first + zero = omega arith in
    let all' : list_all done (cond (eqb j k) (first ∷ []) [] ++ numbers_with joins (first + 1) k) ≡ true =
    ap (list_all done) (sym (numbers_cons j joins first k)) ∙ all in
    let all'' : (done first && list_all done (numbers_with joins (first + 1) k)) ≡ true = rw (eq-eqb j k is) at all' in
    subst (λ (v : ℕ). done v ≡ true) first_is ((and_parts (done first) (list_all done (numbers_with joins (first + 1) k)) all'').0)
all_at done (j ∷ joins) first k (suc i) lt is all =
    let next : first + 1 + i ≡ first + suc i = omega arith in
    let all' : list_all done (cond (eqb j k) (first ∷ []) [] ++ numbers_with joins (first + 1) k) ≡ true =
    ap (list_all done) (sym (numbers_cons j joins first k)) ∙ all in
    let rest : list_all done (numbers_with joins (first + 1) k) ≡ true = later (eqb j k) (numbers_with joins (first + 1) k) all' in
    subst (λ (v : ℕ). done v ≡ true) next (all_at done joins (first + 1) k i (omega arith) is rest)
  where
    later : (b : Bool) (vs : List ℕ) → list_all done (cond b (first ∷ []) [] ++ vs) ≡ true → list_all done vs ≡ true
    later true vs e = (and_parts (done first) (list_all done vs) e).1
    later false vs e = e

-- and the other way round
pub all_from : (done : ℕ → Bool) (joins : List ℕ) (first k : ℕ)
    → ((i : ℕ) → i < length joins → get_or joins i 0 ≡ k → done (first + i) ≡ true) → list_all done (numbers_with joins first k) ≡ true
all_from done [] first k each = refl
all_from done (j ∷ joins) first k each =
    let next : (i : ℕ) → first + 1 + i ≡ first + suc i = λ i. omega arith in
    let rest = all_from done joins (first + 1) k
    (λ i lt is. subst (λ (v : ℕ). done v ≡ true) (sym (next i)) (each (suc i) (omega arith) is)) in
    let first_is : first + zero ≡ first = omega arith in
    ap (list_all done) (numbers_cons j joins first k) ∙ elim (cases_eq j k) [
      | inl same ↦ rw (eq-eqb j k same) (and_from (done first) (list_all done (numbers_with joins (first + 1) k))
          (subst (λ (v : ℕ). done v ≡ true) first_is (each zero (omega arith) same)) rest)
      | inr other ↦ rw (ne_eqb j k other) rest
    ]

-- ---- counts

pub join-le : (joins : List ℕ) (i : ℕ) → get_or joins i 0 ≤ join_count joins
join-le [] i = omega arith
join-le (j ∷ joins) zero = omega arith
join-le (j ∷ joins) (suc i) = omega (arith, join-le joins i)

pub count-push : (joins : List ℕ) (j : ℕ) → join_count (joins ++ j ∷ []) ≡ max (join_count joins) j
count-push [] j = omega arith
count-push (i ∷ joins) j = omega (arith, count-push joins j)

pub count_more : (joins : List ℕ) (i : ℕ) → i < length joins → join_count (take (i + 1) joins) ≡ max (join_count (take i joins)) (get_or joins i 0)
count_more joins i lt = ap join_count (take_more joins i 0 lt) ∙ count-push (take i joins) (get_or joins i 0)

-- ---- joins that are counted from 1 each have a task

module _ (joins : List ℕ) (counted : (i : ℕ) → i < length joins → get_or joins i 0 ≤ join_count (take i joins) + 1) where
  found : (k m : ℕ) → 1 ≤ k → m ≤ length joins → k ≤ join_count (take m joins) → (i : ℕ) × ((i < length joins) × (get_or joins i 0 ≡ k))
  found k zero some le high = absurd (omega arith)
  found k (suc m) some le high =
      let next : suc m ≡ m + 1 = omega arith in
      let high' : k ≤ join_count (take (m + 1) joins) = subst (λ (i : ℕ). k ≤ join_count (take i joins)) next high in
      elim (le_or_lt k (join_count (take m joins))) [
        | inl before ↦ found k m some (omega arith) before
        | inr past ↦ (m, (omega arith, omega (arith, count_more joins m (omega arith), counted m (omega arith))))
      ]

pub safe : (system : SharedTaskSystem) (joins : List ℕ) → AreJoins system joins → AreSafeJoins system joins
safe system joins are = record {
  len = are.len;
  same = λ u v one two some e. (are.same u v one two some (λ none. some (e ∙ none))).0 e;
  used = λ k some high. (
      let all : take (length joins) joins ≡ joins = take_all (length joins) joins (omega arith) in
      let there = found joins are.counted k (length joins) some (omega arith)
      (subst (λ (l : List ℕ). k ≤ join_count l) (sym all) high) in
      let place : there.0 + 1 - 1 ≡ there.0 = omega arith in
      (there.0 + 1, ((omega arith, omega (arith, there.1.0, are.len)), ap (λ (i : ℕ). get_or joins i 0) place ∙ there.1.1))
      );
}

-- there are no more joins than tasks
pub few_joins : (system : SharedTaskSystem) (joins : List ℕ) → AreJoins system joins → join_count joins ≤ length joins
few_joins system joins are =
    let all : take (length joins) joins ≡ joins = take_all (length joins) joins (omega arith) in
    omega (arith, up_to (length joins) (omega arith), ap join_count all)
  where
    up_to : (m : ℕ) → m ≤ length joins → join_count (take m joins) ≤ m
    up_to zero le = omega arith
    up_to (suc m) le =
        let next : suc m ≡ m + 1 = omega arith in
        let here = ap (λ (i : ℕ). join_count (take i joins)) next in
        omega (arith, here, count_more joins m (omega arith), are.counted m (omega arith), up_to m (omega arith))
